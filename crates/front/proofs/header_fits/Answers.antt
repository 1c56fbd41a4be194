-- `front::header_fits` meets its contract: the tests in their order.
-- Assumes nothing.
use mathlib.Core.Path.{sym, subst, ◌∙◌}
use Prim.Native.Nat.{◌≤◌}
use native.Mathlib.Omega.{arith}
use lib.ListN.{length}
use Rattle.numbers.proofs.TestsLaws.{decides-no, decides-le}
use Rattle.numbers.proofs.RefusalsLaws.{not-pass, told-fine, told-failed}
use Rattle.front.proofs.FrontLaws.{read_fits, fits_read}
use Rattle.front.proofs.header_fits.Goals as goal

pub returns-then-s-lt-LENGTHS_FROM : goal.returns-then-s-lt-LENGTHS_FROM
returns-then-s-lt-LENGTHS_FROM c = decides-no (λ h. let z : ⊥ = omega (arith, h.roomy, c.if-s-lt-LENGTHS_FROM.true) in z)

pub returns-then-is_err : goal.returns-then-is_err
returns-then-is_err c =
    let failed = told-failed _ c.check_modulus.ensures (sym c.is_err.ensures.value ∙ c.if-is_err.true) in
    decides-no (λ f. not-pass _ (sym failed.1 ∙ (fits_read _ _ c.read_header-h.ensures f).modulus-in))

pub returns-then-not-one_to : goal.returns-then-not-one_to
returns-then-not-one_to c = decides-no (λ f. c.one_to.ensures.no (c.if-not-one_to.true) (fits_read _ _ c.read_header-h.ensures f).degree-in)

pub returns-then-h : goal.returns-then-h
returns-then-h c = decides-no (λ f. let l = (fits_read _ _ c.read_header-h.ensures f).width-in in let z : ⊥ = omega (arith, c.if-h.true) in z)

pub returns-then-h-2 : goal.returns-then-h-2
returns-then-h-2 c = decides-no (λ f. let l = (fits_read _ _ c.read_header-h.ensures f).reach-in in let z : ⊥ = omega (arith, c.if-h-2.true) in z)

pub returns-then-not-one_to-2 : goal.returns-then-not-one_to-2
returns-then-not-one_to-2 c = decides-no (λ f. c.one_to-2.ensures.no (c.if-not-one_to-2.true) (fits_read _ _ c.read_header-h.ensures f).terms-in)

pub returns-then-not-one_to-3 : goal.returns-then-not-one_to-3
returns-then-not-one_to-3 c = decides-no (λ f. c.one_to-3.ensures.no (c.if-not-one_to-3.true) (fits_read _ _ c.read_header-h.ensures f).count-in)

pub polynomial_from-requires : goal.polynomial_from-requires
polynomial_from-requires c = let d = c.one_to.ensures.yes c.if-not-one_to.false in let r = c.one_to-3.ensures.yes c.if-not-one_to-3.false in (omega arith, omega arith)

pub returns : goal.returns
returns c =
    let s = c.args.s.now in
    let e = c.polynomial_from.ensures in
    decides-le c.polynomial_from.result (length s)
    (λ l. read_fits _ _ c.read_header-h.ensures (record {
      modulus-in = told-fine _ c.check_modulus.ensures (sym c.is_err.ensures.value ∙ c.if-is_err.false);
      degree-in = c.one_to.ensures.yes c.if-not-one_to.false;
      width-in = c.if-h.false;
      reach-in = c.if-h-2.false;
      terms-in = c.one_to-2.ensures.yes (c.if-not-one_to-2.false);
      count-in = c.one_to-3.ensures.yes c.if-not-one_to-3.false;
      roomy = subst (λ n. n ≤ length s) e l;
    }))
    (λ f. subst (λ n. n ≤ length s) (sym e) (fits_read _ _ c.read_header-h.ensures f).roomy)
