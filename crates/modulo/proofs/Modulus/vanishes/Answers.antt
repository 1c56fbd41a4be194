-- `modulo::Modulus::vanishes` meets its contract. The loop's invariant: the words are the n-th power of Y^p − Y.
-- Assumes nothing.
use mathlib.Core.Path.{◌≡◌, subst}
use mathlib.Core.Bool.{Bool, true, false}
use mathlib.Core.List.{List}
use Prim.Native.Nat.{ℕ, ◌*◌, ◌<◌}
use native.Mathlib.Nat.{mul-one}
use lib.ListN.{length}
use Rattle.std.specs.Bool.{MatchBool}
use Rattle.std.specs.List.{AllWithin, HoldsAt}
use Rattle.numbers.specs.Words.{word, first_nonzero}
use Rattle.numbers.proofs.WordsLaws.{true-false, nonzero-before}
use native.Mathlib.Omega.{arith}
use Rattle.std.proofs.Common.{rules, tests}
use Rattle.std.proofs.lemmas.Iterator.{cases_from_all, YieldsList-from_slice}
use Rattle.modulo.proofs.SplitLaws.{power-first, power-squared, test-fails}
use Rattle.modulo.proofs.ProductLaws.{modulus-at}
use Rattle.modulo.proofs.Modulus.vanishes.Goals as goal

-- where not every word is 0, some word is not
some_word : (s : List ℕ) (d : ℕ) (r : Bool) → d ≡ length s → r ≡ false → MatchBool r (AllWithin (λ x. x ≡ 0) s 0 (length s)) ((k : ℕ) × (k < length s) × HoldsAt (λ x. x ≡ 0 → ⊥) s k)
    → first_nonzero d (λ i. word s (i * 1)) ≡ d → ⊥
some_word s d true n e h z = true-false e
some_word s d false n e h z =
    h.2 0 (subst (λ i. word s i ≡ 0) (mul-one h.0) (nonzero-before d (λ i. word s (i * 1)) h.0 (omega (arith, h.1))))

pub loop-n-init : goal.loop-n-init
loop-n-init c =
    (omega arith, power-first c.args.self.p c.args.self.f.now c.args.w.now c.requires.2)

pub loop-n-preserved : goal.loop-n-preserved
loop-n-preserved c =
    let a = c.args in
    let o = c.loop-n in
    (omega arith, power-squared a.self.p a.self.f.now o.n o.w _ o.invariant.1 c.square.ensures)

pub returns : goal.returns
returns c =
    let o = c.loop-n in
    let found = cases_from_all _ _ _ (λ x. x ≡ 0) (λ x. x ≡ 0 → ⊥) c.all.ensures.ran (YieldsList-from_slice o.w cc) (λ x q k. search (rules, tests)) (λ x q k. search (rules, tests)) in
    λ e. test-fails c.args.self.p c.args.self.f.now _ o.n o.w c.requires.0 (modulus-at c.args.self.fits c.requires.1) (omega arith) o.invariant.1 (some_word o.w _ _ (omega arith) e found)
