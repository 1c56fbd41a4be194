-- The test of a sound sheet and the conditions of a sound sheet are one.
--   prime-test     prime_test and Prime
--   factors-test   factors_test and IsFactors
--   sound-test     sound_test and Sound
--   spoiled-first, sound-first, passed_first   refusal 13 before other checks
-- Assumes nothing.
use Prim.Native.Nat.{ℕ, suc, ◌-◌, ◌≤◌, ◌<◌}
use native.Mathlib.Omega.{arith}
use mathlib.Core.Path.{◌≡◌, refl, sym, ap}
use mathlib.Core.Logic.{◌↔◌}
use mathlib.Core.Bool.{Bool, true, false, not}
use mathlib.Core.List.{List, ◌∷◌}
use borrow.Author.Tests.{leb-true, le-leb, ltb-true, lt-ltb, eqb-true, eq-eqb, not-false}
use Rattle.algebra.specs.Prime.{Prime}
use Rattle.numbers.specs.Divisor.{least_divisor}
use Rattle.numbers.specs.Refusals.{Check, judge, refusal, Pass, Refuse}
use Rattle.numbers.proofs.RefusalsLaws.{pass-check, take-check, skip-check}
use Rattle.numbers.proofs.WordsLaws.{true-false}
use Rattle.numbers.proofs.TestsLaws.{all-at, ◌&◌, none_left, all_of, all_to-at, at-all_to, eqs, square, lower, past}
use Rattle.numbers.proofs.DivisorLaws.{least-prime, prime-least}
use Rattle.series.proofs.KnownLaws.{rows-known-test}
use Rattle.hensel.specs.Factors.{IsFactors}
use Rattle.numbers.specs.Words.{word}
use Rattle.layout.specs.Layout.{modulus, degree, width, terms, known, lengths_from, polynomial, factor_rows}
use Rattle.sheet.specs.Sheet.{Sound}
use Rattle.sheet.specs.Test.{prime_test, factors_test, header_test, body_test, sound_test}
use Rattle.sheet.specs.Reading.{sound_check}

pub prime-test : (p : ℕ) → (prime_test p ≡ true) ↔ Prime p
unfolding prime_test
prime-test p = (
  λ e. least-prime p (leb-true 2 p (all-at _ e 0)) (let z = eqb-true (least_divisor p) p (all-at _ e 1) in omega arith),
  λ h. all_of (le-leb 2 p h.two-le & eq-eqb (least_divisor p) p (prime-least h) & none_left),
)

-- numbers up to D, and numbers below D + 1
pub upto : {D : ℕ} {P : ℕ → Type 0} → ((j : ℕ) → j < suc D → P j) → (j : ℕ) → j ≤ D → P j
upto h j l = h j (omega arith)

pub upto-back : {D : ℕ} {P : ℕ → Type 0} → ((j : ℕ) → j ≤ D → P j) → (j : ℕ) → j < suc D → P j
upto-back h j l = h j (omega arith)

module _ (p D k r : ℕ) (f : ℕ → ℕ → ℕ) (root power : ℕ → ℕ) (a : ℕ → ℕ → ℕ → ℕ) where
  pub factors-test : (factors_test p D k r f root power a ≡ true) ↔ IsFactors p D k r f root power a
  unfolding factors_test
  factors-test = (
    λ e. record {
      rising = λ i l. ltb-true _ _ (all_to-at (r - 1) _ (all-at _ e 0) i (omega arith));
      reduced = λ i l. ltb-true _ _ (all_to-at r _ (all-at _ e 1) i l);
      powers = λ i l. leb-true _ _ (all_to-at r _ (all-at _ e 2) i l);
      degree = eqb-true _ _ (all-at _ e 3);
      splits = upto ((eqs (suc D) _ _).0 (all-at _ e 4));
      first = λ i l. (eqs (power i) _ _).0 (all_to-at r _ (all-at _ e 5) i l);
      same = upto ((square (suc D) k _ _).0 (all-at _ e 6));
    },
    λ h. all_of (at-all_to (r - 1) _ (λ i l. lt-ltb _ _ (h.rising i (omega arith)))
        & at-all_to r _ (λ i l. lt-ltb _ _ (h.reduced i l))
        & at-all_to r _ (λ i l. le-leb _ _ (h.powers i l))
        & eq-eqb _ _ h.degree
        & (eqs (suc D) _ _).1 (upto-back h.splits)
        & at-all_to r _ (λ i l. (eqs (power i) _ _).1 (h.first i l))
        & (square (suc D) k _ _).1 (upto-back h.same)
        & none_left),
  )

module _ (s : List ℕ) where
  sound-parts : sound_test s ≡ true → (header_test s ≡ true) × (body_test s ≡ true)
  unfolding sound_test
  sound-parts = go (header_test s)
    where
      go : (b : Bool) → (elim b [ true ↦ body_test s | false ↦ false ]) ≡ true → (b ≡ true) × (body_test s ≡ true)
      go true e = (refl, e)
      go false e = true-false (sym e)

  sound-whole : header_test s ≡ true → body_test s ≡ true → sound_test s ≡ true
  unfolding sound_test
  sound-whole e t = rw (sound_test, e) t

  pub sound-test : (sound_test s ≡ true) ↔ Sound s
  unfolding header_test body_test
  sound-test = (
    λ e.
        let t : header_test s ≡ true = (sound-parts e).0 in
        let u : body_test s ≡ true = (sound-parts e).1 in
        record {
          prime = (prime-test (modulus s)).0 (all-at _ t 0);
          small = leb-true _ _ (all-at _ t 1);
          degree-low = leb-true _ _ (all-at _ t 2);
          degree-high = leb-true _ _ (all-at _ t 3);
          width-high = leb-true _ _ (all-at _ t 4);
          terms-low = leb-true _ _ (all-at _ t 5);
          terms-high = leb-true _ _ (all-at _ t 6);
          header = (eqs lengths_from (word s) _).0 (all-at _ t 7);
          long = leb-true _ _ (all-at _ t 8);
          polynomial-reduced = upto ((lower (suc (degree s)) (width s) (modulus s) (polynomial s)).0 (all-at _ u 0));
          polynomial-monic = (eqs (width s) _ _).0 (all-at _ u 1);
          lengths = (rows-known-test (width s) (degree s) (known s) (polynomial s)).0 (all-at _ u 2);
          reached = eqb-true _ _ (all-at _ u 3);
          factors = (factors-test _ _ _ _ _ _ _ _).0 (all-at _ u 4);
          factors-reduced = (lower (degree s) (terms s) (modulus s) (factor_rows s)).0 (all-at _ u 5);
          factors-rest = (past (degree s) (terms s) (width s) (factor_rows s)).0 (all-at _ u 6);
        },
    λ h. sound-whole (all_of (
        (prime-test (modulus s)).1 h.prime
        & le-leb _ _ h.small
        & le-leb _ _ h.degree-low
        & le-leb _ _ h.degree-high
        & le-leb _ _ h.width-high
        & le-leb _ _ h.terms-low
        & le-leb _ _ h.terms-high
        & (eqs lengths_from (word s) _).1 h.header
        & le-leb _ _ h.long
        & none_left
        ))
        (all_of (
        (lower (suc (degree s)) (width s) (modulus s) (polynomial s)).1 (upto-back h.polynomial-reduced)
        & (eqs (width s) _ _).1 h.polynomial-monic
        & (rows-known-test (width s) (degree s) (known s) (polynomial s)).1 h.lengths
        & eq-eqb _ _ h.reached
        & (factors-test _ _ _ _ _ _ _ _).1 h.factors
        & (lower (degree s) (terms s) (modulus s) (factor_rows s)).1 h.factors-reduced
        & (past (degree s) (terms s) (width s) (factor_rows s)).1 h.factors-rest
        & none_left
        )),
  )

-- a call that is lent a sheet judges it first, and then by its own checks
module _ (s : List ℕ) (cs : List Check) where
  pub spoiled-first : ¬ Sound s → judge (sound_check s ∷ cs) ≡ Refuse (refusal 13 0)
  spoiled-first h = go (sound_test s) refl
    where
      go : (b : Bool) → sound_test s ≡ b → judge (sound_check s ∷ cs) ≡ Refuse (refusal 13 0)
      go true e = absurd (h ((sound-test s).0 e))
      go false e = take-check (sound_check s) cs (ap not e)

  pub sound-first : Sound s → judge (sound_check s ∷ cs) ≡ judge cs
  sound-first h = skip-check (sound_check s) cs (ap not ((sound-test s).1 h))

  pub passed_first : judge (sound_check s ∷ cs) ≡ Pass → Sound s × (judge cs ≡ Pass)
  passed_first e = let a = pass-check (sound_check s) cs e in ((sound-test s).0 (not-false (sound_test s) a.0), a.1)
