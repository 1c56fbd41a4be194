-- Laws for the checks and the tests: what may be continued.
--   flat-first, beyond-first    examples where two refusals apply: 11 comes before 14, and 14 before 15
-- Assumes nothing.
use mathlib.Core.Path.{◌≡◌, refl, sym, ◌∙◌}
use mathlib.Core.Logic.{⊎_elim}
use mathlib.Core.Bool.{Bool, true, false}
use mathlib.Core.List.{List, [], ◌∷◌}
use Prim.Native.Nat.{ℕ, ◌≤◌, ◌<◌}
use native.Mathlib.Omega.{arith}
use borrow.Author.Tests.{lt-leb, le-leb, eq-eqb, ne_eqb}
use Rattle.algebra.specs.Sums.{sum_to}
use Rattle.numbers.specs.Words.{all, all_to, first_where, first_nonzero, first_large}
use Rattle.numbers.specs.Divisor.{least_divisor}
use Rattle.numbers.specs.Refusals.{judge, refusal, Refuse}
use Rattle.numbers.proofs.WordsLaws.{lt-or-ge, true-false}
use Rattle.rows.specs.Rows.{rows_of, rows_below, mul, monic}
use Rattle.pair.specs.Pair.{order_of}
use Rattle.pair.specs.Test.{product_test, pair_test}
use Rattle.pair.specs.Paired.{held, pair_checks}

-- 0 modulo 2, one row of one word, and two terms wanted
pub flat-first : judge (pair_checks 2 0 1 (0 ∷ []) 0 2 (0 ∷ [])) ≡ Refuse (refusal 11 0)
unfolding judge least_divisor first_large first_where first_nonzero rows_of order_of
flat-first = refl

-- 1 modulo 2, its pair to one term, and none wanted
pub beyond-first : judge (pair_checks 2 0 1 (1 ∷ []) 1 0 (1 ∷ [])) ≡ Refuse (refusal 14 0)
unfolding judge least_divisor first_large first_where first_nonzero rows_of order_of held pair_test product_test rows_below all_to all mul monic sum_to
beyond-first = refl

-- what `held` tests
module _ (p D N : ℕ) (f : List ℕ) (h : ℕ) (s : List ℕ) where
  pub held_start : h ≡ 0 → true ≡ held p D N f h s
  unfolding held
  held_start e = rw (eq-eqb h 0 e)

  pub held-beyond : (h ≡ 0 → ⊥) → N < h → false ≡ held p D N f h s
  unfolding held
  held-beyond ne l = rw (ne_eqb h 0 ne, lt-leb h N l)

  pub held-tested : {b : Bool} → (h ≡ 0 → ⊥) → h ≤ N → b ≡ pair_test p D N f h s → b ≡ held p D N f h s
  unfolding held
  held-tested ne l e = rw (ne_eqb h 0 ne, le-leb h N l) e

  -- what it says of a pair to be continued
  pub held-words : held p D N f h s ≡ true → 1 ≤ h → (h ≤ N) × (pair_test p D N f h s ≡ true)
  held-words e one =
      let ne : h ≡ 0 → ⊥ = λ z. omega arith in
      ⊎_elim (λ (l : N < h). true-false (sym e ∙ sym (held-beyond ne l))) (λ (l : h ≤ N). (l, held-tested ne l refl ∙ e)) (lt-or-ge N h)

  pub words-held : (1 ≤ h → (h ≤ N) × (pair_test p D N f h s ≡ true)) → held p D N f h s ≡ true
  words-held w =
      ⊎_elim (λ (l : h < 1). sym (held_start (let e : h ≡ 0 = omega arith in e)))
      (λ (l : 1 ≤ h). sym (held-tested (λ z. let y : ⊥ = omega arith in y) (w l).0 refl) ∙ (w l).1) (lt-or-ge h 1)
