-- Laws of `monic`: Y^d and rows below it.
-- Assumes nothing.
use Prim.Native.Nat.{ℕ, zero, suc, ◌≤◌, ◌<◌}
use native.Mathlib.Nat.{eq-or-lt_of_le, le_of_suc-le-suc, lt_of_not-le}
use native.Mathlib.Decide.{dec_le}
use native.Mathlib.Omega.{arith}
use mathlib.Core.Path.{◌≡◌, refl, sym, ◌∙◌, subst}
use mathlib.Core.Logic.{⊎_elim}
use borrow.Author.Tests.{lt-ltb, le-ltb, eq-eqb, ne_eqb}
use Rattle.rows.specs.Rows.{unit, monic}

pub unit-lt : (p t : ℕ) → 2 ≤ p → unit t < p
unit-lt p zero two = two
unit-lt p (suc t) two = omega arith

pub monic-low : (d : ℕ) (a : ℕ → ℕ → ℕ) (j t : ℕ) → j < d → monic d a j t ≡ a j t
unfolding monic
monic-low d a j t l = simp (lt-ltb j d l)

pub monic-top : (d : ℕ) (a : ℕ → ℕ → ℕ) (t : ℕ) → monic d a d t ≡ unit t
unfolding monic
monic-top d a t = simp (le-ltb d d (omega arith), eq-eqb d d refl)

pub monic-above : (d : ℕ) (a : ℕ → ℕ → ℕ) (j t : ℕ) → d < j → monic d a j t ≡ 0
unfolding monic
monic-above d a j t l = simp (le-ltb j d (omega arith), ne_eqb j d (λ e. let z : ⊥ = omega arith in z))

-- by the place of j: below d, at d, above d
pub by_place : (A : ℕ → Type 0) (d : ℕ) → ((j : ℕ) → j < d → A j) → A d → ((j : ℕ) → d < j → A j) → (j : ℕ) → A j
by_place A d low top high j = go (dec_le (suc j) d)
  where
    go : Dec (suc j ≤ d) → A j
    go (yes l) = low j l
    go (no l) = ⊎_elim (λ (e : d ≡ j). subst A e top) (high j) (eq-or-lt_of_le (le_of_suc-le-suc (lt_of_not-le l)))

pub monic-ext : (d : ℕ) (a a' : ℕ → ℕ → ℕ) (t : ℕ) → ((j : ℕ) → j < d → a j t ≡ a' j t) → (j : ℕ) → monic d a j t ≡ monic d a' j t
monic-ext d a a' t h =
    by_place (λ j. monic d a j t ≡ monic d a' j t) d (λ j g. monic-low d a j t g ∙ h j g ∙ sym (monic-low d a' j t g)) (monic-top d a t ∙ sym (monic-top d a' t))
    (λ j g. monic-above d a j t g ∙ sym (monic-above d a' j t g))

-- the leading row has column 0 alone
pub monic-later : (d : ℕ) (a : ℕ → ℕ → ℕ) (j t : ℕ) → d ≤ j → monic d a j (suc t) ≡ 0
monic-later d a j t l = ⊎_elim (λ (e : d ≡ j). subst (λ x. monic d a x (suc t) ≡ 0) e (monic-top d a (suc t))) (monic-above d a j (suc t)) (eq-or-lt_of_le l)
