-- The content of a sheet, built from the rows of the factors; with it, a sheet for every k up to the least known length.
--   built-good    with rows that are the factors to k terms the content is good
--   solved-good   there is good content for every k from 1 to the least known length
--   start-good    with one term factor i is (Y − c_i)^(m_i)
-- Assumes nothing.
use Prim.Native.Nat.{ℕ, zero, suc, ◌+◌, ◌-◌, ◌≤◌, ◌<◌}
use native.Mathlib.Omega.{arith}
use mathlib.Core.Path.{◌≡◌, refl, sym, ◌∙◌, ap}
use borrow.Author.Tests.{lt-ltb, ltb-true}
use lib.Dec.{ltb}
use Rattle.sheet.specs.internal.Content.{Content, block_of, stacked, cut, built, start, Splits, Ready}
use Rattle.algebra.specs.Sums.{sum_to}
use Rattle.algebra.proofs.SumsLaws.{sum_to-suc, sum_to-mono}
use Rattle.numbers.specs.Words.{least}
use Rattle.numbers.proofs.WordsLaws.{first-is, up-low, up-high, least-le, least-from}
use Rattle.rows.specs.Rows.{monic}
use Rattle.rows.proofs.RowsLaws.{line-lt, line-zero, line-top}
use Rattle.rows.proofs.MonicLaws.{monic-low, monic-top, monic-above, by_place}
use Rattle.hensel.specs.Factors.{product, IsFactors}
use Rattle.hensel.proofs.FactorsLaws.{product-ext, factors-ext}
use Rattle.sheet.proofs.ExistsLaws.{solution, solution-lt, solution-is}
use Rattle.sheet.proofs.SheetsLaws.{factor_of, Good}

block-is : (r : ℕ) (m : ℕ → ℕ) (i j : ℕ) → i < r → j < m i → block_of r m (sum_to i m + j) ≡ i
unfolding block_of
block-is r m i j l g =
    first-is (λ k. ltb (sum_to i m + j) (sum_to (suc k) m)) 0 r i (omega arith) (omega arith) (λ _. lt-ltb (sum_to i m + j) (sum_to (suc i) m) (omega (arith, sum_to-suc i m)))
    (λ k _ u e. let z : ⊥ = omega (arith, ltb-true (sum_to i m + j) (sum_to (suc k) m) e, sum_to-mono (suc k) i m u) in z)

pub stacked-is : (r : ℕ) (m : ℕ → ℕ) (a : ℕ → ℕ → ℕ → ℕ) (i j t : ℕ) → i < r → j < m i → stacked r m a (sum_to i m + j) t ≡ a i j t
unfolding stacked
stacked-is r m a i j t l g =
    ap (λ b. a b (sum_to i m + j - sum_to b m) t) (block-is r m i j l g) ∙ ap (λ x. a i x t) (let z : sum_to i m + j - sum_to i m ≡ j = omega arith in z)

pub cut_low : (k : ℕ) (b : ℕ → ℕ → ℕ) (j t : ℕ) → t < k → cut k b j t ≡ b j t
unfolding cut
cut_low k b j t l = up-low k (b j) t l

pub cut_high : (k : ℕ) (b : ℕ → ℕ → ℕ) (j t : ℕ) → k ≤ t → cut k b j t ≡ 0
unfolding cut
cut_high k b j t l = up-high k (b j) t l

module _ (p D N r : ℕ) (known root power : ℕ → ℕ) (f : ℕ → ℕ → ℕ) (h : Ready p D N r known root power f) where
  module _ (k : ℕ) (low : 1 ≤ k) (high : k ≤ least N D known) (a : ℕ → ℕ → ℕ → ℕ) (lt : (i j t : ℕ) → a i j t < p) (is : IsFactors p D k r f root power a) where
    row_is : (i : ℕ) → i < r → (j : ℕ) → j < power i → (t : ℕ) → t < k → factor_of (built p D N k r known root power f a) i j t ≡ a i j t
    row_is i l j g t v = cut_low k (stacked r power a) (sum_to i power + j) t v ∙ stacked-is r power a i j t l g

    pub built-good : Good (built p D N k r known root power f a)
    unfolding stacked
    built-good = record {
      prime = h.prime;
      small = h.small;
      degree-low = h.degree-low;
      degree-high = h.degree-high;
      width-high = h.width-high;
      terms-low = low;
      terms-high = high;
      reduced = h.reduced;
      top = h.top;
      lengths = h.lengths;
      reached = refl;
      factors = factors-ext p D k r f f root root power power a (factor_of (built p D N k r known root power f a)) low (λ j l t g. refl) (λ i l. refl) (λ i l. refl) row_is is;
      factors-reduced = λ j l t g. rw (cut_low k (stacked r power a) j t g) (lt _ _ t);
      factors-rest = λ j l t g v. cut_high k (stacked r power a) j t g;
    }

  -- the content with k terms of the solution
  unfoldable pub solved : ℕ → Content
  solved k = built p D N k r known root power f (solution h.prime D N r f root power h.splits h.width_low h.reduced h.top)

  pub solved-good : (k : ℕ) → 1 ≤ k → k ≤ least N D known → Good (solved k)
  unfolding solved
  solved-good k low high =
      built-good k low high _ (solution-lt h.prime D N r f root power h.splits h.width_low h.reduced h.top)
      (solution-is h.prime D N r f root power h.splits h.width_low h.reduced h.top k (omega (arith, least-le N known D)))

module _ (p D r : ℕ) (f : ℕ → ℕ → ℕ) (root power : ℕ → ℕ) (two : 1 < p) (h : Splits p D r f root power) where
  start-row : (i j t : ℕ) → t < 1 → monic (power i) (start p root power i) j t ≡ start p root power i j t
  start-row i j zero l =
      by_place (λ j. monic (power i) (start p root power i) j zero ≡ start p root power i j zero) (power i) (λ j g. monic-low (power i) (start p root power i) j zero g)
      (monic-top (power i) (start p root power i) zero ∙ sym (line-top p (p - root i) (power i) two))
      (λ j g. monic-above (power i) (start p root power i) j zero g ∙ sym (line-zero p (p - root i) (power i) j g)) j
  start-row i j (suc t) l = absurd (let z : ⊥ = omega arith in z)

  pub start_is : IsFactors p D 1 r f root power (start p root power)
  start_is = record { rising = h.rising; reduced = h.reduced; powers = h.powers; degree = h.degree; splits = h.splits; first = λ i l j g. refl; same = column }
    where
      column : (j : ℕ) → j ≤ D → (t : ℕ) → t < 1 → product p r (λ i. monic (power i) (start p root power i)) j t ≡ f j t
      column j l zero g = product-ext p 1 r (λ i. monic (power i) (start p root power i)) (start p root power) (λ i u. start-row i) j zero g ∙ h.splits j l
      column j l (suc t) g = absurd (let z : ⊥ = omega arith in z)

pub start-lt : (p : ℕ) (root power : ℕ → ℕ) → 1 < p → (i j t : ℕ) → start p root power i j t < p
start-lt p root power two i j zero = line-lt p (p - root i) (power i) j two
start-lt p root power two i j (suc t) = omega arith

pub start-good : (p D N r : ℕ) (known root power : ℕ → ℕ) (f : ℕ → ℕ → ℕ) → Ready p D N r known root power f → Good (built p D N 1 r known root power f (start p root power))
start-good p D N r known root power f h =
    built-good p D N r known root power f h 1 (omega arith) (least-from N known 1 D h.width_low (λ j l. (h.lengths j l).low)) (start p root power) (start-lt p root power h.prime.two-le) (start_is p D r f root power h.prime.two-le h.splits)
