-- What the lift knows. No public contract cites these.
--   PairGiven p D N f d       f is a polynomial of D + 1 rows of N words below p, and d its order
--   PairStart p d N roots size s  what a split of the rows s begins with: d roots, all 0, and a unit in column 0 of row d; size is a word for each of A's rows, and one more
--   leading_column d N k s     column 0 of the k rows from row d on, and 0
--   Begun p D N f h w s       s holds f's columns 0 and h..w − 1, between them the pair's, and 0 from column w on
-- Assumes nothing.
use Rattle.std.specs.Prelude.{ℕ, ◌+◌, ◌*◌, ◌≤◌, ◌<◌, ◌≡◌, List, [], ◌∷◌, ◌++◌, length}
use Rattle.algebra.specs.Prime.{Prime}
use Rattle.numbers.specs.Words.{word, tabulate}
use Rattle.numbers.specs.internal.Facts.{AllBelow}
use Rattle.numbers.specs.internal.Limits.{modulus_bound}
use Rattle.numbers.specs.Limits.{largest_degree, most_rows, largest_width}
use Rattle.rows.specs.Rows.{mul, monic}
use Rattle.pair.specs.Pair.{order, low_rows, high_rows}

pub record PairGiven (p D N : ℕ) (f : List ℕ) (d : ℕ) : Type 0 where
  pub prime : Prime p
  pub small : p < modulus_bound
  pub degree-high : D ≤ largest_degree
  pub width_low : 1 ≤ N
  pub width-high : N ≤ largest_width
  pub f-long : length f ≡ (D + 1) * N
  pub f-below : AllBelow p f
  pub ordered : d ≡ order D N f
  pub bound : d ≤ D

pub record PairStart (p d N : ℕ) (roots : List ℕ) (size : ℕ) (s : List ℕ) : Type 0 where
  pub prime : Prime p
  pub small : p < modulus_bound
  pub low : 1 ≤ d
  pub high : 2 ≤ size
  pub room : d + size ≤ most_rows + 1
  pub roots-long : length roots ≡ d
  pub roots-zero : (i : ℕ) → i < d → word roots i ≡ 0
  pub unit : 1 ≤ word s (d * N)

unfoldable pub leading_column : (d N k : ℕ) (s : List ℕ) → List ℕ
leading_column d N k s = tabulate k (λ j. word s ((d + j) * N)) ++ (0 ∷ [])

pub record Begun (p D N : ℕ) (f : List ℕ) (h w : ℕ) (s : List ℕ) : Type 0 where
  pub long : length s ≡ (D + 1) * N
  pub below : AllBelow p s
  pub first : (j : ℕ) → j < D + 1 → word s (j * N) ≡ word f (j * N)
  pub between : (t : ℕ) → 1 ≤ t → t < h → (j : ℕ) → j < D + 1 → mul p (monic (order D N f) (low_rows N (order D N f) s)) (high_rows D N (order D N f) s) j t ≡ word f (j * N + t)
  pub put : (t : ℕ) → h ≤ t → t < w → (j : ℕ) → j < D + 1 → word s (j * N + t) ≡ word f (j * N + t)
  pub rest : (t : ℕ) → w ≤ t → t < N → (j : ℕ) → j < D + 1 → word s (j * N + t) ≡ 0
