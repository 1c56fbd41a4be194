-- The Weierstrass pair, by its conditions, and its words.
--   order_of rows f          the order of f: the least j with row j not 0 at X = 0; `rows` where every row is 0 there
--   IsPair p D k d f b c    d is the order of f, and P = Y^d + b and A = c, of D − d + 1 rows, are its pair to k terms
--   given, order            the rows of the polynomial whose words are f, and its order
--   low_rows, high_rows       rows 0..d − 1, which are b, and rows d..D, which are c
--   PairWords p D N f k s   the words of the pair to k terms; columns from k up are 0
-- Assumes nothing.
use Rattle.std.specs.Prelude.{ℕ, ◌+◌, ◌-◌, ◌*◌, ◌≤◌, ◌<◌, ◌≡◌, ◌≢◌, List, drop}
use Rattle.numbers.specs.Words.{word, first_nonzero}
use Rattle.rows.specs.Rows.{rows_of, mul, monic}

unfoldable pub order_of : ℕ → (ℕ → ℕ → ℕ) → ℕ
order_of rows f = first_nonzero rows (λ j. f j 0)

pub record IsPair (p D k d : ℕ) (f b c : ℕ → ℕ → ℕ) : Type 0 where
  pub bound : d ≤ D
  pub there : f d 0 ≢ 0
  pub least : (j : ℕ) → j < d → f j 0 ≡ 0
  pub first : (j : ℕ) → j < d → b j 0 ≡ 0
  pub height : (j t : ℕ) → D < d + j → c j t ≡ 0
  pub unit : c 0 0 ≢ 0
  pub same : (j : ℕ) → j ≤ D → (t : ℕ) → t < k → mul p (monic d b) c j t ≡ f j t

-- the rows of f, of b and of c
abbrev pub given : (D N : ℕ) → List ℕ → ℕ → ℕ → ℕ
given D N f = rows_of f N (D + 1)

abbrev pub order : (D N : ℕ) → List ℕ → ℕ
order D N f = order_of (D + 1) (given D N f)

abbrev pub low_rows : (N d : ℕ) → List ℕ → ℕ → ℕ → ℕ
low_rows N d s = rows_of s N d

abbrev pub high_rows : (D N d : ℕ) → List ℕ → ℕ → ℕ → ℕ
high_rows D N d s = rows_of (drop (d * N) s) N (D + 1 - d)

pub record PairWords (p D N : ℕ) (f : List ℕ) (k : ℕ) (s : List ℕ) : Type 0 where
  pub pair : IsPair p D k (order D N f) (given D N f) (low_rows N (order D N f) s) (high_rows D N (order D N f) s)
  pub reduced : (j : ℕ) → j < D + 1 → (t : ℕ) → t < k → word s (j * N + t) < p
  pub rest : (j : ℕ) → j < D + 1 → (t : ℕ) → k ≤ t → t < N → word s (j * N + t) ≡ 0
