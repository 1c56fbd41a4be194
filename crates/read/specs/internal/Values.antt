-- Values as they are kept: rows 0 to 32 at the front of a slice.
--   Stored p n f w r     the words w begin with rows 0 to 32 of the polynomial f, of which r count: its Y-degree is r − 1
--   RowCount r           r is 1 to 33, if there is one
--   Kept p n f w r       w stores f with r rows, or there is no r and f is too high
--   Raised p n f k w r   the same of the k-th power of f, where no power from 1 to k is too high; or there is no r and one of them is
--   TopRows n w total r  the first r of `total` rows count: the others are 0, and row r − 1 is not, unless r is 1
-- Assumes nothing.
use Rattle.std.specs.Prelude.{◌≡◌, true, false, Option, Some, None, List, ℕ, ◌+◌, ◌-◌, ◌*◌, ◌≤◌, ◌<◌}
use Rattle.numbers.specs.Limits.{most_rows}
use Rattle.numbers.specs.Words.{word}
use Rattle.read.specs.Value.{Poly, power_of, degree, high, zero_row, powers_high}

pub record Stored (p n : ℕ) (f : Poly) (w : List ℕ) (rows : ℕ) : Type 0 where
  pub words : (j t : ℕ) → j < most_rows → t < n → word w (j * n + t) ≡ f.row j t
  pub rows_are : rows ≡ degree n f + 1
  pub low : rows ≤ most_rows
  pub below : (j t : ℕ) → f.row j t < p
  pub empty : (j t : ℕ) → f.bound < j → f.row j t ≡ 0

abbrev pub RowCount : Option ℕ → Type 0
RowCount (Some r) = (1 ≤ r) × (r ≤ most_rows)
RowCount None = Unit {0}

abbrev pub Kept : (p n : ℕ) → Poly → List ℕ → Option ℕ → Type 0
Kept p n f w (Some r) = Stored p n f w r
Kept p n f w None = high n f ≡ true

abbrev pub Raised : (p n : ℕ) → Poly → (k : ℕ) → List ℕ → Option ℕ → Type 0
Raised p n f k w (Some r) = Stored p n (power_of p f k) w r × (powers_high p n f k ≡ false)
Raised p n f k w None = powers_high p n f k ≡ true

pub record TopRows (n : ℕ) (w : List ℕ) (total r : ℕ) : Type 0 where
  pub some : 1 ≤ r
  pub within : r ≤ total
  pub zeros : (j t : ℕ) → r ≤ j → j < total → t < n → word w (j * n + t) ≡ 0
  pub last : (1 < r → zero_row n (λ t. word w ((r - 1) * n + t)) ≡ false)
