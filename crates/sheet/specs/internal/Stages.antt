-- What the last stages of the test of a sheet decide. A sheet is sound exactly where its front fits (`Front`), its polynomial has factors, and the rows stored are
-- theirs (`sound-front`, `sound-split`, `sound-same`; `stages-sound`).
--   SplitFits          at X = 0 the polynomial is the product of the powers of Y − c
--   Loaded s roots powers   these are the roots and the powers that the sheet lists
--   block_rows          the rows of factor i among rows of n words
--   Computed s w rows  the rows are those of the factors of the sheet's polynomial to w terms; columns from w up are 0
--   SameTerms ..       the stored rows of n words are the computed ones below column k, and 0 from there on
--   WorkedOut ..       whether there are factors, and then their rows
-- Assumes nothing.
use Rattle.std.specs.Prelude.{ℕ, ◌+◌, ◌*◌, ◌≤◌, ◌<◌, ◌≡◌, Bool, true, false, List, length}
use Rattle.algebra.specs.Sums.{sum_to}
use Rattle.numbers.specs.Words.{word, up_to}
use Rattle.numbers.specs.internal.Facts.{AllBelow}
use Rattle.hensel.specs.Factors.{split, IsFactors}
use Rattle.layout.specs.Layout.{modulus, degree, width, count, root, power, polynomial}

abbrev pub SplitFits : List ℕ → Type 0
SplitFits s = (j : ℕ) → j ≤ degree s → split (modulus s) (count s) (root s) (power s) j ≡ polynomial s j 0

pub record Loaded (s roots powers : List ℕ) : Type 0 where
  pub roots-long : length roots ≡ count s
  pub powers-long : length powers ≡ count s
  pub roots-are : (i : ℕ) → i < count s → word roots i ≡ root s i
  pub powers-are : (i : ℕ) → i < count s → word powers i ≡ power s i

-- the rows of factor i among rows of n words
abbrev pub block_rows : (n : ℕ) (power : ℕ → ℕ) (rows : List ℕ) → ℕ → ℕ → ℕ → ℕ
block_rows n power rows i j t = word rows ((sum_to i power + j) * n + t)

pub record Computed (s : List ℕ) (w : ℕ) (rows : List ℕ) : Type 0 where
  pub long : length rows ≡ degree s * width s
  pub below : AllBelow (modulus s) rows
  pub factors : IsFactors (modulus s) (degree s) w (count s) (polynomial s) (root s) (power s) (block_rows (width s) (power s) rows)
  pub rest : (j : ℕ) → j < degree s → (t : ℕ) → w ≤ t → t < width s → word rows (j * width s + t) ≡ 0

abbrev pub SameTerms : (n k rows : ℕ) (stored computed : List ℕ) → Type 0
SameTerms n k rows stored computed = (j : ℕ) → j < rows → (t : ℕ) → t < n → word stored (j * n + t) ≡ up_to k (λ t. word computed (j * n + t)) t

-- whether the polynomial has factors, and then their rows
pub record WorkedOut (s : List ℕ) (w : ℕ) (found : Bool) (rows : List ℕ) : Type 0 where
  pub yes : found ≡ true → Computed s w rows
  pub no : found ≡ false → SplitFits s → ⊥
