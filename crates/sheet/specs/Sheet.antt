-- What a sound sheet is, and which sheet holds what open was given.
--   Sound s            all that is asked of a sheet, clause by clause; it depends on the words alone
--   Given, given_of     what open is given: p, D, N, the rows of the polynomial, the known lengths of rows 0..D − 1 and the roots
--   whole_of ..         the same where all these rows are known to N
--   given-reach g      the most terms that its sheet can have
--   given-polynomial g its polynomial
--   Holds g k s        s is a sound sheet that holds what open was given, with k terms
-- Assumes nothing.
use Rattle.std.specs.Prelude.{ℕ, ◌≤◌, ◌<◌, ◌≡◌, List, length}
use Rattle.algebra.specs.Prime.{Prime}
use Rattle.numbers.specs.Words.{word, tabulate, least}
use Rattle.numbers.specs.Limits.{largest_modulus, largest_degree, largest_width}
use Rattle.series.specs.Known.{KnownTo}
use Rattle.rows.specs.Rows.{unit}
use Rattle.hensel.specs.Factors.{IsFactors}
use Rattle.layout.specs.Layout.{rows_at, modulus, degree, width, terms, count, reach, known, lengths_from, header_of, root, power, end, polynomial, factor_rows, factor}

-- Sound, clause by clause.
pub record Sound (s : List ℕ) : Type 0 where
  -- the header
  pub prime : Prime (modulus s)
  pub small : modulus s ≤ largest_modulus
  pub degree-low : 1 ≤ degree s
  pub degree-high : degree s ≤ largest_degree
  pub width-high : width s ≤ largest_width
  pub terms-low : 1 ≤ terms s
  pub terms-high : terms s ≤ reach s
  pub header : (i : ℕ) → i < lengths_from → word s i ≡ word (header_of (modulus s) (degree s) (width s) (terms s) (count s) (reach s)) i
  pub long : end s ≤ length s
  -- the polynomial: words below p, row D is 1, 0, 0, ..
  pub polynomial-reduced : (j : ℕ) → j ≤ degree s → (t : ℕ) → t < width s → polynomial s j t < modulus s
  pub polynomial-monic : (t : ℕ) → t < width s → polynomial s (degree s) t ≡ unit t
  -- each row but row D is known to its length, and word 10 is the least length
  pub lengths : (j : ℕ) → j < degree s → KnownTo (width s) (known s j) (polynomial s j)
  pub reached : reach s ≡ least (width s) (degree s) (known s)
  -- roots, powers and factors
  pub factors : IsFactors (modulus s) (degree s) (terms s) (count s) (polynomial s) (root s) (power s) (factor s)
  pub factors-reduced : (j : ℕ) → j < degree s → (t : ℕ) → t < terms s → factor_rows s j t < modulus s
  pub factors-rest : (j : ℕ) → j < degree s → (t : ℕ) → terms s ≤ t → t < width s → factor_rows s j t ≡ 0

-- What open is given: p, D, N, the rows of the polynomial, the known lengths of rows 0..D − 1 and the roots.
pub record Given : Type 0 where
  pub p : ℕ
  pub D : ℕ
  pub N : ℕ
  pub rows : List ℕ
  pub lengths : List ℕ
  pub roots : List ℕ

abbrev pub given_of : (p D N : ℕ) (rows lengths roots : List ℕ) → Given
given_of p D N rows lengths roots = record { p = p; D = D; N = N; rows = rows; lengths = lengths; roots = roots }

abbrev pub whole_of : (p D N : ℕ) (rows roots : List ℕ) → Given
whole_of p D N rows roots = given_of p D N rows (tabulate D (λ _. N)) roots

-- the most terms that its sheet can have: the least of the known lengths
abbrev pub given-reach : Given → ℕ
given-reach g = least g.N g.D (word g.lengths)

abbrev pub given-polynomial : Given → ℕ → ℕ → ℕ
given-polynomial g = rows_at g.rows 0 g.N

-- a sound sheet that holds what open was given, with k terms
pub record Holds (g : Given) (k : ℕ) (s : List ℕ) : Type 0 where
  pub sound : Sound s
  pub same-modulus : modulus s ≡ g.p
  pub same-degree : degree s ≡ g.D
  pub same_width : width s ≡ g.N
  pub same-lengths : (j : ℕ) → j < degree s → known s j ≡ word g.lengths j
  pub same_count : count s ≡ length g.roots
  pub same-roots : (i : ℕ) → i < count s → root s i ≡ word g.roots i
  pub same-polynomial : (j : ℕ) → j ≤ degree s → (t : ℕ) → t < width s → polynomial s j t ≡ given-polynomial g j t
  pub same-terms : terms s ≡ k
