-- What stands before the factors' rows of a sheet fits: what each stage of its test decides. No public contract cites these.
--   OneTo high n       n is from 1 to high
--   HeaderFits         words 0 to 4 and 10, and room for the roots and powers
--   PowersFit          the powers are 1 or more and come to D
--   OffsetsFit         words 5 to 9, and room for all
--   Shape              these three: what is known before a word past the powers is read
--   RootsBelow, RootsRise   the roots are below p, and rise
--   RowsBelow          columns from..to − 1 of rows of n words from word o on are below q
--   top_from            where the polynomial's top row stands
--   PolynomialFits     the polynomial's words are below p, and its top row is 1, 0, 0, ..
--   LengthsFit         each row is known to its length, and word 10 is the least length
--   Front              all of these: what stands before the factors' rows fits
--   SizeOf s n         it does, and n is the number of words of the factors' rows
--   RowsSize s r       r is that number; or there is none, and it does not
-- Assumes nothing.
use Rattle.std.specs.Prelude.{ℕ, ◌+◌, ◌*◌, ◌≤◌, ◌<◌, ◌≡◌, List, length, Option, None, Some}
use Rattle.algebra.specs.Sums.{sum_to}
use Rattle.algebra.specs.Prime.{Prime}
use Rattle.numbers.specs.Words.{word, least}
use Rattle.numbers.specs.Limits.{largest_modulus, largest_degree, largest_width}
use Rattle.series.specs.Known.{KnownTo}
use Rattle.layout.specs.Layout.{rows_at, modulus, degree, width, terms, count, reach, known, roots_from, polynomial_from, factors_from, root, power, polynomial, end}
use Rattle.layout.specs.internal.Places.{roots_offset, polynomial_offset, factors_offset, rest_offset, end_offset}

pub record OneTo (high n : ℕ) : Type 0 where
  pub low : 1 ≤ n
  pub upto : n ≤ high

pub record HeaderFits (s : List ℕ) : Type 0 where
  pub roomy : polynomial_from (degree s) (count s) ≤ length s
  pub prime : Prime (modulus s)
  pub small : modulus s ≤ largest_modulus
  pub degree-low : 1 ≤ degree s
  pub degree-high : degree s ≤ largest_degree
  pub width-high : width s ≤ largest_width
  pub terms-low : 1 ≤ terms s
  pub terms-high : terms s ≤ reach s
  pub reach-high : reach s ≤ width s
  pub count_low : 1 ≤ count s
  pub count-high : count s ≤ degree s

pub record PowersFit (s : List ℕ) (r d : ℕ) : Type 0 where
  pub each : (i : ℕ) → i < r → 1 ≤ power s i
  pub sum : sum_to r (power s) ≡ d

pub record OffsetsFit (s : List ℕ) : Type 0 where
  pub offset-roots : roots_offset s ≡ roots_from (degree s)
  pub offset-polynomial : polynomial_offset s ≡ polynomial_from (degree s) (count s)
  pub offset-factors : factors_offset s ≡ factors_from (degree s) (width s) (count s)
  pub offset-rest : rest_offset s ≡ end s
  pub offset-end : end_offset s ≡ end s
  pub long : end s ≤ length s

pub record Shape (s : List ℕ) : Type 0 where
  pub header : HeaderFits s
  pub powers : PowersFit s (count s) (degree s)
  pub offsets : OffsetsFit s

abbrev pub RootsBelow : List ℕ → ℕ → ℕ → Type 0
RootsBelow s r p = (i : ℕ) → i < r → root s i < p

abbrev pub RootsRise : List ℕ → ℕ → Type 0
RootsRise s r = (i : ℕ) → i + 1 < r → root s i < root s (i + 1)

abbrev pub RowsBelow : (q : ℕ) (s : List ℕ) (o n rows from to : ℕ) → Type 0
RowsBelow q s o n rows from to = (j : ℕ) → j < rows → (t : ℕ) → from ≤ t → t < to → rows_at s o n j t < q

abbrev pub top_from : List ℕ → ℕ
top_from s = polynomial_from (degree s) (count s) + degree s * width s

pub record PolynomialFits (s : List ℕ) : Type 0 where
  pub reduced : RowsBelow (modulus s) s (polynomial_from (degree s) (count s)) (width s) (degree s + 1) 0 (width s)
  pub top : word s (top_from s) ≡ 1
  pub later : RowsBelow 1 s (top_from s) (width s) 1 1 (width s)

pub record LengthsFit (s : List ℕ) : Type 0 where
  pub each : (j : ℕ) → j < degree s → KnownTo (width s) (known s j) (polynomial s j)
  pub reached : reach s ≡ least (width s) (degree s) (known s)

pub record Front (s : List ℕ) : Type 0 where
  pub shape : Shape s
  pub below : RootsBelow s (count s) (modulus s)
  pub rise : RootsRise s (count s)
  pub words : PolynomialFits s
  pub lengths : LengthsFit s

pub record SizeOf (s : List ℕ) (n : ℕ) : Type 0 where
  pub front : Front s
  pub size : n ≡ degree s * width s
  pub room : n ≤ 8192

abbrev pub RowsSize : List ℕ → Option ℕ → Type 0
RowsSize s None = Front s → ⊥
RowsSize s (Some n) = SizeOf s n
