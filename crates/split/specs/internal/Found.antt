-- What the functions that split know of their words. No public contract cites these.
--   Roots powers c          c holds the roots with repetition, those of a group side by side; a group has as many as its power, and groups rise
--   NodeReady p N w powers c s  the rows in s are monic of the degree that c has, and at X = 0 the product of the lines
--   factor_at                factor i, from its rows
--   Factored ..             the rows of new are those of the factors of old, to w terms
--   Spread roots powers r c     the roots, each as often as its power says
--   RootsListed ..               what `find_factors` is given
--   SplitsAtZero ..         at X = 0 the polynomial is the product of the powers of Y − c
--   Splitting ..            both
--   FactorsTo ..            the rows are those of the factors (`IsFactors`) to w terms, with 0 from column w up
--   Found ..                whether there are factors, and then which
-- Assumes nothing.
use Rattle.std.specs.Prelude.{ℕ, zero, suc, ◌+◌, ◌-◌, ◌*◌, ◌≤◌, ◌<◌, ◌≡◌, Bool, true, false, List, length}
use Rattle.algebra.specs.Sums.{sum_to}
use Rattle.algebra.specs.internal.Ring.{prod}
use Rattle.algebra.specs.Prime.{Prime}
use Rattle.algebra.specs.internal.Fp.{Fp, rem, col}
use Rattle.algebra.specs.internal.Poly.{Columns, lines}
use Rattle.numbers.specs.Words.{word}
use Rattle.numbers.specs.internal.Facts.{AllBelow}
use Rattle.rows.specs.Rows.{line_power, monic}
use Rattle.hensel.specs.Factors.{split, IsFactors}
use Rattle.numbers.specs.internal.Limits.{modulus_bound}
use Rattle.numbers.specs.Limits.{largest_degree, largest_width}
use Rattle.solution.specs.internal.Table.{poly, rows_from}

-- what is known of a node before its split, and after it
pub record Roots (powers c : List ℕ) : Type 0 where
  pub sum : sum_to (length powers) (word powers) ≡ length c
  pub some : (i : ℕ) → i < length powers → 1 ≤ word powers i
  pub same : (i : ℕ) → i < length powers → (x : ℕ) → x < word powers i → word c (sum_to i (word powers) + x) ≡ word c (sum_to i (word powers))
  pub apart : (i a b : ℕ) → a < sum_to i (word powers) → sum_to i (word powers) ≤ b → b < length c → word c a < word c b

pub record NodeReady (p N w : ℕ) (powers c s : List ℕ) : Type 0 where
  pub prime : Prime p
  pub small : p < modulus_bound
  pub width : N ≤ largest_width
  pub terms-low : 1 ≤ w
  pub terms-high : w ≤ N
  pub some : 1 ≤ length powers
  pub roots : Roots powers c
  pub room : length c ≤ largest_degree
  pub c-below : AllBelow p c
  pub long : length s ≡ length c * N
  pub below : AllBelow p s
  pub first : (pos : zero < p) (j : ℕ) → j < length c → rem p pos (word s (j * N)) ≡ lines (Fp p pos) (poly p pos (word c)) (length c) j

abbrev pub factor_at : (powers : List ℕ) (N : ℕ) (s : List ℕ) → ℕ → ℕ → ℕ → ℕ
factor_at powers N s i = monic (word powers i) (rows_from (sum_to i (word powers)) N s)

pub record Factored (p N w : ℕ) (powers c old new : List ℕ) : Type 0 where
  pub long : length new ≡ length old
  pub below : AllBelow p new
  pub first : (i : ℕ) → i < length powers → (j : ℕ) → j < word powers i → word new ((sum_to i (word powers) + j) * N) ≡ line_power p (p - word c (sum_to i (word powers))) (word powers i) j
  pub same : (pos : zero < p) (t : ℕ) → t < w → prod (Columns (Fp p pos)) (length powers) (λ i. col p pos (factor_at powers N new i)) t ≡ col p pos (monic (length c) (rows_from 0 N old)) t
  pub rest : (j : ℕ) → j < length c → (t : ℕ) → w ≤ t → t < N → word new (j * N + t) ≡ word old (j * N + t)

-- the roots, each as often as its power says
abbrev pub Spread : (roots powers : List ℕ) (r : ℕ) (c : List ℕ) → Type 0
Spread roots powers r c = (i : ℕ) → i < r → (x : ℕ) → x < word powers i → word c (sum_to i (word powers) + x) ≡ word roots i

-- what `find_factors` is given: the rows below Y^D of a monic polynomial, roots that rise and powers that come to D
pub record RootsListed (p N w : ℕ) (roots powers s : List ℕ) : Type 0 where
  pub prime : Prime p
  pub small : p < modulus_bound
  pub width : N ≤ largest_width
  pub terms-low : 1 ≤ w
  pub terms-high : w ≤ N
  pub some : 1 ≤ length powers
  pub count : length roots ≡ length powers
  pub rising : (i : ℕ) → suc i < length powers → word roots i < word roots (suc i)
  pub reduced : AllBelow p roots
  pub powers-low : (i : ℕ) → i < length powers → 1 ≤ word powers i
  pub room : sum_to (length powers) (word powers) ≤ largest_degree
  pub long : length s ≡ sum_to (length powers) (word powers) * N
  pub below : AllBelow p s

-- at X = 0 the polynomial is the product of the powers of Y − c
abbrev pub SplitsAtZero : (p N : ℕ) (roots powers s : List ℕ) → Type 0
SplitsAtZero p N roots powers s = (j : ℕ) → j ≤ sum_to (length powers) (word powers)
    → split p (length powers) (word roots) (word powers) j ≡ monic (sum_to (length powers) (word powers)) (rows_from 0 N s) j 0

pub record Splitting (p N w : ℕ) (roots powers s : List ℕ) : Type 0 where
  pub listed : RootsListed p N w roots powers s
  pub splits : SplitsAtZero p N roots powers s

-- the rows are those of THE factors to w terms; the columns from w up are 0
pub record FactorsTo (p N w : ℕ) (roots powers old new : List ℕ) : Type 0 where
  pub long : length new ≡ length old
  pub below : AllBelow p new
  pub factors : IsFactors p (sum_to (length powers) (word powers)) w (length powers) (monic (sum_to (length powers) (word powers)) (rows_from 0 N old)) (word roots) (word powers)
      (λ i. rows_from (sum_to i (word powers)) N new)
  pub rest : (j : ℕ) → j < sum_to (length powers) (word powers) → (t : ℕ) → w ≤ t → t < N → word new (j * N + t) ≡ 0

-- whether there are factors, and then which
pub record Found (p N w : ℕ) (roots powers old : List ℕ) (found : Bool) (new : List ℕ) : Type 0 where
  pub yes : found ≡ true → FactorsTo p N w roots powers old new
  pub no : found ≡ false → SplitsAtZero p N roots powers old → ⊥
