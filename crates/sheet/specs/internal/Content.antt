-- A sheet's words, written out from what it holds. No public contract cites these.
--   Content              what a sheet holds: the header's numbers, the known lengths, the roots and powers, and the rows of f and of the factors
--   content_of s          what the slice s holds, by the readers of the layout
--   size c               T
--   header_words c        the eleven words of the header
--   entry c i            root i, then power i
--   sheet_words c         the words of the sheet that holds c
--   block_of, stacked     the block that a row stands in; blocks of rows, one after the other
--   cut k a              a, with 0 from column k on
--   built ..             the content whose factors have the rows a
--   start p root power i the powers of Y − c: the factors' rows with one term
--   Splits ..            at X = 0 f is the product of the powers of Y − c
--   Ready ..             what open needs of p, D, N, the polynomial, the known lengths, the roots and the powers
-- Assumes nothing.
use Rattle.std.specs.Prelude.{ℕ, zero, suc, ◌+◌, ◌-◌, ◌≤◌, ◌<◌, ◌≡◌, List, ◌++◌, ltb}
use Rattle.algebra.specs.Sums.{sum_to}
use Rattle.algebra.specs.Prime.{Prime}
use Rattle.numbers.specs.Words.{first_where, tabulate, up_to, least}
use Rattle.numbers.specs.Limits.{largest_modulus, largest_degree, largest_width}
use Rattle.rows.specs.Rows.{table, unit}
use Rattle.hensel.specs.Factors.{split, flat, root_power}
use Rattle.series.specs.Known.{KnownTo}
use Rattle.layout.specs.Layout.{modulus, degree, width, terms, count, reach, known, total, header_of, root, power, polynomial, factor_rows}

pub record Content : Type 0 where
  pub p : ℕ
  pub D : ℕ
  pub N : ℕ
  pub k : ℕ
  pub r : ℕ
  pub m : ℕ
  pub known : ℕ → ℕ
  pub root : ℕ → ℕ
  pub power : ℕ → ℕ
  pub f : ℕ → ℕ → ℕ
  pub factors : ℕ → ℕ → ℕ

abbrev pub content_of : List ℕ → Content
content_of s = record {
  p = modulus s;
  D = degree s;
  N = width s;
  k = terms s;
  r = count s;
  m = reach s;
  known = known s;
  root = root s;
  power = power s;
  f = polynomial s;
  factors = factor_rows s;
}

abbrev pub size : Content → ℕ
size c = total c.D c.N c.r

abbrev pub header_words : Content → List ℕ
header_words c = header_of c.p c.D c.N c.k c.r c.m

-- root, then power
abbrev pub entry : Content → ℕ → ℕ → ℕ
entry c i zero = c.root i
entry c i (suc t) = c.power i

unfoldable pub sheet_words : Content → List ℕ
sheet_words c =
    header_words c ++ (tabulate c.D c.known ++ (table c.r 2 (entry c) ++ (table (c.D + 1) c.N c.f ++ table c.D c.N c.factors)))

-- the block of r blocks, with m 0, m 1, .. rows, that row q stands in
unfoldable pub block_of : ℕ → (ℕ → ℕ) → ℕ → ℕ
block_of r m q = first_where (λ i. ltb q (sum_to (suc i) m)) 0 r

-- block after block: row q is row j of block i
unfoldable pub stacked : ℕ → (ℕ → ℕ) → (ℕ → ℕ → ℕ → ℕ) → ℕ → ℕ → ℕ
stacked r m a q t = a (block_of r m q) (q - sum_to (block_of r m q) m) t

-- 0 from column k on
unfoldable pub cut : ℕ → (ℕ → ℕ → ℕ) → ℕ → ℕ → ℕ
cut k a j t = up_to k (a j) t

abbrev pub built : (p D N k r : ℕ) (known root power : ℕ → ℕ) (f : ℕ → ℕ → ℕ) (a : ℕ → ℕ → ℕ → ℕ) → Content
built p D N k r known root power f a = record {
  p = p;
  D = D;
  N = N;
  k = k;
  r = r;
  m = least N D known;
  known = known;
  root = root;
  power = power;
  f = f;
  factors = cut k (stacked r power a);
}

abbrev pub start : (p : ℕ) (root power : ℕ → ℕ) → ℕ → ℕ → ℕ → ℕ
start p root power i = flat (root_power p (root i) (power i))

pub record Splits (p D r : ℕ) (f : ℕ → ℕ → ℕ) (root power : ℕ → ℕ) : Type 0 where
  pub rising : (i : ℕ) → suc i < r → root i < root (suc i)
  pub reduced : (i : ℕ) → i < r → root i < p
  pub powers : (i : ℕ) → i < r → 1 ≤ power i
  pub degree : sum_to r power ≡ D
  pub splits : (j : ℕ) → j ≤ D → split p r root power j ≡ f j zero

pub record Ready (p D N r : ℕ) (known root power : ℕ → ℕ) (f : ℕ → ℕ → ℕ) : Type 0 where
  pub prime : Prime p
  pub small : p ≤ largest_modulus
  pub degree-low : 1 ≤ D
  pub degree-high : D ≤ largest_degree
  pub width_low : 1 ≤ N
  pub width-high : N ≤ largest_width
  pub reduced : (j : ℕ) → j ≤ D → (t : ℕ) → t < N → f j t < p
  pub top : (t : ℕ) → t < N → f D t ≡ unit t
  pub lengths : (j : ℕ) → j < D → KnownTo N (known j) (f j)
  pub splits : Splits p D r f root power
