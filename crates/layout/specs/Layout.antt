-- Where the words of a sheet stand: the one place that knows. Roots and factors are counted from 0.
--   rows_at s o N j t                               row j, column t of rows of N words from word o on
--   modulus, degree, width, terms, count           header words 0 to 4: p, D, N, k, r
--   terms_at                                        the place of k, which extend sets
--   reach                                          header word 10: the least known length, which is the most terms that there can be
--   known s j                                      the known length of row j of the polynomial, j below D
--   lengths_from, roots_from, polynomial_from, factors_from, total   where lengths, roots and rows begin, from D, N and r, and T, where they end
--   header_of p D N k r m                           the eleven words of the header
--   root, power, polynomial, factor_rows, factor, end   readers by name
--   factor_from, factor_size, factor_part             where the rows of a factor stand, how many words they have, and these words
--   entry_at s j t                                  where row j, column t of the polynomial stands
--   InColumns s a b i                              word i stands in columns a..b − 1 of the factors' rows
-- Assumes nothing.
use Rattle.std.specs.Prelude.{ℕ, ◌+◌, ◌-◌, ◌*◌, ◌%◌, ◌≤◌, ◌<◌, List, [], ◌∷◌}
use Rattle.algebra.specs.Sums.{sum_to}
use Rattle.numbers.specs.Words.{word, part}

-- row after row, N words each, from word o on
abbrev pub rows_at : List ℕ → ℕ → ℕ → ℕ → ℕ → ℕ
rows_at s o N j t = word s (o + j * N + t)

-- header words
abbrev pub modulus : List ℕ → ℕ
modulus s = word s 0

abbrev pub degree : List ℕ → ℕ
degree s = word s 1

abbrev pub width : List ℕ → ℕ
width s = word s 2

abbrev pub terms_at : ℕ
terms_at = 3

abbrev pub terms : List ℕ → ℕ
terms s = word s terms_at

abbrev pub count : List ℕ → ℕ
count s = word s 4

-- the least of the known lengths: the most terms that there can be
abbrev pub reach : List ℕ → ℕ
reach s = word s 10

-- the header is followed by the known lengths of rows 0..D − 1
abbrev pub lengths_from : ℕ
lengths_from = 11

abbrev pub known : List ℕ → ℕ → ℕ
known s j = word s (lengths_from + j)

-- then come the roots, two words each: root, then power
abbrev pub roots_from : (D : ℕ) → ℕ
roots_from D = lengths_from + D

abbrev pub polynomial_from : (D r : ℕ) → ℕ
polynomial_from D r = roots_from D + 2 * r

abbrev pub factors_from : (D N r : ℕ) → ℕ
factors_from D N r = polynomial_from D r + (D + 1) * N

-- the factors have D rows: T is where they end
abbrev pub total : (D N r : ℕ) → ℕ
total D N r = polynomial_from D r + (2 * D + 1) * N

-- the eleven words of the header
abbrev pub header_of : (p D N k r m : ℕ) → List ℕ
header_of p D N k r m = p ∷ D ∷ N ∷ k ∷ r ∷ roots_from D ∷ polynomial_from D r ∷ factors_from D N r ∷ total D N r ∷ total D N r ∷ m ∷ []

-- readers
abbrev pub root : List ℕ → ℕ → ℕ
root s i = word s (roots_from (degree s) + 2 * i)

abbrev pub power : List ℕ → ℕ → ℕ
power s i = word s (roots_from (degree s) + 2 * i + 1)

abbrev pub end : List ℕ → ℕ
end s = total (degree s) (width s) (count s)

abbrev pub polynomial : List ℕ → ℕ → ℕ → ℕ
polynomial s = rows_at s (polynomial_from (degree s) (count s)) (width s)

-- all factors' rows, and those of factor i
abbrev pub factor_rows : List ℕ → ℕ → ℕ → ℕ
factor_rows s = rows_at s (factors_from (degree s) (width s) (count s)) (width s)

abbrev pub factor : List ℕ → ℕ → ℕ → ℕ → ℕ
factor s i j t = factor_rows s (sum_to i (power s) + j) t

abbrev pub factor_from : List ℕ → ℕ → ℕ
factor_from s i = factors_from (degree s) (width s) (count s) + sum_to i (power s) * width s

abbrev pub factor_size : List ℕ → ℕ → ℕ
factor_size s i = power s i * width s

abbrev pub factor_part : List ℕ → ℕ → List ℕ
factor_part s i = part s (factor_from s i) (factor_size s i)

-- where row j, column t of the polynomial stands
abbrev pub entry_at : List ℕ → ℕ → ℕ → ℕ
entry_at s j t = polynomial_from (degree s) (count s) + j * width s + t

-- word i stands in columns a..b − 1 of the factors' rows
abbrev pub InColumns : List ℕ → (a b i : ℕ) → Type 0
InColumns s a b i =
    let first = factors_from (degree s) (width s) (count s) in
    (first ≤ i) × (i < end s) × (a ≤ (i - first) % width s) × ((i - first) % width s < b)
