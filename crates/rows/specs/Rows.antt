-- Row polynomials modulo p: rows of N words each, one after the other, row j the coefficient of Y^j.
--   rows_of s N rows j t        row j, column t of the polynomial whose rows stand in s; 0 from row `rows` on
--   table rows N a             the words of rows 0..rows − 1 of a, N columns each
--   rows_checks ..              the checks of sum and difference
--   product_checks ..          of the product
--   shift_checks ..             of the shift: its number c stands after the coefficients
--   row_sum p D N f g           f + g: that of two series of all their words, all of them known
--   mul p a b j t              the coefficient of Y^j X^t of a · b: the sum over i = 0..j of row i of a times row j − i of b
--   row_product ..              the words of the product
--   line_power p c m j          the coefficient of Y^j of (Y + c)^m
--   shifted p rows c f j t     the coefficient of Y^j X^t of f(Y + c): the sum over i of row i of f times (Y + c)^i
--   row_shift ..                the words of the shift
--   unit t                     the series 1, 0, 0, ..
--   monic d a                  Y^d and the rows of a below d
--   rows_below q s N rows from to   columns from..to − 1 of the rows are below q
-- The difference is that of two such series.
-- Assumes nothing.
use Rattle.std.specs.Prelude.{ℕ, zero, suc, ◌+◌, ◌-◌, ◌*◌, ◌%◌, Bool, List, [], ◌∷◌, ◌++◌, leb, ltb, eqb}
use Rattle.algebra.specs.Sums.{sum_to}
use Rattle.numbers.specs.Words.{word, choose, all_to, tabulate}
use Rattle.numbers.specs.Refusals.{Check, check, room_check, input_checks, operation_checks}
use Rattle.series.specs.Series.{sums}

unfoldable pub rows_of : List ℕ → (N rows : ℕ) → ℕ → ℕ → ℕ
rows_of s N rows j t = choose (ltb j rows) (word s (j * N + t)) 0

unfoldable pub table : (rows N : ℕ) → (ℕ → ℕ → ℕ) → List ℕ
table zero N a = []
table (suc j) N a = table j N a ++ tabulate N (a j)

abbrev pub rows_checks : (p D N : ℕ) (f g : List ℕ) (room : ℕ) → List Check
rows_checks p D N f g room = operation_checks p N f (D + 1) g (D + 1) (D + 1) room

abbrev pub product_checks : (p D₁ D₂ N : ℕ) (f g : List ℕ) (room : ℕ) → List Check
product_checks p D₁ D₂ N f g room = operation_checks p N f (D₁ + 1) g (D₂ + 1) (D₁ + D₂ + 1) room

abbrev pub shift_checks : (p D N : ℕ) (f : List ℕ) (c room : ℕ) → List Check
shift_checks p D N f c room = input_checks p N f (D + 1) [] 0 (D + 1) ++ (check 6 (leb p c) ((D + 1) * N) ∷ room_check room ((D + 1) * N) ∷ [])

abbrev pub row_sum : (p D N : ℕ) (f g : List ℕ) → List ℕ
row_sum p D N f g = let n = (D + 1) * N in sums p n f n g n

unfoldable pub mul : ℕ → (ℕ → ℕ → ℕ) → (ℕ → ℕ → ℕ) → ℕ → ℕ → ℕ
mul p a b j t = sum_to (suc j) (λ i. sum_to (suc t) (λ s. a i s * b (j - i) (t - s))) % p

unfoldable pub row_product : (p D₁ D₂ N : ℕ) (f g : List ℕ) → List ℕ
row_product p D₁ D₂ N f g = table (D₁ + D₂ + 1) N (mul p (rows_of f N (D₁ + 1)) (rows_of g N (D₂ + 1)))

unfoldable pub line_power : (p c m : ℕ) → ℕ → ℕ
line_power p c zero zero = 1
line_power p c zero (suc j) = 0
line_power p c (suc m) zero = c * line_power p c m zero % p
line_power p c (suc m) (suc j) = (c * line_power p c m (suc j) + line_power p c m j) % p

unfoldable pub shifted : (p rows c : ℕ) → (ℕ → ℕ → ℕ) → ℕ → ℕ → ℕ
shifted p rows c f j t = sum_to rows (λ i. f i t * line_power p c i j) % p

unfoldable pub row_shift : (p D N : ℕ) (f : List ℕ) (c : ℕ) → List ℕ
row_shift p D N f c = table (D + 1) N (shifted p (D + 1) c (rows_of f N (D + 1)))

abbrev pub unit : ℕ → ℕ
unit zero = 1
unit (suc t) = 0

unfoldable pub monic : ℕ → (ℕ → ℕ → ℕ) → ℕ → ℕ → ℕ
monic d a j t = choose (ltb j d) (a j t) (choose (eqb j d) (unit t) 0)

unfoldable pub rows_below : (q : ℕ) (s : List ℕ) (N rows from to : ℕ) → Bool
rows_below q s N rows from to = all_to rows (λ j. all_to (to - from) (λ t. ltb (word s (j * N + (from + t))) q))
