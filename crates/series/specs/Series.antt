-- Series modulo p: lists of N words, at t the coefficient of X^t.
--   IsSeries p N s       s is a series of N words below p
--   series_checks ..      the checks of an operation on two series
--   known_checks ..       of one whose operands come with counts a and b of known terms: refusal 21 besides
--   inverse_checks ..     of the inverse
--   sums p N g a h b     g + h, word by word: the terms known in both, and 0 after them
--   differences p n g h  g − h, word by word
--   product_column        column t of g · h is the sum over i = 0..t of g_i · h_(t−i)
--   product p N g a h b  g · h: the terms known in both, and 0 after them
--   quotient_column, quotient   where g does not begin with 0: column t of f / g is (f_t − the sum over i = 1..t of g_i · h_(t−i)) / g_0, from the
--                        columns h before it
-- The inverse of g is the quotient of 1, the series 1, 0, 0, .. What is divided by a g that may begin with 0 stands in specs/Quotient.
-- Assumes nothing.
use Rattle.std.specs.Prelude.{ℕ, zero, suc, ◌+◌, ◌-◌, ◌*◌, ◌%◌, min, ◌≡◌, false, ◌&&◌, List, [], ◌∷◌, ◌++◌, eqb, length}
use Rattle.algebra.specs.Sums.{sum_to}
use Rattle.numbers.specs.Words.{word, tabulate, up_to}
use Rattle.numbers.specs.Divisor.{inverse_of}
use Rattle.numbers.specs.Refusals.{Check, check, unreduced, room_check, input_checks, operation_checks}
use Rattle.series.specs.Known.{known_to, unknown_check}

abbrev pub IsSeries : (p N : ℕ) → List ℕ → Type 0
IsSeries p N s = (length s ≡ N) × (unreduced p s ≡ false)

abbrev pub series_checks : (p N : ℕ) (g h : List ℕ) (room : ℕ) → List Check
series_checks p N g h room = operation_checks p N g 1 h 1 1 room

abbrev pub known_checks : (p N : ℕ) (g : List ℕ) (a : ℕ) (h : List ℕ) (b room : ℕ) → List Check
known_checks p N g a h b room = input_checks p N g 1 h 1 1 ++ (unknown_check (known_to N a (word g) && known_to N b (word h)) ∷ room_check room N ∷ [])

abbrev pub inverse_checks : (p N : ℕ) (g : List ℕ) (room : ℕ) → List Check
inverse_checks p N g room = operation_checks p N g 1 [] 0 1 room ++ (check 12 (eqb (word g 0) 0) 0 ∷ [])

unfoldable pub sums : (p N : ℕ) (g : List ℕ) (a : ℕ) (h : List ℕ) (b : ℕ) → List ℕ
sums p N g a h b = tabulate N (up_to (min a b) (λ t. (word g t + word h t) % p))

unfoldable pub differences : (p n : ℕ) (g h : List ℕ) → List ℕ
differences p n g h = tabulate n (λ t. (word g t + (p - word h t)) % p)

unfoldable pub product_column : (p : ℕ) (g h : List ℕ) → ℕ → ℕ
product_column p g h t = sum_to (t + 1) (λ i. word g i * word h (t - i)) % p

unfoldable pub product : (p N : ℕ) (g : List ℕ) (a : ℕ) (h : List ℕ) (b : ℕ) → List ℕ
product p N g a h b = tabulate N (up_to (min a b) (product_column p g h))

unfoldable pub quotient_column : (p : ℕ) (f g h : List ℕ) → ℕ → ℕ
quotient_column p f g h t = (word f t + (p - sum_to t (λ i. word g (i + 1) * word h (t - (i + 1))) % p)) * inverse_of p (word g 0) % p

unfoldable pub quotient : (p n : ℕ) (f g : List ℕ) → List ℕ
quotient p zero f g = []
quotient p (suc t) f g = quotient p t f g ++ (quotient_column p f g (quotient p t f g) t ∷ [])
