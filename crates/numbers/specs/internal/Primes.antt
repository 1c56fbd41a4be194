-- The primes that are tried as divisors.
--   is_prime k           k, from 2 up, is its own least divisor
--   primes_between a b   the primes from a up to b, b left out, rising
--   first_among p s      the first number of s that divides p; p itself where there is none, and where one whose square is past p comes first
--   in_table s           the numbers of s are from 2 to 4,095
-- Assumes nothing.
use Rattle.std.specs.Prelude.{ℕ, ◌-◌, ◌*◌, ◌%◌, Bool, true, false, List, [], ◌∷◌, eqb, ltb}
use Rattle.numbers.specs.Words.{choose, outside, all_where}
use Rattle.numbers.specs.Divisor.{least_divisor}
use Rattle.numbers.specs.internal.Limits.{table_bound}

abbrev pub is_prime : ℕ → Bool
is_prime k = eqb (least_divisor k) k

abbrev pub primes_between : ℕ → ℕ → List ℕ
primes_between a b = all_where is_prime a (b - a)

unfoldable pub first_among : ℕ → List ℕ → ℕ
first_among p [] = p
first_among p (q ∷ s) = choose (ltb p (q * q)) p (choose (eqb (p % q) 0) q (first_among p s))

unfoldable pub in_table : List ℕ → Bool
in_table [] = true
in_table (q ∷ s) = choose (outside 2 (table_bound - 1) q) false (in_table s)
