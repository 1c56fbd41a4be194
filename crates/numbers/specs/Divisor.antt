-- Divisors and inverses, by search.
--   least_divisor p   the least divisor of p above 1, for p from 2 up: a prime's is the prime itself
--   inverse_of p a    the first x below p with a · x = 1 modulo p
-- Assumes nothing.
use Rattle.std.specs.Prelude.{ℕ, ◌-◌, ◌*◌, ◌%◌, eqb}
use Rattle.numbers.specs.Words.{first_where}

unfoldable pub least_divisor : ℕ → ℕ
least_divisor p = first_where (λ d. eqb (p % d) 0) 2 (p - 2)

unfoldable pub inverse_of : ℕ → ℕ → ℕ
inverse_of p a = first_where (λ x. eqb (a * x % p) 1) 0 p
