-- What the loops of the kernel add up before they reduce. No public contract cites these.
--   pass_sum a b j skip count     for the coefficient of Y^j: row i of a along row j − i of b, `count` columns of each from column `skip` on
--   weight_sum f n weights t      column t of the first rows in f, as many as there are weights, each times its weight
--   next_weight p c w i           the coefficient of Y^(j+1) of (Y + c)^i, from w, those of Y^j
-- Assumes nothing.
use Rattle.std.specs.Prelude.{ℕ, zero, suc, ◌+◌, ◌-◌, ◌*◌, ◌%◌, List, length}
use Rattle.algebra.specs.Sums.{sum_to}
use Rattle.numbers.specs.Words.{word}

unfoldable pub pass_sum : (a b : ℕ → ℕ → ℕ) (j skip count : ℕ) → ℕ
pass_sum a b j skip count = sum_to (suc j) (λ i. sum_to count (λ s. a i (skip + s) * b (j - i) (skip + (count - (s + 1)))))

unfoldable pub weight_sum : (f : List ℕ) (n : ℕ) (weights : List ℕ) (t : ℕ) → ℕ
weight_sum f n weights t = sum_to (length weights) (λ i. word f (i * n + t) * word weights i)

unfoldable pub next_weight : (p c : ℕ) (w : ℕ → ℕ) → ℕ → ℕ
next_weight p c w zero = 0
next_weight p c w (suc i) = (c * next_weight p c w i + w i) % p
