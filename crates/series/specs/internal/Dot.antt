-- What one pass along two rows adds up.
--   dot_sum g h k         the sum over i < k of g_i · h_(k−1−i)
-- Assumes nothing.
use Rattle.std.specs.Prelude.{ℕ, ◌+◌, ◌-◌, ◌*◌, List}
use Rattle.algebra.specs.Sums.{sum_to}
use Rattle.numbers.specs.Words.{word}

unfoldable pub dot_sum : (g h : List ℕ) → ℕ → ℕ
dot_sum g h k = sum_to k (λ i. word g i * word h (k - (i + 1)))
