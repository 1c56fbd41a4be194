-- Prime numbers.
--   Prime p    2 ≤ p, and no number from 2 to p − 1 divides p
-- Assumes nothing.
use Rattle.std.specs.Prelude.{ℕ, ◌≤◌, ◌<◌}
use Rattle.std.specs.Int.{◌∣◌}

pub record Prime (p : ℕ) : Type 0 where
  pub two-le : 2 ≤ p
  pub no-divisor : (d : ℕ) → 2 ≤ d → d < p → ¬ (d ∣ p)
