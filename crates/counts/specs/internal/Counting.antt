-- What the counting starts from.
--   Countable p D   what the checks leave: p a modulus, D a degree, and no more polynomials than are counted
-- Assumes nothing.
use Rattle.std.specs.Prelude.{ℕ, ◌^◌, ◌≤◌, ◌<◌}
use Rattle.algebra.specs.Prime.{Prime}
use Rattle.numbers.specs.Limits.{largest_degree}
use Rattle.numbers.specs.internal.Limits.{modulus_bound}
use Rattle.counts.specs.Counts.{most_polynomials}

pub record Countable (p D : ℕ) : Type 0 where
  pub prime : Prime p
  pub small : p < modulus_bound
  pub low : 1 ≤ D
  pub high : D ≤ largest_degree
  pub total : p ^ D ≤ most_polynomials
