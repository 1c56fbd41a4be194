-- `rows::kernel::weighted_sum` meets its contract. The loop's invariant: the sum is that of the summands before i, each at most 16777215 * 16777215.
-- Assumes nothing.
use mathlib.Core.Path.{◌≡◌}
use Rattle.algebra.specs.Sums.{sum_to}
use Rattle.rows.proofs.RowsLaws.{weight_term}
use Rattle.rows.proofs.kernel.weighted_sum.Given as goal

abbrev pub invariant-loop-i : goal.invariant-loop-i
invariant-loop-i l = l.sum ≡ sum_to l.i (weight_term l.f l.n l.weights l.t)
