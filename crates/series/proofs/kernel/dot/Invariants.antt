-- `series::kernel::dot` meets its contract. The loop's invariant: the sum is that of the summands before i, each at most 16777215 * 16777215.
-- Assumes nothing.
use mathlib.Core.Path.{◌≡◌}
use Rattle.algebra.specs.Sums.{sum_to}
use Rattle.series.proofs.SeriesLaws.{dot_term}
use Rattle.series.proofs.kernel.dot.Given as goal

abbrev pub invariant-loop-i : goal.invariant-loop-i
invariant-loop-i l = l.sum ≡ sum_to l.i (dot_term l.g l.h l.k)
