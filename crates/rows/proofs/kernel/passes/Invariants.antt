-- `rows::kernel::passes` meets its contract. The loop's invariant: the sum is that of the summands before i; those before the first row are 0.
-- Assumes nothing.
use mathlib.Core.Path.{◌≡◌}
use Prim.Native.Nat.{◌≤◌, ◌+◌}
use Rattle.algebra.specs.Sums.{sum_to}
use Rattle.rows.specs.Rows.{rows_of}
use Rattle.rows.proofs.RowsLaws.{pass_term}
use Rattle.rows.proofs.kernel.passes.Given as goal

abbrev pub invariant-loop-i : goal.invariant-loop-i
invariant-loop-i l = (l.i ≤ l.j + 1) × (l.sum ≡ sum_to l.i (pass_term (rows_of l.f l.n l.frows) (rows_of l.g l.n l.grows) l.j l.skip l.count))
