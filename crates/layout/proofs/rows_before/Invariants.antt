-- `layout::rows_before` meets its contract. The loop's invariant: the sum is that of the powers before l.
-- Assumes nothing.
use mathlib.Core.Path.{◌≡◌}
use Rattle.algebra.specs.Sums.{sum_to}
use Rattle.layout.specs.Layout.{power}
use Rattle.layout.proofs.rows_before.Given as goal

abbrev pub invariant-loop-l : goal.invariant-loop-l
invariant-loop-l l = l.sum ≡ sum_to l.l (power l.s)
