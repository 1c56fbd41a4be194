-- `rows::kernel::shift` meets its contract. The loop's invariant: out has the rows of the shift before j, and past them what it had, and the weights are those of row j.
-- Assumes nothing.
use mathlib.Core.Path.{◌≡◌}
use lib.ListN.{length}
use Rattle.numbers.specs.Limits.{most_rows}
use Rattle.numbers.proofs.WordsLaws.{Writing}
use Rattle.rows.specs.Rows.{rows_of, table, shifted}
use Rattle.rows.proofs.RowsLaws.{Weights}
use Rattle.rows.proofs.kernel.shift.Given as goal

abbrev pub invariant-loop-j : goal.invariant-loop-j
invariant-loop-j l = Writing (table l.j l.n (shifted l.p l.rows l.c (rows_of l.f l.n l.rows))) l.initial.out l.out × Weights l.p l.c l.rows l.j l.weights × (length l.weights ≡ most_rows)
