-- `columns::line_times` meets its contract. The loop's invariant: before j the words are the new ones, from there on the old ones.
-- Assumes nothing.
use Rattle.numbers.specs.Words.{tabulate}
use Rattle.numbers.proofs.WordsLaws.{Writing}
use Rattle.columns.proofs.ColumnLaws.{line_at}
use Rattle.columns.proofs.line_times.Given as goal

abbrev pub invariant-loop-j : goal.invariant-loop-j
invariant-loop-j l = Writing (tabulate l.j (line_at l.p l.c l.initial.e)) l.initial.e l.e
