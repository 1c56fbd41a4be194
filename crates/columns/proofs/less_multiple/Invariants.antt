-- `columns::less_multiple` meets its contract. The loop's invariant: before j the words are the new ones, from there on the old ones.
-- Assumes nothing.
use Rattle.numbers.specs.Words.{tabulate}
use Rattle.numbers.proofs.WordsLaws.{Writing}
use Rattle.columns.proofs.ColumnLaws.{less_at}
use Rattle.columns.proofs.less_multiple.Given as goal

abbrev pub invariant-loop-j : goal.invariant-loop-j
invariant-loop-j l = Writing (tabulate l.j (less_at l.p l.q l.a l.initial.e)) l.initial.e l.e
