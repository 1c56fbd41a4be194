-- `columns::fit_row` meets its contract. The loop's invariant: the words before t are written.
-- Assumes nothing.
use Rattle.numbers.specs.Words.{word, tabulate}
use Rattle.numbers.proofs.WordsLaws.{Writing}
use Rattle.columns.proofs.fit_row.Given as goal

abbrev pub invariant-loop-t : goal.invariant-loop-t
invariant-loop-t l = Writing (tabulate l.t (word l.row)) l.initial.out l.out
