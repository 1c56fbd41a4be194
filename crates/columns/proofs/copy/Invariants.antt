-- `columns::copy` meets its contract. The loop's invariant: the words before i are written.
-- Assumes nothing.
use Rattle.numbers.specs.Words.{word, tabulate}
use Rattle.numbers.proofs.WordsLaws.{Writing}
use Rattle.columns.proofs.copy.Given as goal

abbrev pub invariant-loop-i : goal.invariant-loop-i
invariant-loop-i l = Writing (tabulate l.i (word l.words)) l.initial.out l.out
