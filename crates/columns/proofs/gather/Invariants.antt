-- `columns::gather` meets its contract. The loop's invariant: before j the words are the gathered ones, from there on the old ones.
-- Assumes nothing.
use Rattle.numbers.specs.Words.{tabulate}
use Rattle.numbers.proofs.WordsLaws.{Writing}
use Rattle.columns.proofs.ColumnLaws.{gather_at}
use Rattle.columns.proofs.gather.Given as goal

abbrev pub invariant-loop-j : goal.invariant-loop-j
invariant-loop-j l = Writing (tabulate l.j (gather_at l.p l.f l.low l.m l.high l.k l.n l.t)) l.initial.e l.e
