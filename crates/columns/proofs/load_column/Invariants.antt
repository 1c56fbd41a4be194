-- `columns::load_column` meets its contract. The loop's invariant: before j the words are the column's, from there on the old ones.
-- Assumes nothing.
use Prim.Native.Nat.{◌+◌, ◌*◌}
use Rattle.numbers.specs.Words.{word, tabulate}
use Rattle.numbers.proofs.WordsLaws.{Writing}
use Rattle.columns.proofs.load_column.Given as goal

abbrev pub invariant-loop-j : goal.invariant-loop-j
invariant-loop-j l = Writing (tabulate l.j (λ k. word l.f (k * l.n + l.t))) l.initial.e l.e
