-- `columns::store_column` meets its contract. The loop's invariant: the first j words of e are stored.
-- Assumes nothing.
use lib.ListN.{take}
use Rattle.columns.specs.internal.Column.{ColumnStored}
use Rattle.columns.proofs.store_column.Given as goal

abbrev pub invariant-loop-j : goal.invariant-loop-j
invariant-loop-j l = ColumnStored l.n l.t (take l.j l.e) l.initial.out l.out
