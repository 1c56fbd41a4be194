-- `tiled::store_wide` meets its contract. The loop's invariant: the first j words of e are stored.
-- Assumes nothing.
use lib.ListN.{take}
use Rattle.columns.specs.internal.Column.{ColumnStored}
use Rattle.tiled.proofs.store_wide.Given as goal

abbrev pub invariant-loop-j : goal.invariant-loop-j
invariant-loop-j l = ColumnStored l.n l.t (take l.j l.e) l.initial.out l.out
