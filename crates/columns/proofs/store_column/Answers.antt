-- `columns::store_column` meets its contract. The loop's invariant: the first j words of e are stored.
-- Assumes nothing.
use native.Mathlib.Omega.{arith}
use Rattle.columns.proofs.ColumnLaws.{stored_next}
use Rattle.columns.proofs.store_column.Goals as goal

pub loop-j-preserved : goal.loop-j-preserved
loop-j-preserved c = stored_next _ _ _ _ _ _ (omega arith) (omega arith) (omega arith) c.loop-j.invariant
