-- `front::rows_below` meets its contract: the rows from word o on are those of what is left from there.
-- Assumes nothing.
use Rattle.rows.proofs.RowsBelowLaws.{rows_below-after}
use Rattle.front.proofs.rows_below.Goals as goal

pub returns : goal.returns
returns c = let a = c.args in rows_below-after a.q a.s.now a.o a.n a.rows a.from a.to c.rows_below.ensures
