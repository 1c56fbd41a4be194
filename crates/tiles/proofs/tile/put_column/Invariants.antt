-- `tiles::tile::put_column` meets its contract. The invariant: the first i lanes are put.
-- Assumes nothing.
use Rattle.tiles.proofs.TileLaws.{Putting}
use Rattle.tiles.proofs.tile.put_column.Given as goal

abbrev pub invariant-loop-i : goal.invariant-loop-i
invariant-loop-i l = Putting l.width l.t l.column l.initial.tiles l.tiles l.i
