-- `tiles::tile::put_column` meets its contract. The invariant: the first i lanes are put.
-- Assumes nothing.
use native.Mathlib.Omega.{arith}
use Rattle.tiles.proofs.TileLaws.{cell_room, put_next}
use Rattle.tiles.proofs.tile.put_column.Goals as goal

pub loop-i-preserved : goal.loop-i-preserved
loop-i-preserved c =
    let a = c.args in
    let l = c.loop-i in
    let room = cell_room a.width a.blocks a.t l.i (omega arith) (omega arith) in
    put_next _ _ _ _ _ l.i _ (omega arith) (omega arith) c.lane_word.ensures l.invariant
