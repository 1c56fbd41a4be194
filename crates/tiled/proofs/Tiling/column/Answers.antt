-- `tiled::Tiling::column` meets its contract.
-- Assumes nothing.
use mathlib.Core.Path.{refl}
use Prim.Native.Nat.{◌+◌}
use native.Mathlib.Omega.{arith}
use Rattle.solution.proofs.StepLaws.{store-room, step_is}
use Rattle.tiled.proofs.TiledLaws.{column-small, beside_long}
use Rattle.tiled.proofs.Tiling.column.Goals as goal

pub store_column-requires : goal.store_column-requires
store_column-requires c =
    let a = c.args in
    let r = c.requires in
    (r.0.width, r.2, let z = r.0.room in omega (arith, c.next_column.ensures.buffer), store-room (a.self.m + a.self.k) a.self.n _ _ a.rows.now c.next_column.ensures.is r.4)

pub put_tiles-requires : goal.put_tiles-requires
put_tiles-requires c =
    let a = c.args in
    let r = c.requires in
    let s = r.0 in
    let long = beside_long a.self.n a.self.m a.self.k a.self.paired a.self.blocks a.t a.rows.now a.pairs.now a.tiles.now r.7 in
    (s, r.2, c.next_column.ensures.buffer, column-small a.self.p (a.self.m + a.self.k) a.table.now _ _ s.some s.small c.next_column.ensures.is, long.0, long.1)

pub returns : goal.returns
returns c =
    let a = c.args in
    let r = c.requires in
    let st = c.store_column.ensures in
    record { scratch = c.next_column.ensures.scratch; buffer = c.next_column.ensures.buffer; tiled = c.put_tiles.ensures _ _ r.7 st; is = step_is a.self.p a.self.n a.self.m a.self.k a.table.now a.t a.rows.now _ _ _ refl c.next_column.ensures.is st }
