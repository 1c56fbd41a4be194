-- `tiled::put_sides` meets its contract.
-- Assumes nothing.
use Rattle.tiled.proofs.TiledLaws.{tiled-next}
use Rattle.tiled.proofs.put_sides.Goals as goal

pub returns : goal.returns
returns c =
    let a = c.args in
    let r = c.requires in
    λ x y old new h stl sth. tiled-next a.n x y a.blocks a.t a.low.now a.high.now old new a.pairs.now _ _ a.tiles.now _ r.4 r.1 r.5 r.6 c.store_wide.ensures c.store_wide-2.ensures c.put_column.ensures h stl sth
