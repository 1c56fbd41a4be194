-- `split::node::split_either` meets its contract.
-- Assumes nothing.
use native.Mathlib.Omega.{arith}
use Rattle.split.proofs.node.split_either.Goals as goal

pub split_tiled-requires : goal.split_tiled-requires
split_tiled-requires c =
    let r = c.requires in
    let room = r.0.bases.room in
    let low = r.0.bases.low in
    let h = c.tiles_pay.ensures c.if-tiles_pay.true in
    (r.0, r.1, r.2, omega arith, omega arith)
