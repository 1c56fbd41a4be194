-- `tiled::Tiling::gather` meets its contract.
-- Assumes nothing.
use Prim.Native.Nat.{◌+◌, ◌*◌}
use native.Mathlib.Omega.{arith}
use Rattle.solution.proofs.StepLaws.{store-fits}
use Rattle.tiled.proofs.TiledLaws.{made-long, beside_long, beside-below, gathered-tiles}
use Rattle.tiled.proofs.Tiling.gather.Goals as goal

pub middle_sums-requires : goal.middle_sums-requires
middle_sums-requires c =
    let a = c.args in
    let r = c.requires in
    let long = beside_long a.self.n a.self.m a.self.k a.self.paired a.self.blocks a.t a.rows.now a.pairs.now a.tiles.now r.6 in
    let below = beside-below a.self.n a.self.m a.self.k a.self.paired a.self.blocks a.t a.rows.now a.pairs.now a.tiles.now r.6 in
    (r.0, r.1, omega (arith, r.2), long.0, long.1, r.5, below.0, below.1)

pub less_sums-requires : goal.less_sums-requires
less_sums-requires c =
    let a = c.args in
    let r = c.requires in
    let n = made-long (a.self.paired + 8 * a.self.blocks) _ _ c.middle_sums.ensures in
    (r.0.some, r.0.small, r.0.width, r.2, omega arith, omega (arith, n), store-fits (a.self.m + a.self.k) a.self.n a.e.now a.rows.now r.4 r.3, r.7)

pub returns : goal.returns
returns c =
    let a = c.args in
    let r = c.requires in
    let s = c.middle_sums.ensures in
    record { scratch = made-long (a.self.paired + 8 * a.self.blocks) _ _ s; is = gathered-tiles a.self.n a.self.m a.self.k a.self.paired a.self.blocks a.t a.rows.now a.pairs.now a.tiles.now r.6 r.1 r.2 r.0.lanes a.self.p a.e.now _ _ r.4 s c.less_sums.ensures }
