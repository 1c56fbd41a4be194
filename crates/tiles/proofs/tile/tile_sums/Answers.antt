-- `tiles::tile::tile_sums` meets its contract. The invariant: a has the sums of the first s − 1 steps.
-- Assumes nothing.
use mathlib.Core.Path.{refl}
use Prim.Native.Nat.{◌+◌, ◌-◌}
use native.Mathlib.Omega.{arith}
use Rattle.tiles.proofs.TileLaws.{sum-none, sum_step, sum-count, sums-ready}
use Rattle.tiles.proofs.tile.tile_sums.Goals as goal

pub loop-s-init : goal.loop-s-init
loop-s-init c = (omega arith, c.requires.0, sum-none _ _ _ _ c.requires.4)

pub tile_add-requires : goal.tile_add-requires
tile_add-requires c =
    let l = c.loop-s in
    let a = c.args in
    sums-ready a.t (l.s - 1) l.s a.y.now a.w.now a.a.now l.a c.requires (omega arith) (omega arith) l.invariant.2

pub tile_add-requires-in-loop-s : goal.tile_add-requires-in-loop-s
tile_add-requires-in-loop-s c =
    let l = c.loop-s in
    let a = c.args in
    let one = sum_step a.t (l.s - 1) l.s a.y.now a.w.now a.a.now l.a _ (omega arith) l.invariant.2 c.tile_add.ensures in
    sums-ready a.t l.s (l.s + 1) a.y.now a.w.now a.a.now _ c.requires refl (omega arith) one

pub loop-s-preserved : goal.loop-s-preserved
loop-s-preserved c =
    let l = c.loop-s in
    let a = c.args in
    let one = sum_step a.t (l.s - 1) l.s a.y.now a.w.now a.a.now l.a _ (omega arith) l.invariant.2 c.tile_add.ensures in
    let two = sum_step a.t l.s (l.s + 1) a.y.now a.w.now a.a.now _ _ refl one c.tile_add-in-loop-s.ensures in
    (omega arith, omega arith, sum-count a.t (l.s + 1) _ a.y.now a.w.now a.a.now _ (omega arith) two)

pub tile_add-requires-then-s-t : goal.tile_add-requires-then-s-t
tile_add-requires-then-s-t c =
    let l = c.loop-s in
    let a = c.args in
    sums-ready a.t (l.s - 1) l.s a.y.now a.w.now a.a.now l.a c.requires (omega arith) (omega arith) l.invariant.2

pub returns-then-s-t : goal.returns-then-s-t
returns-then-s-t c =
    let l = c.loop-s in
    let a = c.args in
    let one = sum_step a.t (l.s - 1) l.s a.y.now a.w.now a.a.now l.a _ (omega arith) l.invariant.2 c.tile_add-then-s-t.ensures in
    sum-count a.t l.s (a.t - 1) a.y.now a.w.now a.a.now _ (omega arith) one
