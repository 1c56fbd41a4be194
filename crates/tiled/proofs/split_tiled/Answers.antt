-- `tiled::split_tiled` meets its contract.
-- Assumes nothing.
use mathlib.Core.Path.{◌≡◌, sym}
use mathlib.Core.Logic.{⊎_elim}
use native.Mathlib.Omega.{arith}
use Rattle.tiled.proofs.TiledLaws.{cells_fit, pairs-fit, tiles-fit, lent-long, room-made, sizes-are}
use Rattle.tiled.proofs.split_tiled.Goals as goal

pub overflow_sub-blocks : goal.overflow_sub-blocks
overflow_sub-blocks c = let a = c.args in ⊎_elim (λ (e : c.paired_rows-paired.result ≡ a.m). omega arith) (λ (e : c.paired_rows-paired.result ≡ a.k). omega arith) c.paired_rows-paired.ensures

pub overflow_mul-cell_count-2 : goal.overflow_mul-cell_count-2
overflow_mul-cell_count-2 c =
    let a = c.args in
    let r = c.requires in
    let z = cells_fit a.n a.m a.k c.paired_rows-paired.result r.0.lent.width r.3 r.4 r.0.bases.room c.paired_rows-paired.ensures in
    omega arith

pub overflow_mul-pair_count-2 : goal.overflow_mul-pair_count-2
overflow_mul-pair_count-2 c =
    let a = c.args in
    let r = c.requires in
    let z = pairs-fit a.n a.m a.k c.paired_rows-paired.result r.0.lent.width r.3 r.4 r.0.bases.room c.paired_rows-paired.ensures in
    omega arith

pub overflow_mul-tile_count-2 : goal.overflow_mul-tile_count-2
overflow_mul-tile_count-2 c =
    let a = c.args in
    let r = c.requires in
    let z = tiles-fit a.n a.m a.k c.paired_rows-paired.result r.0.lent.width r.3 r.4 r.0.bases.room c.paired_rows-paired.ensures in
    omega arith

pub slice_bounds-cells-end : goal.slice_bounds-cells-end
slice_bounds-cells-end c = let a = c.args in let r = c.requires in cells_fit a.n a.m a.k c.paired_rows-paired.result r.0.lent.width r.3 r.4 r.0.bases.room c.paired_rows-paired.ensures

pub slice_bounds-columns-end : goal.slice_bounds-columns-end
slice_bounds-columns-end c = let a = c.args in let r = c.requires in sym (lent-long 1360 _ (cells_fit a.n a.m a.k c.paired_rows-paired.result r.0.lent.width r.3 r.4 r.0.bases.room c.paired_rows-paired.ensures))

pub slice_bounds-pairs-end : goal.slice_bounds-pairs-end
slice_bounds-pairs-end c = let a = c.args in let r = c.requires in pairs-fit a.n a.m a.k c.paired_rows-paired.result r.0.lent.width r.3 r.4 r.0.bases.room c.paired_rows-paired.ensures

pub slice_bounds-columns-end-2 : goal.slice_bounds-columns-end-2
slice_bounds-columns-end-2 c = let a = c.args in let r = c.requires in sym (lent-long 15872 _ (pairs-fit a.n a.m a.k c.paired_rows-paired.result r.0.lent.width r.3 r.4 r.0.bases.room c.paired_rows-paired.ensures))

pub slice_bounds-tiles-end : goal.slice_bounds-tiles-end
slice_bounds-tiles-end c = let a = c.args in let r = c.requires in tiles-fit a.n a.m a.k c.paired_rows-paired.result r.0.lent.width r.3 r.4 r.0.bases.room c.paired_rows-paired.ensures

pub slice_bounds-columns-end-3 : goal.slice_bounds-columns-end-3
slice_bounds-columns-end-3 c = let a = c.args in let r = c.requires in sym (lent-long 8192 _ (tiles-fit a.n a.m a.k c.paired_rows-paired.result r.0.lent.width r.3 r.4 r.0.bases.room c.paired_rows-paired.ensures))

pub columns-requires : goal.columns-requires
columns-requires c =
    let a = c.args in
    let r = c.requires in
    let b = r.0.bases in
    let x = c.paired_rows-paired.result in
    let side = c.paired_rows-paired.ensures in
    let w = r.0.lent.width in (
      r.0,
      sizes-are a.n a.m a.k x w r.3 r.4 b.room side a.p (let z = b.two in omega arith) b.small b.low,
      r.1,
      r.2,
      room-made a.n a.m a.k x w r.3 r.4 b.room side a.p 1360 15872 8192 (cells_fit a.n a.m a.k x w r.3 r.4 b.room side) (pairs-fit a.n a.m a.k x w r.3 r.4 b.room side) (tiles-fit a.n a.m a.k x w r.3 r.4 b.room side),
    )
