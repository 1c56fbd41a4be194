-- `tiled::Tiling::middle_sums` meets its contract. The loop's invariant: the sums have what the rows before a add.
-- Assumes nothing.
use mathlib.Core.Path.{sym, subst, ◌∙◌}
use Prim.Native.Nat.{◌<◌, ◌*◌}
use native.Mathlib.Omega.{arith}
use native.Mathlib.Nat.{add-sub_cancel_left}
use Rattle.numbers.proofs.WordsLaws.{from-below}
use Rattle.numbers.specs.internal.Limits.{modulus_bound}
use Rattle.rows.proofs.RowsLaws.{row_fits}
use Rattle.tiled.proofs.TiledLaws.{sums_none, sums-step, sums-all, sums-bound, row_room, part-long, part-below}
use Rattle.tiled.proofs.Tiling.middle_sums.Goals as goal

pub loop-a-init : goal.loop-a-init
loop-a-init c =
    let a = c.args in
    let r = c.requires in
    let x = sums_none a.t a.self.n (8 * a.self.blocks) a.self.paired a.pairs.now a.tiles.now a.sums.now _ r.5 c.clear_sums.ensures in
    (x.0, x.1)

pub overflow_mul-row-in-loop-a : goal.overflow_mul-row-in-loop-a
overflow_mul-row-in-loop-a c =
    let a = c.args in
    let z = row_fits c.loop-a.a a.self.paired (2 * a.self.n) (omega arith) in
    omega arith

pub offset_bounds-pairs-row : goal.offset_bounds-pairs-row
offset_bounds-pairs-row c =
    let a = c.args in
    let z = row_fits c.loop-a.a a.self.paired (2 * a.self.n) (omega arith) in
    omega arith

pub slice_bounds-tile_row-count : goal.slice_bounds-tile_row-count
slice_bounds-tile_row-count c =
    let a = c.args in
    let z = row_fits c.loop-a.a a.self.paired (2 * a.self.n) (omega arith) in
    omega arith

pub slice_bounds-tile_row-start : goal.slice_bounds-tile_row-start
slice_bounds-tile_row-start c =
    let a = c.args in
    let z = row_fits c.loop-a.a a.self.paired (2 * a.self.n) (omega arith) in
    omega arith

pub slice_bounds-tile_row-end : goal.slice_bounds-tile_row-end
slice_bounds-tile_row-end c =
    let a = c.args in
    let z = row_fits c.loop-a.a a.self.paired (2 * a.self.n) (omega arith) in
    omega arith

pub tile_row-requires : goal.tile_row-requires
tile_row-requires c =
    let a = c.args in
    let r = c.requires in
    let l = c.loop-a in
    let q = add-sub_cancel_left l.a (8 * a.self.blocks) in (
      r.1,
      r.2,
      omega arith,
      r.0.width,
      r.0.few,
      row_room a.t a.self.n a.self.paired l.a a.pairs.now (omega arith) r.2 r.3,
      r.4,
      part-long a.self.paired (8 * a.self.blocks) _ l.a l.sums (omega arith) q l.invariant.0,
      from-below modulus_bound a.pairs.now (l.a * (2 * a.self.n)) r.6,
      r.7,
      part-below 2305843009213693952 a.self.paired (8 * a.self.blocks) _ l.a l.sums (omega arith) q l.invariant.0
          (λ j g. subst (λ v. v < 2305843009213693952) (sym (l.invariant.1 j g)) (sums-bound a.t a.self.n (8 * a.self.blocks) a.pairs.now a.tiles.now (omega arith) r.6 r.7 l.a j (omega arith))),
    )

pub loop-a-preserved : goal.loop-a-preserved
loop-a-preserved c =
    let a = c.args in
    let l = c.loop-a in
    let x = sums-step a.t a.self.n (8 * a.self.blocks) a.self.paired _ a.pairs.now a.tiles.now l.sums _ l.a (omega arith) (add-sub_cancel_left l.a (8 * a.self.blocks)) l.invariant.0 l.invariant.1 c.tile_row.ensures in
    (x.0, x.1)

pub shape_of-sums : goal.shape_of-sums
shape_of-sums c =
    let r = c.requires in
    c.loop-a.invariant.0 ∙ sym r.5

pub returns : goal.returns
returns c =
    let a = c.args in
    let l = c.loop-a in
    sums-all a.t a.self.n (8 * a.self.blocks) a.self.paired a.pairs.now a.tiles.now l.sums l.a (omega arith) l.invariant.0 l.invariant.1
