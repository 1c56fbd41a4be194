-- `tiles::tile::tile_row` meets its contract. The invariant: the first b blocks are added up.
-- Assumes nothing.
use Prim.Native.Nat.{◌*◌}
use mathlib.Core.Path.{sym, ◌∙◌}
use native.Mathlib.Omega.{arith}
use Rattle.numbers.proofs.WordsLaws.{length_from, from-below, length-tabulate, over-whole, writing-all}
use Rattle.numbers.specs.internal.Limits.{modulus_bound}
use Rattle.rows.proofs.RowsLaws.{length_part, row_fits}
use Rattle.tiles.proofs.TileLaws.{step_start, block-below, row_next}
use Rattle.tiles.proofs.tile.tile_row.Goals as goal

pub loop-b-init : goal.loop-b-init
loop-b-init c = step_start _ _

pub tile-requires : goal.tile-requires
tile-requires c =
    let a = c.args in
    let r = c.requires in
    let l = c.loop-b in
    let n = length_from a.tiles.now (l.b * (8 * a.width)) in
    let room = row_fits l.b a.blocks (8 * a.width) (omega arith) in
    let w = l.invariant in (
      r.0,
      r.2,
      r.5,
      omega arith,
      length_part l.a (8 * l.b) 8 (omega arith),
      r.8,
      from-below modulus_bound a.tiles.now (l.b * (8 * a.width)) r.9,
      block-below 2305843009213693952 l.b _ a.a.now l.a w (omega arith) r.10,
    )

pub loop-b-preserved : goal.loop-b-preserved
loop-b-preserved c =
    let a = c.args in
    let l = c.loop-b in
    row_next a.t a.width l.b a.y.now a.tiles.now a.a.now l.a _ l.invariant (omega arith) c.tile.ensures

pub returns : goal.returns
returns c =
    let a = c.args in
    let l = c.loop-b in
    writing-all (8 * l.b) (8 * a.blocks) _ _ _ l.invariant (omega arith) ∙ over-whole _ _ (length-tabulate (8 * a.blocks) _ ∙ sym c.requires.7)
