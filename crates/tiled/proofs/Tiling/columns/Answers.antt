-- `tiled::Tiling::columns` meets its contract. The loop's invariant: the columns below t are split, and stand beside the rows.
-- Assumes nothing.
use mathlib.Core.Path.{◌≡◌, sym, subst, ◌∙◌}
use native.Mathlib.Omega.{arith}
use Rattle.numbers.specs.internal.Limits.{modulus_bound}
use Rattle.solution.specs.internal.Table.{SplitTo}
use Rattle.solution.proofs.StepLaws.{split-none, split_step}
use Rattle.tiled.proofs.TiledLaws.{below_more, tiled-none, beside_long}
use Rattle.tiled.proofs.Tiling.columns.Goals as goal

pub overflow_add-self : goal.overflow_add-self
overflow_add-self c = let z = c.requires.1.room in omega arith

pub load_table-requires : goal.load_table-requires
load_table-requires c =
    let a = c.args in
    let r = c.requires in
    let s = r.1 in
    (let z = s.m-low in omega arith, s.room, s.high-lanes, s.high-few, r.0.table-long, r.4.cells-long, below_more a.self.p modulus_bound a.table.now (let z = s.small in omega arith) r.0.table_below, r.4.cells-below)

pub load_tiles-requires : goal.load_tiles-requires
load_tiles-requires c =
    let a = c.args in
    let r = c.requires in
    let s = r.1 in
    let t = r.0.lent in (
      s,
      t.from_low,
      omega (arith, t.from-high, t.terms-high),
      t.long,
      below_more a.self.p modulus_bound a.rows.now (let z = s.small in omega arith) t.below,
      r.3,
      tiled-none a.self a.rows.now a.cells.now a.pairs.now a.tiles.now s.either r.4,
    )

pub loop-t-init : goal.loop-t-init
loop-t-init c =
    let a = c.args in
    let r = c.requires in
    (r.2, c.load_tiles.ensures.buffer, c.load_tiles.ensures.is, split-none a.self.p a.self.n a.self.m a.self.k a.p0.now a.a0.now a.h a.rows.now r.0.lent.below r.0.first-low r.0.first-high)

pub column-requires : goal.column-requires
column-requires c =
    let r = c.requires in
    let l = c.loop-t in
    (r.1, omega (arith, r.0.lent.from_low, l.auto.t), omega arith, c.load_table.ensures, l.invariant.3.long ∙ r.0.lent.long, l.invariant.0, l.invariant.1, l.invariant.2, l.invariant.3.below)

pub loop-t-preserved : goal.loop-t-preserved
loop-t-preserved c =
    let a = c.args in
    let r = c.requires in
    let l = c.loop-t in
    let x = split_step a.self.p a.self.n a.self.m a.self.k a.p0.now a.a0.now a.table.now r.0.bases r.0.table_is l.t (omega (arith, r.0.lent.from_low, l.auto.t)) (omega arith) l.rows _ c.column.ensures.is a.h l.auto.t a.rows.now l.invariant.3 (l.invariant.3.long ∙ r.0.lent.long) in
    (c.column.ensures.scratch, c.column.ensures.buffer, c.column.ensures.tiled, x)

pub shape_of-cells : goal.shape_of-cells
shape_of-cells c = c.load_table.ensures.long ∙ sym c.requires.4.cells-long

pub shape_of-pairs : goal.shape_of-pairs
shape_of-pairs c = let a = c.args in (beside_long a.self.n a.self.m a.self.k a.self.paired a.self.blocks c.loop-t.t c.loop-t.rows c.loop-t.pairs c.loop-t.tiles c.loop-t.invariant.2).0 ∙ sym c.requires.4.pairs-long

pub shape_of-tiles : goal.shape_of-tiles
shape_of-tiles c = let a = c.args in (beside_long a.self.n a.self.m a.self.k a.self.paired a.self.blocks c.loop-t.t c.loop-t.rows c.loop-t.pairs c.loop-t.tiles c.loop-t.invariant.2).1 ∙ sym c.requires.4.tiles-long

pub shape_of-rows : goal.shape_of-rows
shape_of-rows c = c.loop-t.invariant.3.long

pub shape_of-e : goal.shape_of-e
shape_of-e c = c.loop-t.invariant.0 ∙ sym c.requires.2

pub shape_of-column : goal.shape_of-column
shape_of-column c = c.loop-t.invariant.1 ∙ sym c.requires.3

pub returns : goal.returns
returns c =
    let a = c.args in
    let l = c.loop-t in
    let e : l.t ≡ a.w = omega (arith, c.requires.0.lent.from-high) in
    subst (λ x. SplitTo a.self.p a.self.n a.self.m a.self.k a.p0.now a.a0.now a.h x a.rows.now l.rows) e l.invariant.3
