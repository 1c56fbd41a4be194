-- `direct::split_columns` meets its contract.
-- Assumes nothing.
use mathlib.Core.Path.{◌≡◌, sym, subst, ◌∙◌}
use native.Mathlib.Omega.{arith}
use Rattle.solution.specs.internal.Table.{SplitTo}
use Rattle.solution.proofs.StepLaws.{split-none, split_step}
use Rattle.direct.proofs.split_columns.Goals as goal

pub loop-t-init : goal.loop-t-init
loop-t-init c =
    let a = c.args in
    let r = c.requires in
    (r.1, r.2, split-none a.p a.n a.m a.k a.p0.now a.a0.now a.h a.rows.now r.0.lent.below r.0.first-low r.0.first-high)

pub split_column-requires : goal.split_column-requires
split_column-requires c =
    let r = c.requires in
    let l = c.loop-t in
    let two = r.0.bases.two in (
      omega arith,
      r.0.bases.small,
      r.0.bases.room,
      r.0.lent.width,
      omega (arith, r.0.lent.from_low, l.auto.t),
      omega arith,
      l.invariant.2.long ∙ r.0.lent.long,
      r.0.table-long,
      l.invariant.0,
      l.invariant.1,
      l.invariant.2.below,
      r.0.table_below,
    )

pub loop-t-preserved : goal.loop-t-preserved
loop-t-preserved c =
    let a = c.args in
    let r = c.requires in
    let l = c.loop-t in
    let x = split_step a.p a.n a.m a.k a.p0.now a.a0.now a.table.now r.0.bases r.0.table_is l.t (omega (arith, r.0.lent.from_low, l.auto.t)) (omega arith) l.rows _ c.split_column.ensures.is a.h l.auto.t a.rows.now l.invariant.2 (l.invariant.2.long ∙ r.0.lent.long) in
    (c.split_column.ensures.scratch, c.split_column.ensures.buffer, x)

pub shape_of-e : goal.shape_of-e
shape_of-e c = c.loop-t.invariant.0 ∙ sym c.requires.1

pub shape_of-column : goal.shape_of-column
shape_of-column c = c.loop-t.invariant.1 ∙ sym c.requires.2

pub shape_of-rows : goal.shape_of-rows
shape_of-rows c = c.loop-t.invariant.2.long

pub returns : goal.returns
returns c =
    let a = c.args in
    let l = c.loop-t in
    let e : l.t ≡ a.w = omega (arith, c.requires.0.lent.from-high) in
    subst (λ x. SplitTo a.p a.n a.m a.k a.p0.now a.a0.now a.h x a.rows.now l.rows) e l.invariant.2
