-- `split::node::split_with` meets its contract.
-- Assumes nothing.
use mathlib.Core.Path.{◌∙◌}
use Prim.Native.Nat.{◌-◌, ◌+◌}
use native.Mathlib.Omega.{arith}
use lib.ListN.{length}
use Rattle.solution.proofs.NodeLaws.{put-ready, put-by}
use Rattle.solution.proofs.StepLaws.{store-fits}
use Rattle.split.proofs.node.split_with.Goals as goal

pub store_column-requires : goal.store_column-requires
store_column-requires c =
    let a = c.args in
    let r = c.requires in
    let l = r.1 in
    let n = c.join.ensures.long in
    (l.width, omega (arith, l.from_low, l.from-high, l.terms-high), omega (arith, n, r.0.room), store-fits (length a.c.now + (length a.a0.now - 1)) a.n c.join.new.e a.rows.now n l.long)

pub split_either-requires : goal.split_either-requires
split_either-requires c =
    let a = c.args in
    let r = c.requires in
    (put-ready a.p a.n a.h a.w a.c.now a.a0.now c.prepare_split.new.p0 c.prepare_split.new.table c.join.new.e a.rows.now c.store_column.new.out r.0 r.1 c.prepare_split.ensures.lines (c.prepare_split.ensures.size ∙ r.5) c.prepare_split.ensures.is c.join.ensures.long c.join.ensures.low c.join.ensures.high c.store_column.ensures, c.join.ensures.long, c.prepare_split.ensures.scratch ∙ r.4)

pub returns : goal.returns
returns c =
    let a = c.args in
    let r = c.requires in
    put-by a.p a.n a.h a.w a.c.now a.a0.now c.prepare_split.new.p0 c.prepare_split.new.table c.join.new.e a.rows.now c.store_column.new.out r.0 r.1 c.prepare_split.ensures.lines (c.prepare_split.ensures.size ∙ r.5) c.prepare_split.ensures.is c.join.ensures.long c.join.ensures.low c.join.ensures.high c.store_column.ensures _ c.split_either.ensures
