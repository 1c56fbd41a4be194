-- `split::node::split_by` meets its contract.
-- Assumes nothing.
use mathlib.Core.Path.{sym}
use Prim.Native.Nat.{◌-◌, ◌+◌, ◌*◌}
use native.Mathlib.Omega.{arith}
use lib.ListN.{length}
use lib.Seq.{length-take-le}
use Rattle.rows.proofs.RowsLaws.{zeros}
use Rattle.solution.proofs.NodeLaws.{square-small}
use Rattle.split.proofs.node.split_by.Goals as goal

pub overflow_mul-cells : goal.overflow_mul-cells
overflow_mul-cells c = let z = square-small (length c.args.c.now + (length c.args.a0.now - 1)) (let r = c.requires.0.room in let h = c.requires.0.high in omega arith) in omega arith

pub slice_bounds-split_with-end : goal.slice_bounds-split_with-end
slice_bounds-split_with-end c = sym (length-take-le _ zeros (let r = c.requires.0.room in let h = c.requires.0.high in omega arith))

pub slice_bounds-split_with-end-2 : goal.slice_bounds-split_with-end-2
slice_bounds-split_with-end-2 c = sym (length-take-le _ zeros (let r = c.requires.0.room in let h = c.requires.0.low in omega arith))

pub slice_bounds-split_with-end-3 : goal.slice_bounds-split_with-end-3
slice_bounds-split_with-end-3 c = sym (length-take-le _ zeros (let r = c.requires.0.room in let h = c.requires.0.high in omega arith))

pub slice_bounds-table-end : goal.slice_bounds-table-end
slice_bounds-table-end c = let z = square-small (length c.args.c.now + (length c.args.a0.now - 1)) (let r = c.requires.0.room in let h = c.requires.0.high in omega arith) in omega arith

pub slice_bounds-split_with-end-4 : goal.slice_bounds-split_with-end-4
slice_bounds-split_with-end-4 c =
    let n = length c.args.c.now + (length c.args.a0.now - 1) in
    sym (length-take-le (n * n) _ (let z = square-small n (let r = c.requires.0.room in let h = c.requires.0.high in omega arith) in omega arith))

pub slice_bounds-split_with-end-5 : goal.slice_bounds-split_with-end-5
slice_bounds-split_with-end-5 c = sym (length-take-le _ zeros (let r = c.requires.0.room in let h = c.requires.0.high in omega arith))

pub split_with-requires : goal.split_with-requires
split_with-requires c =
    let a = c.args in
    let r = c.requires in
    let room = r.0.room in
    let low = r.0.low in
    let high = r.0.high in
    let n = length a.c.now + (length a.a0.now - 1) in
    let z = square-small n (omega arith) in (
      r.0,
      r.1,
      length-take-le (length a.c.now + 1) zeros (omega arith),
      length-take-le (length a.a0.now) zeros (omega arith),
      length-take-le n zeros (omega arith),
      length-take-le (n * n) _ (omega arith),
      length-take-le n zeros (omega arith),
    )
