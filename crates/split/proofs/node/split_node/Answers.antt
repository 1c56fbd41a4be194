-- `split::node::split_node` meets its contract.
-- Assumes nothing.
use mathlib.Core.Path.{sym}
use Prim.Native.Nat.{◌-◌, ◌+◌}
use native.Mathlib.Omega.{arith}
use lib.ListN.{length}
use lib.Seq.{length-take-le}
use Rattle.rows.proofs.RowsLaws.{zeros}
use Rattle.split.proofs.node.split_node.Goals as goal

pub slice_bounds-split_roots-end : goal.slice_bounds-split_roots-end
slice_bounds-split_roots-end c = sym (length-take-le _ zeros (let r = c.requires.0.room in omega arith))

pub split_roots-requires : goal.split_roots-requires
split_roots-requires c =
    let a = c.args in
    let room = c.requires.0.room in
    (c.requires.0, c.requires.1, length-take-le (length a.c.now - a.m + 1) zeros (omega arith))
