-- `split::node::join` meets its contract.
-- Assumes nothing.
use mathlib.Core.Path.{sym}
use native.Mathlib.Omega.{arith}
use Rattle.solution.proofs.NodeLaws.{joined}
use lib.Seq.{length-take-le}
use Rattle.split.proofs.node.join.Goals as goal

pub slice_bounds-load_column-end-2 : goal.slice_bounds-load_column-end-2
slice_bounds-load_column-end-2 c =
    let a = c.args in
    sym (length-take-le a.m a.e.now (omega arith))

pub load_column-requires : goal.load_column-requires
load_column-requires c =
    let a = c.args in
    let n = length-take-le a.m a.e.now (omega arith) in
    (omega arith, omega arith, omega (arith, n), omega (arith, n))

pub returns : goal.returns
returns c =
    let a = c.args in
    let r = c.requires in
    joined a.m a.k a.p0.now a.a0.now a.e.now _ _ r.0 r.1 r.3 c.load_column.ensures c.load_column-2.ensures
