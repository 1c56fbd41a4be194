-- `solution::next_solution` meets its contract.
-- Assumes nothing.
use mathlib.Core.Path.{sym}
use Prim.Native.Nat.{◌-◌}
use native.Mathlib.Omega.{arith}
use Rattle.numbers.proofs.WordsLaws.{take_below}
use Rattle.solution.proofs.TableLaws.{solution-after, mid-length, mid-below}
use lib.Seq.{length-take-le}
use Rattle.solution.proofs.next_solution.Goals as goal

pub overflow_sub-p : goal.overflow_sub-p
overflow_sub-p c = let h = c.requires.0.low in let z = c.requires.2 (c.args.m - 1) (omega arith) in omega arith

pub slice_bounds-next_part-end-2 : goal.slice_bounds-next_part-end-2
slice_bounds-next_part-end-2 c =
    let a = c.args in
    sym (length-take-le a.m a.row.now (omega arith))

pub next_part-requires : goal.next_part-requires
next_part-requires c =
    let a = c.args in
    let r = c.requires in
    let n = length-take-le a.m a.row.now (omega arith) in
    let two = r.0.two in
    let low = r.0.low in
    let long = r.0.P-long in (
      omega arith,
      r.0.small,
      omega arith,
      omega (arith, n),
      omega (arith, n),
      r.0.P-below,
      take_below a.p a.m a.row.now (omega arith) r.2,
    )

pub next_part-requires-2 : goal.next_part-requires-2
next_part-requires-2 c =
    let a = c.args in
    let r = c.requires in
    let e = c.next_part.ensures in
    let two = r.0.two in
    let low = r.0.low in
    let high = r.0.high in
    let long = r.0.A-long in
    let z = r.2 (a.m - 1) (omega arith) in (
      omega arith,
      r.0.small,
      omega arith,
      omega (arith, mid-length a.p a.m a.k a.p0.now a.a0.now a.row.now _ r.1 e),
      omega (arith, mid-length a.p a.m a.k a.p0.now a.a0.now a.row.now _ r.1 e),
      r.0.A-below,
      mid-below a.p a.m a.k a.p0.now a.a0.now a.row.now _ r.1 e r.2,
    )

pub returns : goal.returns
returns c =
    let a = c.args in
    let r = c.requires in
    let e = c.next_part.ensures in
    let f = c.next_part-2.ensures in
    solution-after a.p a.m a.k a.p0.now a.a0.now a.row.now _ r.1 e _ f r.0 r.2
