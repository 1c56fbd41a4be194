-- `solution::first_solution` meets its contract.
-- Assumes nothing.
use mathlib.Core.Path.{sym, ap, ◌∙◌}
use Prim.Native.Nat.{◌≤◌, ◌-◌}
use native.Mathlib.Omega.{arith}
use lib.ListN.{length}
use Rattle.numbers.proofs.WordsLaws.{length-tabulate, take_below}
use Rattle.solution.proofs.TableLaws.{first-is, first_below}
use lib.Seq.{length-take-le}
use Rattle.columns.specs.internal.Column.{first_only}
use Rattle.solution.proofs.first_solution.Goals as goal

pub digits-requires : goal.digits-requires
digits-requires c =
    let a = c.args in
    let r = c.requires in
    let q = c.start_row.ensures in
    let n = ap length q ∙ length-tabulate (length a.out.now) (first_only 1) in (
      r.0,
      r.1,
      omega arith,
      omega arith,
      omega (arith, n),
      r.6,
      r.7,
      r.8,
      rw q (first_below a.p (length a.out.now) r.0.two-le),
      r.9,
    )

pub slice_bounds-expand-end-2 : goal.slice_bounds-expand-end-2
slice_bounds-expand-end-2 c =
    let a = c.args in
    sym (length-take-le (length a.c.now) _ (omega (arith, c.digits.ensures.is.long, ap length c.start_row.ensures, length-tabulate (length a.out.now) (first_only 1))))

pub expand-requires : goal.expand-requires
expand-requires c =
    let a = c.args in
    let r = c.requires in
    let two = r.0.two-le in
    let d = c.digits.ensures.is in
    let room : length a.c.now ≤ length c.digits.new.e = omega (arith, d.long, ap length c.start_row.ensures, length-tabulate (length a.out.now) (first_only 1)) in (
      omega arith,
      r.1,
      omega (arith, length-take-le (length a.c.now) c.digits.new.e room),
      r.7,
      take_below a.p (length a.c.now) c.digits.new.e room d.below,
    )

pub returns : goal.returns
returns c =
    let a = c.args in
    let r = c.requires in
    record { scratch = c.digits.ensures.scratch; is = first-is a.p a.c.now a.a.now (length a.a.now - 1) _ a.out.now _ _ (omega arith) (omega arith) c.start_row.ensures c.digits.ensures.is c.expand.ensures }
