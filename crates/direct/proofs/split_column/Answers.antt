-- `direct::split_column` meets its contract.
-- Assumes nothing.
use mathlib.Core.Path.{ap, ◌∙◌}
use Prim.Native.Nat.{◌+◌}
use native.Mathlib.Omega.{arith}
use lib.ListN.{length}
use Rattle.numbers.proofs.WordsLaws.{length-tabulate}
use Rattle.solution.proofs.StepLaws.{left_below, combine-room, store-room, step_is}
use Rattle.direct.proofs.split_column.Goals as goal

pub combine-requires : goal.combine-requires
combine-requires c =
    let a = c.args in
    let r = c.requires in
    let e = c.gather_rows.ensures in
    let n = ap length e ∙ length-tabulate (a.m + a.k) _ in (
      r.0,
      r.1,
      combine-room (a.m + a.k) _ _ a.table.now e r.7,
      omega (arith, n),
      omega arith,
      r.9,
      r.11,
      rw e (left_below a.p a.m a.k a.n _ a.rows.now r.0),
    )

pub store_column-requires : goal.store_column-requires
store_column-requires c =
    let a = c.args in
    let r = c.requires in
    let e = c.combine.ensures in
    let n = ap length e ∙ length-tabulate (a.m + a.k) _ in (
      r.3,
      omega (arith, r.4, r.5),
      omega (arith, n),
      store-room (a.m + a.k) a.n _ _ a.rows.now e r.6,
    )

pub returns : goal.returns
returns c =
    let a = c.args in
    let r = c.requires in
    let e = c.gather_rows.ensures in
    let w = c.combine.ensures in
    record { scratch = ap length e ∙ length-tabulate (a.m + a.k) _; buffer = ap length w ∙ length-tabulate (a.m + a.k) _; is = step_is a.p a.n a.m a.k a.table.now a.t a.rows.now _ _ _ e w c.store_column.ensures }
