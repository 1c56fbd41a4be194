-- `solution::fill_table` meets its contract.
-- Assumes nothing.
use mathlib.Core.Path.{◌∙◌}
use Prim.Native.Nat.{◌+◌, ◌*◌}
use native.Mathlib.Omega.{arith}
use Rattle.numbers.specs.Words.{word}
use Rattle.solution.proofs.TableLaws.{table-after}
use native.Mathlib.Nat.{add-sub_cancel_left}
use Rattle.solution.proofs.fill_table.Goals as goal

pub loop-j-preserved : goal.loop-j-preserved
loop-j-preserved c =
    let a = c.args in
    let r = c.requires in
    let l = c.loop-j in
    let x = table-after a.p a.m a.k (word a.p0.now) (word a.a0.now) l.j l.table l.row _ _ (omega arith) (l.auto.table ∙ r.3) (l.auto.row ∙ r.1) (add-sub_cancel_left (l.j * (a.m + a.k)) (a.m + a.k)) c.load_column.ensures l.invariant.1 (l.invariant.2 (omega arith)) in
    (c.next_solution.ensures.below, x.1, λ h. c.next_solution.ensures.next l.j h (l.invariant.2 (omega arith)))
