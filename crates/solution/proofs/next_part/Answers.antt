-- `solution::next_part` meets its contract.
-- Assumes nothing.
use mathlib.Core.Path.{refl}
use native.Mathlib.Omega.{arith}
use Rattle.solution.proofs.DigitsLaws.{next-turn, next_last}
use Rattle.columns.proofs.ColumnLaws.{sinking-store}
use Rattle.solution.proofs.next_part.Goals as goal

pub loop-j-preserved : goal.loop-j-preserved
loop-j-preserved c =
    let a = c.args in
    let l = c.loop-j in
    let x = sinking-store _ a.e.now l.e l.j _ l.invariant.1 (omega arith) (omega arith) (next-turn a.p a.q a.b.now a.e.now l.e l.j l.invariant.1 (omega arith) (omega arith)) in
    (omega arith, x)

pub returns : goal.returns
returns c =
    let a = c.args in
    let l = c.loop-j in
    next_last a.p a.q a.b.now a.e.now l.e l.j _ l.invariant.1 (omega arith) (omega arith) refl
