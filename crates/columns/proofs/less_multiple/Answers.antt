-- `columns::less_multiple` meets its contract. The loop's invariant: before j the words are the new ones, from there on the old ones.
-- Assumes nothing.
use native.Mathlib.Omega.{arith}
use Rattle.numbers.specs.Words.{tabulate}
use Rattle.numbers.proofs.WordsLaws.{writing-none, writing-next, writing-all}
use Rattle.columns.specs.internal.Column.{less_multiple}
use Rattle.columns.proofs.ColumnLaws.{less-turn}
use Rattle.columns.proofs.less_multiple.Goals as goal

pub loop-j-init : goal.loop-j-init
unfolding tabulate
loop-j-init c = writing-none _

pub loop-j-preserved : goal.loop-j-preserved
loop-j-preserved c =
    let l = c.loop-j in
    let a = c.args in
    writing-next _ _ _ _ _ l.invariant (less-turn a.p a.q a.a.now a.e.now l.e l.j l.invariant) (omega arith)

pub returns : goal.returns
unfolding less_multiple
returns c = writing-all _ _ _ _ _ c.loop-j.invariant (omega arith)
