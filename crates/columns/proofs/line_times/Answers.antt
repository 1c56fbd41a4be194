-- `columns::line_times` meets its contract. The loop's invariant: before j the words are the new ones, from there on the old ones.
-- Assumes nothing.
use native.Mathlib.Omega.{arith}
use Rattle.numbers.specs.Words.{tabulate}
use Rattle.numbers.proofs.WordsLaws.{writing-none, writing-next}
use Rattle.columns.proofs.ColumnLaws.{line-turn, line-all}
use Rattle.columns.proofs.line_times.Goals as goal

pub loop-j-init : goal.loop-j-init
unfolding tabulate
loop-j-init c = writing-none _

pub loop-j-preserved : goal.loop-j-preserved
loop-j-preserved c =
    let l = c.loop-j in
    let a = c.args in
    writing-next _ _ _ _ _ l.invariant (line-turn a.p a.c a.e.now l.e l.j l.invariant) (omega arith)

pub returns : goal.returns
returns c = line-all _ _ _ _ _ (omega arith) c.requires.4 c.loop-j.invariant
