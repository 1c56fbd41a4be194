-- `columns::fit_row` meets its contract. The loop's invariant: the words before t are written.
-- Assumes nothing.
use mathlib.Core.Path.{◌∙◌}
use native.Mathlib.Omega.{arith}
use Rattle.numbers.specs.Words.{word, tabulate}
use Rattle.numbers.proofs.WordsLaws.{length-tabulate, over-whole, writing-none, writing-next, writing-all}
use Rattle.columns.proofs.fit_row.Goals as goal

pub loop-t-init : goal.loop-t-init
unfolding tabulate
loop-t-init c = writing-none _

pub loop-t-preserved : goal.loop-t-preserved
loop-t-preserved c =
    let a = c.args in
    let l = c.loop-t in
    writing-next l.t (word a.row.now) _ _ _ l.invariant c.word_or_zero.ensures (omega arith)

pub returns : goal.returns
returns c = writing-all _ _ _ _ _ c.loop-t.invariant (omega arith) ∙ over-whole _ _ (length-tabulate _ _)
