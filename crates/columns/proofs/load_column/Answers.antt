-- `columns::load_column` meets its contract. The loop's invariant: before j the words are the column's, from there on the old ones.
-- Assumes nothing.
use mathlib.Core.Path.{refl, ◌∙◌}
use native.Mathlib.Omega.{arith}
use Rattle.numbers.specs.Words.{tabulate}
use Rattle.numbers.proofs.WordsLaws.{length-tabulate, over-whole, writing-none, writing-next, writing-all}
use Rattle.columns.proofs.load_column.Goals as goal

pub loop-j-init : goal.loop-j-init
unfolding tabulate
loop-j-init c = writing-none _

pub loop-j-preserved : goal.loop-j-preserved
loop-j-preserved c =
    writing-next _ _ _ _ _ c.loop-j.invariant refl (omega arith)

pub returns : goal.returns
returns c = writing-all _ _ _ _ _ c.loop-j.invariant (omega arith) ∙ over-whole _ _ (length-tabulate _ _)
