-- `columns::horner` meets its contract. The loop's invariant: from j on the words are those of the scheme, before j the old ones.
-- Assumes nothing.
use native.Mathlib.Omega.{arith}
use Rattle.columns.specs.internal.Column.{horner_words}
use Rattle.columns.proofs.ColumnLaws.{sinking-store, sinking-all, horner-starts, horner-turn}
use Rattle.columns.proofs.horner.Goals as goal

pub loop-j-init : goal.loop-j-init
loop-j-init c = horner-starts _ _ _ (omega arith) c.requires.4

pub loop-j-preserved : goal.loop-j-preserved
loop-j-preserved c =
    let w = c.loop-j.invariant in
    sinking-store _ _ _ _ _ w (omega arith) (omega arith) (horner-turn _ _ _ _ _ w (omega arith) (omega arith))

pub returns : goal.returns
unfolding horner_words
returns c = sinking-all _ _ _ _ c.loop-j.invariant (omega arith)
