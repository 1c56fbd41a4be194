-- `columns::copy` meets its contract. The loop's invariant: the words before i are written.
-- Assumes nothing.
use mathlib.Core.Path.{refl, ap, ◌∙◌}
use mathlib.Core.List.{List}
use Prim.Native.Nat.{ℕ}
use native.Mathlib.Omega.{arith}
use lib.ListN.{length}
use Rattle.numbers.specs.Words.{word, tabulate, over}
use Rattle.numbers.proofs.WordsLaws.{writing-none, writing-next, writing-all}
use Rattle.columns.proofs.ColumnLaws.{tabulate-words}
use Rattle.columns.proofs.copy.Goals as goal

pub loop-i-init : goal.loop-i-init
unfolding tabulate
loop-i-init c = writing-none _

pub loop-i-preserved : goal.loop-i-preserved
loop-i-preserved c = writing-next _ _ _ _ _ c.loop-i.invariant refl (omega arith)

pub returns : goal.returns
returns c =
    let w = c.args.words.now in
    writing-all _ (length w) (word w) _ _ c.loop-i.invariant (omega arith) ∙ ap (λ (l : List ℕ). over l c.args.out.now) (tabulate-words w)
