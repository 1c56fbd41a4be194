-- `series::kernel::reduce_sums` meets its contract. The invariant: the first i sums are reduced.
-- Assumes nothing.
use mathlib.Core.Path.{refl, ◌∙◌}
use native.Mathlib.Omega.{arith}
use lib.ListN.{length}
use Rattle.numbers.specs.Words.{tabulate}
use Rattle.numbers.proofs.WordsLaws.{writing-none, writing-next, writing-all, length-tabulate, over-whole}
use Rattle.series.proofs.kernel.reduce_sums.Goals as goal

pub loop-i-init : goal.loop-i-init
unfolding tabulate
loop-i-init c = writing-none _

pub loop-i-preserved : goal.loop-i-preserved
loop-i-preserved c = let l = c.loop-i in writing-next l.i _ _ _ _ l.invariant refl (omega arith)

pub returns : goal.returns
returns c = writing-all _ (length c.args.out.now) _ _ _ c.loop-i.invariant (omega arith) ∙ over-whole _ _ (length-tabulate _ _)
