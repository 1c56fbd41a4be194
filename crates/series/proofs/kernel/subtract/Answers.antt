-- `series::kernel::subtract` meets its contract. The loop's invariant: out has the words of the difference before t, and past them what it had.
-- Assumes nothing.
use mathlib.Core.Path.{refl}
use native.Mathlib.Omega.{arith}
use Rattle.numbers.specs.Words.{tabulate}
use Rattle.numbers.proofs.WordsLaws.{writing-none, writing-next, writing-all}
use Rattle.series.specs.Series.{differences}
use Rattle.series.proofs.kernel.subtract.Goals as goal

pub loop-t-init : goal.loop-t-init
unfolding tabulate
loop-t-init c = writing-none _

pub loop-t-preserved : goal.loop-t-preserved
loop-t-preserved c = writing-next _ _ _ _ _ c.loop-t.invariant refl (omega arith)

pub returns : goal.returns
unfolding differences
returns c = writing-all _ _ _ _ _ c.loop-t.invariant (omega arith)
