-- `job::load` meets its contract: field after field.
-- Assumes nothing.
use native.Mathlib.Omega.{arith}
use Rattle.numbers.specs.Words.{tabulate}
use Rattle.numbers.proofs.WordsLaws.{writing-none, writing-next}
use Rattle.job.proofs.JobLaws.{loaded}
use Rattle.job.proofs.load.Goals as goal

pub loop-i-init : goal.loop-i-init
unfolding tabulate
loop-i-init c = writing-none _

pub loop-i-preserved : goal.loop-i-preserved
loop-i-preserved c = writing-next _ _ _ _ _ c.loop-i.invariant c.field.ensures (omega arith)

pub returns : goal.returns
returns c = loaded _ _ _ _ _ c.loop-i.invariant (omega arith)
