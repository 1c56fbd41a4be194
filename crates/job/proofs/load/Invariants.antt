-- `job::load` meets its contract: field after field.
-- Assumes nothing.
use Rattle.numbers.proofs.WordsLaws.{Writing}
use Rattle.job.specs.Job.{fields}
use Rattle.job.proofs.load.Given as goal

abbrev pub invariant-loop-i : goal.invariant-loop-i
invariant-loop-i l = Writing (fields l.job l.from l.i) l.initial.out l.out
