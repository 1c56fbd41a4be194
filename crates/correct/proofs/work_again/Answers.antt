-- `correct::work_again` meets its contract: the polynomial splits, so that there are factors.
-- Assumes nothing.
use native.Mathlib.Omega.{arith}
use Rattle.correct.proofs.CorrectTotalLaws.{worked}
use Rattle.correct.proofs.work_again.Goals as goal

pub returns-then-t-k : goal.returns-then-t-k
returns-then-t-k c =
    worked c.args.sheet.now _ c.read_header-k.ensures.terms-is c.requires.1 _ _ c.work_out.ensures

pub returns-else-t-k : goal.returns-else-t-k
returns-else-t-k c = let e = c.read_header-k.ensures.terms-is in c.requires.3 (omega arith)
