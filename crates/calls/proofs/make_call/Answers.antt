-- `calls::make_call` meets its contract: the kind says which call it is.
-- Assumes nothing.
use Rattle.calls.proofs.ReplayLaws.{does-extend, does-correct}
use Rattle.calls.proofs.make_call.Goals as goal

pub returns-then-calls-from-eq-EXTEND : goal.returns-then-calls-from-eq-EXTEND
returns-then-calls-from-eq-EXTEND c = does-extend _ _ _ _ _ _ _ c.if-calls-from-eq-EXTEND.true c.extend.ensures

pub returns : goal.returns
returns c = does-correct _ _ _ _ _ _ _ c.if-calls-from-eq-EXTEND.false c.correct.ensures
