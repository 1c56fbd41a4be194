-- `calls::make_calls` meets its contract. The loop's invariant: the calls before i are made.
-- Assumes nothing.
use native.Mathlib.Omega.{arith}
use Rattle.calls.proofs.ReplayLaws.{made_none, made_more}
use Rattle.calls.proofs.make_calls.Goals as goal

pub loop-i-init : goal.loop-i-init
loop-i-init c = made_none _ _ _

pub loop-i-preserved : goal.loop-i-preserved
loop-i-preserved c =
    let a = c.args in
    let l = c.loop-i in
    let q = c.requires.0 in
    made_more l.i a.calls.now a.sheet.now _ a.answers.now _ l.invariant _ _ _ (c.requires.1 l.i (omega arith)) (omega arith) c.make_call-answer.ensures c.put_answer.ensures
