-- `solution::expand` meets its contract.
-- Assumes nothing.
use native.Mathlib.Omega.{arith}
use Rattle.solution.proofs.DigitsLaws.{expanding-turn, expanding-all}
use Rattle.solution.proofs.expand.Goals as goal

pub loop-i-preserved : goal.loop-i-preserved
loop-i-preserved c =
    let a = c.args in
    let l = c.loop-i in
    expanding-turn a.p (omega arith) a.c.now a.e.now l.i l.e _ c.requires.3 (omega arith) (omega arith) (omega arith) l.invariant c.line_times.ensures

pub returns : goal.returns
returns c = expanding-all _ _ _ _ _ (omega arith) c.loop-i.invariant
