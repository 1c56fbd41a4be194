-- `solution::digits` meets its contract.
-- Assumes nothing.
use Rattle.solution.specs.internal.Table.{Digits}
use Rattle.solution.proofs.digits.Given as goal

abbrev pub invariant-loop-l : goal.invariant-loop-l
invariant-loop-l l = Digits l.p l.c l.a l.l l.initial.e l.e
