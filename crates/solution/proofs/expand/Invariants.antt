-- `solution::expand` meets its contract.
-- Assumes nothing.
use Rattle.solution.proofs.DigitsLaws.{Expanding}
use Rattle.solution.proofs.expand.Given as goal

abbrev pub invariant-loop-i : goal.invariant-loop-i
invariant-loop-i l = Expanding l.p l.c l.initial.e l.i l.e
