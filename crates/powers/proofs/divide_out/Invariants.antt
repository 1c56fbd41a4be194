-- `powers::divide_out` meets its contract. The loop's invariant: Y − c is divided out a − at times.
-- Assumes nothing.
use Rattle.powers.specs.internal.Powers.{Divided}
use Rattle.powers.proofs.divide_out.Given as goal

abbrev pub invariant-loop-a : goal.invariant-loop-a
invariant-loop-a l = Divided l.p l.c l.at l.initial.e l.a l.e
