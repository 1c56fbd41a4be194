-- `read::longest::end_of` meets its contract: the brackets that are open are no more than the bytes before q.
-- Assumes nothing.
use Prim.Native.Nat.{◌≤◌}
use Rattle.read.proofs.longest.end_of.Given as goal

abbrev pub invariant-loop-q : goal.invariant-loop-q
invariant-loop-q l = l.depth ≤ l.q
