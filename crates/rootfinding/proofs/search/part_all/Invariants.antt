-- `rootfinding::search::part_all` meets its contract. The loop's invariant: counts and places stay within the words.
-- Assumes nothing.
use Prim.Native.Nat.{◌≤◌}
use lib.ListN.{length}
use Rattle.rootfinding.proofs.search.part_all.Given as goal

abbrev pub invariant-loop-steps : goal.invariant-loop-steps
invariant-loop-steps l = l.o ≤ length l.roots
