-- `split::factors::half` meets its contract.
-- Assumes nothing.
use Prim.Native.Nat.{◌≤◌, ◌*◌}
use Rattle.split.proofs.factors.half.Given as goal

abbrev pub invariant-loop-i : goal.invariant-loop-i
invariant-loop-i l = l.m ≤ 32 * l.i
