-- `numbers::kernel::inverse_of` meets its contract. The loop's invariant: c * a is m modulo p, and m is at least 1, since no m between
-- divides the prime p.
-- Assumes nothing.
use mathlib.Core.Path.{◌≡◌}
use Prim.Native.Nat.{◌≤◌, ◌<◌, ◌*◌, ◌%◌}
use Rattle.numbers.proofs.kernel.inverse_of.Given as goal

abbrev pub invariant-loop-m : goal.invariant-loop-m
invariant-loop-m l = (1 ≤ l.m) × (l.m < l.p) × (l.c < l.p) × ((l.c * l.a) % l.p ≡ l.m)

abbrev pub decreases-loop-m : goal.decreases-loop-m
decreases-loop-m l = l.m
