-- `rootfinding::search::gcd` meets its contract. The loop's invariant: counts and places stay within the words.
-- Assumes nothing.
use mathlib.Core.Path.{◌≡◌}
use Prim.Native.Nat.{◌≤◌}
use lib.ListN.{length}
use Rattle.rootfinding.proofs.search.gcd.Given as goal

abbrev pub invariant-loop-m : goal.invariant-loop-m
invariant-loop-m l = (l.n ≤ length l.a) × (l.m ≤ length l.b) × (l.m ≤ l.n) × (length l.a ≡ length l.initial.a) × (length l.b ≡ length l.initial.b)

abbrev pub decreases-loop-m : goal.decreases-loop-m
decreases-loop-m l = l.m
