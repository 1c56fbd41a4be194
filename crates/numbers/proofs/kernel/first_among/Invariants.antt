-- `numbers::kernel::first_among` meets its contract. The loop's invariant: what it would find among all the numbers, it would find among those from i on.
-- Assumes nothing.
use mathlib.Core.Path.{◌≡◌}
use Prim.Native.Nat.{◌≤◌, ◌-◌}
use lib.ListN.{length, drop}
use Rattle.numbers.specs.internal.Primes.{first_among}
use Rattle.numbers.proofs.kernel.first_among.Given as goal

abbrev pub invariant-loop-i : goal.invariant-loop-i
invariant-loop-i l = (l.i ≤ length l.primes) × (first_among l.p l.primes ≡ first_among l.p (drop l.i l.primes))

abbrev pub decreases-loop-i : goal.decreases-loop-i
decreases-loop-i l = length l.primes - l.i
