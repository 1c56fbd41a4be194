-- `modulo::Modulus::power_of` meets its contract. The loop's invariant: the power by the digits of n down to that of `bit`.
-- Assumes nothing.
use Prim.Native.Nat.{◌≤◌}
use Rattle.modulo.proofs.ProductLaws.{Powering}
use Rattle.modulo.proofs.Modulus.power_of.Given as goal

abbrev pub invariant-loop-bit : goal.invariant-loop-bit
invariant-loop-bit l = (1 ≤ l.bit) × Powering l.self.p l.self.f.now l.c l.n l.bit l.out

abbrev pub decreases-loop-bit : goal.decreases-loop-bit
decreases-loop-bit l = l.bit
