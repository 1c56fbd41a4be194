-- `modulo::Modulus::vanishes` meets its contract. The loop's invariant: the words are the n-th power of Y^p − Y.
-- Assumes nothing.
use Prim.Native.Nat.{◌-◌, ◌≤◌}
use Rattle.modulo.specs.internal.Modulo.{Remainder, power, frobenius}
use Rattle.modulo.proofs.Modulus.vanishes.Given as goal

abbrev pub invariant-loop-n : goal.invariant-loop-n
invariant-loop-n l = (1 ≤ l.n) × Remainder l.self.p l.self.f.now (power l.self.p (frobenius l.self.p) l.n) l.w

abbrev pub decreases-loop-n : goal.decreases-loop-n
decreases-loop-n l = l.d - l.n
