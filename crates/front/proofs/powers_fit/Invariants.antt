-- `front::powers_fit` meets its contract. The loop's invariant: the powers before i are 1 or more, and `left` is what they leave of d.
-- Assumes nothing.
use mathlib.Core.Path.{◌≡◌}
use Prim.Native.Nat.{ℕ, ◌≤◌, ◌<◌, ◌+◌}
use Rattle.algebra.specs.Sums.{sum_to}
use Rattle.layout.specs.Layout.{power}
use Rattle.front.proofs.powers_fit.Given as goal

abbrev pub invariant-loop-i : goal.invariant-loop-i
invariant-loop-i loop = ((l : ℕ) → l < loop.i → 1 ≤ power loop.s l) × (loop.left + sum_to loop.i (power loop.s) ≡ loop.d)
