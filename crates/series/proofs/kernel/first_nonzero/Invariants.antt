-- `series::kernel::first_nonzero` meets its contract. The loop's invariant: the words k · step for k below i are 0.
-- Assumes nothing.
use mathlib.Core.Path.{◌≡◌}
use Prim.Native.Nat.{ℕ, ◌*◌, ◌<◌}
use Rattle.numbers.specs.Words.{word}
use Rattle.series.proofs.kernel.first_nonzero.Given as goal

abbrev pub invariant-loop-i : goal.invariant-loop-i
invariant-loop-i l = (k : ℕ) → k < l.i → word l.s (k * l.step) ≡ 0
