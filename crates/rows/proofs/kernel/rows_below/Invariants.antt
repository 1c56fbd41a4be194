-- `rows::kernel::rows_below` meets its contract. The loop's invariant: the rows before j pass.
-- Assumes nothing.
use Prim.Native.Nat.{ℕ, ◌≤◌, ◌<◌, ◌+◌, ◌*◌}
use Rattle.numbers.specs.Words.{word}
use Rattle.rows.proofs.kernel.rows_below.Given as goal

abbrev pub invariant-loop-j : goal.invariant-loop-j
invariant-loop-j l = (k : ℕ) → k < l.j → (t : ℕ) → l.from ≤ t → t < l.to → word l.s (k * l.n + t) < l.q
