-- `read::values::top_rows` meets its contract: the rows from r on are 0.
-- Assumes nothing.
use mathlib.Core.Path.{◌≡◌}
use Prim.Native.Nat.{ℕ, ◌+◌, ◌*◌, ◌≤◌, ◌<◌}
use Rattle.numbers.specs.Words.{word}
use Rattle.read.proofs.values.top_rows.Given as goal

abbrev pub invariant-loop-r : goal.invariant-loop-r
invariant-loop-r l = (j t : ℕ) → l.r ≤ j → j < l.total → t < l.n → word l.s (j * l.n + t) ≡ 0
