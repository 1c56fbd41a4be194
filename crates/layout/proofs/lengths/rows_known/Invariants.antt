-- `layout::lengths::rows_known` meets its contract. The loop's invariant: the rows before j are known to their lengths.
-- Assumes nothing.
use Prim.Native.Nat.{ℕ, ◌<◌}
use mathlib.Core.Path.{◌≡◌}
use mathlib.Core.Bool.{true}
use Rattle.numbers.specs.Words.{word}
use Rattle.series.specs.Known.{known_to}
use Rattle.layout.specs.Layout.{rows_at}
use Rattle.layout.proofs.lengths.rows_known.Given as goal

abbrev pub invariant-loop-j : goal.invariant-loop-j
invariant-loop-j l = (k : ℕ) → k < l.j → known_to l.n (word l.lengths k) (rows_at l.rows 0 l.n k) ≡ true
