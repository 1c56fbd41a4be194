-- `layout::lengths::least_length` meets its contract. The loop's invariant: `shortest` is the least of n and the lengths so far.
-- Assumes nothing.
use mathlib.Core.Path.{◌≡◌}
use Rattle.numbers.specs.Words.{word, least}
use Rattle.layout.proofs.lengths.least_length.Given as goal

abbrev pub invariant-loop-length : goal.invariant-loop-length
invariant-loop-length l = l.shortest ≡ least l.n l.length-index (word l.lengths)
