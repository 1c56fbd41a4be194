-- `tiled::less_sums` meets its contract. The loop's invariant: before j the words are what the sums leave, from there on the old ones.
-- Assumes nothing.
use mathlib.Core.Path.{◌≡◌}
use lib.ListN.{length}
use Rattle.numbers.specs.Words.{tabulate}
use Rattle.numbers.proofs.WordsLaws.{Writing}
use Rattle.tiled.proofs.TiledLaws.{less_at}
use Rattle.tiled.proofs.less_sums.Given as goal

abbrev pub invariant-loop-j : goal.invariant-loop-j
invariant-loop-j l = (length l.e ≡ length l.initial.e) × Writing (tabulate l.j (less_at l.p l.n l.t l.sums l.rows)) l.initial.e l.e
