-- `tiles::weights::pair_weights` meets its contract. The invariant: the first s weights are there, twice each.
-- Assumes nothing.
use Prim.Native.Nat.{◌+◌, ◌*◌}
use mathlib.Core.Path.{◌≡◌}
use lib.ListN.{length}
use Rattle.numbers.specs.Words.{tabulate}
use Rattle.numbers.proofs.WordsLaws.{Writing}
use Rattle.tiles.specs.internal.Weights.{pair_word}
use Rattle.tiles.proofs.weights.pair_weights.Given as goal

abbrev pub invariant-loop-s : goal.invariant-loop-s
invariant-loop-s l = (length l.pairs ≡ 2 * (length l.weights + 1)) × Writing (tabulate (2 * l.s + 2) (pair_word l.weights)) l.initial.pairs l.pairs
