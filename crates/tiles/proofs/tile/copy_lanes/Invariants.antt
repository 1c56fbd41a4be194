-- `tiles::tile::copy_lanes` meets its contract. The invariant: the first l words are copied.
-- Assumes nothing.
use Rattle.numbers.specs.Words.{word, tabulate}
use Rattle.numbers.proofs.WordsLaws.{Writing}
use Rattle.tiles.proofs.tile.copy_lanes.Given as goal

abbrev pub invariant-loop-l : goal.invariant-loop-l
invariant-loop-l l = Writing (tabulate l.l (word l.from)) l.initial.to l.to
