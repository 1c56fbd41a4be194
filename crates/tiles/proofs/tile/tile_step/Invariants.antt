-- `tiles::tile::tile_step` meets its contract.
-- Assumes nothing.
use mathlib.Core.Path.{◌≡◌}
use lib.ListN.{length}
use Rattle.numbers.specs.Words.{tabulate}
use Rattle.numbers.proofs.WordsLaws.{Writing}
use Rattle.tiles.specs.internal.Tile.{tile_step}
use Rattle.tiles.proofs.tile.tile_step.Given as goal

abbrev pub invariant-loop-l : goal.invariant-loop-l
invariant-loop-l l = (length l.a ≡ 8) × Writing (tabulate l.l (tile_step l.x l.w l.initial.a)) l.initial.a l.a
