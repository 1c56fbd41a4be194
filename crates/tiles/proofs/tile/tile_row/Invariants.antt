-- `tiles::tile::tile_row` meets its contract. The invariant: the first b blocks are added up.
-- Assumes nothing.
use Prim.Native.Nat.{◌*◌}
use Rattle.numbers.specs.Words.{tabulate}
use Rattle.numbers.proofs.WordsLaws.{Writing}
use Rattle.tiles.specs.internal.Tile.{tile_row}
use Rattle.tiles.proofs.tile.tile_row.Given as goal

abbrev pub invariant-loop-b : goal.invariant-loop-b
invariant-loop-b l = Writing (tabulate (8 * l.b) (tile_row l.t l.width l.y l.tiles l.initial.a)) l.initial.a l.a
