-- `tiled::Tiling::load_tiles` meets its contract. The loop's invariant: the columns below t stand beside the rows.
-- Assumes nothing.
use mathlib.Core.Path.{◌≡◌}
use Prim.Native.Nat.{◌+◌}
use lib.ListN.{length}
use Rattle.tiled.specs.internal.Tiled.{Stands}
use Rattle.tiled.proofs.Tiling.load_tiles.Given as goal

abbrev pub invariant-loop-t : goal.invariant-loop-t
invariant-loop-t l = (length l.column ≡ l.self.m + l.self.k) × Stands l.self l.t l.rows l.pairs l.tiles
