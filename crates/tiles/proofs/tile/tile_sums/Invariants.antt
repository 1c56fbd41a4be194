-- `tiles::tile::tile_sums` meets its contract. The invariant: a has the sums of the first s − 1 steps.
-- Assumes nothing.
use mathlib.Core.Path.{◌≡◌}
use Prim.Native.Nat.{◌≤◌, ◌-◌}
use Rattle.numbers.specs.Words.{tabulate}
use Rattle.tiles.specs.internal.Tile.{tile_sum}
use Rattle.tiles.proofs.tile.tile_sums.Given as goal

abbrev pub invariant-loop-s : goal.invariant-loop-s
invariant-loop-s l = (1 ≤ l.s) × (l.s ≤ l.t) × (l.a ≡ tabulate 8 (tile_sum (l.s - 1) l.t l.y l.w l.initial.a))

abbrev pub decreases-loop-s : goal.decreases-loop-s
decreases-loop-s l = l.t - l.s
