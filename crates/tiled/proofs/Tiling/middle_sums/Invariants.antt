-- `tiled::Tiling::middle_sums` meets its contract. The loop's invariant: the sums have what the rows before a add.
-- Assumes nothing.
use mathlib.Core.Path.{◌≡◌}
use Prim.Native.Nat.{ℕ, ◌<◌, ◌+◌, ◌*◌}
use lib.ListN.{length}
use Rattle.numbers.specs.Words.{word}
use Rattle.tiled.specs.internal.Tiled.{tile_sums}
use Rattle.tiled.proofs.Tiling.middle_sums.Given as goal

abbrev pub invariant-loop-a : goal.invariant-loop-a
invariant-loop-a l = (length l.sums ≡ l.self.paired + 8 * l.self.blocks) × ((j : ℕ) → j < l.self.paired + 8 * l.self.blocks → word l.sums j ≡ tile_sums l.a l.t l.self.n (8 * l.self.blocks) l.pairs l.tiles j)
