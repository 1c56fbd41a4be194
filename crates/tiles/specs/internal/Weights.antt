-- A square table kept as tiles, and weights as a row of tiles wants them. No public contract cites these.
--   TableTiled n blocks table tiles   row j of the table is step n − j of the tiles
--   pair_word weights k                word k of 0, 0 and then each weight twice
-- Assumes nothing.
use Rattle.std.specs.Prelude.{ℕ, ◌+◌, ◌-◌, ◌*◌, ◌/◌, ◌<◌, ◌≡◌, List, ◌∷◌, length}
use Rattle.numbers.specs.Words.{word}
use Rattle.numbers.specs.internal.Facts.{AllBelow}
use Rattle.numbers.specs.internal.Limits.{modulus_bound}
use Rattle.tiles.specs.internal.Tile.{tile_at}

pub record TableTiled (n blocks : ℕ) (table tiles : List ℕ) : Type 0 where
  pub long : length tiles ≡ blocks * (8 * (n + 1))
  pub below : AllBelow modulus_bound tiles
  pub rows : (j : ℕ) → j < n → (i : ℕ) → i < n → tile_at (n + 1) tiles (n - j) i ≡ word table (j * n + i)

unfoldable pub pair_word : List ℕ → ℕ → ℕ
pair_word weights k = word (0 ∷ weights) (k / 2)
