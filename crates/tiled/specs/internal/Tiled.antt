-- What stands beside the rows of a split by tiles. No public contract cites these.
--   lane_sum t N pairs tiles a i       the sum over s = 1..t − 1 of word s of row a, of those in pairs, and word t − s of lane i
--   lane_term t N lanes pairs tiles j a    what row a adds to sum j: its products with lane j − a, where there is one
--   tile_sums m t N lanes pairs tiles j    what the rows below m add to sum j
--   Tiled N a m b k blocks t rows pairs tiles     before column t the words 1..t − 1 of the m rows from row a on stand in pairs, each twice, and those of the
--                                     k rows from row b on in the lanes of tiles, with 0 past these
--   ColumnPut N t a e old new         column t of the rows from row a on is e, the columns before it are as they were
--   Beside N m k paired blocks t rows pairs tiles     so stand the m rows of P and the k of A: P's as pairs and A's as lanes, or the other way round
--   Stands g t rows pairs tiles       the same of a tiling's numbers
--   Sizes g                           their bounds: `paired` rows stand as pairs, blocks tiles hold the others, and high tiles m + k lanes
--   Room g cells pairs tiles          the lengths of what stands beside the rows, and words below 2^24
-- Assumes nothing.
use Rattle.std.specs.Prelude.{ℕ, ◌+◌, ◌-◌, ◌*◌, ◌%◌, ◌≤◌, ◌<◌, ◌≡◌, ◌⊎◌, List, leb, ltb, length}
use Rattle.algebra.specs.Sums.{sum_to}
use Rattle.numbers.specs.Words.{word, choose}
use Rattle.numbers.specs.internal.Facts.{AllBelow}
use Rattle.numbers.specs.internal.Limits.{modulus_bound}
use Rattle.numbers.specs.Limits.{largest_degree, most_rows, largest_width}
use Rattle.tiles.specs.internal.Tile.{tile_at}
use Rattle.tiled.specs.declared.Tiling.{Tiling}

unfoldable pub lane_sum : (t N : ℕ) (pairs tiles : List ℕ) (a i : ℕ) → ℕ
lane_sum t N pairs tiles a i = sum_to (t - 1) (λ s. word pairs (a * (2 * N) + (2 * (s + 1) + i % 2)) * tile_at N tiles (t - (s + 1)) i)

unfoldable pub lane_term : (t N lanes : ℕ) (pairs tiles : List ℕ) (j a : ℕ) → ℕ
lane_term t N lanes pairs tiles j a = choose (leb a j) (choose (ltb (j - a) lanes) (lane_sum t N pairs tiles a (j - a)) 0) 0

abbrev pub tile_sums : (m t N lanes : ℕ) (pairs tiles : List ℕ) (j : ℕ) → ℕ
tile_sums m t N lanes pairs tiles j = sum_to m (lane_term t N lanes pairs tiles j)

pub record Tiled (N a m b k blocks t : ℕ) (rows pairs tiles : List ℕ) : Type 0 where
  pub pairs-long : length pairs ≡ m * (2 * N)
  pub tiles-long : length tiles ≡ blocks * (8 * N)
  pub pairs_below : AllBelow modulus_bound pairs
  pub tiles-below : AllBelow modulus_bound tiles
  pub low : (i : ℕ) → i < m → (s : ℕ) → 1 ≤ s → s < t → (l : ℕ) → l < 2 → word pairs (i * (2 * N) + (2 * s + l)) ≡ word rows ((a + i) * N + s)
  pub high : (s : ℕ) → 1 ≤ s → s < t → (i : ℕ) → i < 8 * blocks → tile_at N tiles s i ≡ choose (ltb i k) (word rows ((b + i) * N + s)) 0

pub record ColumnPut (N t a : ℕ) (e old new : List ℕ) : Type 0 where
  pub here : (j : ℕ) → j < length e → word new ((a + j) * N + t) ≡ word e j
  pub before : (j : ℕ) → j < length e → (s : ℕ) → s < t → word new ((a + j) * N + s) ≡ word old ((a + j) * N + s)

abbrev pub Beside : (N m k paired blocks t : ℕ) (rows pairs tiles : List ℕ) → Type 0
Beside N m k paired blocks t rows pairs tiles =
    ((paired ≡ m) × Tiled N 0 m m k blocks t rows pairs tiles) ⊎ ((paired ≡ m → ⊥) × (paired ≡ k) × Tiled N m k 0 m blocks t rows pairs tiles)

abbrev pub Stands : (g : Tiling) (t : ℕ) (rows pairs tiles : List ℕ) → Type 0
Stands g t rows pairs tiles = Beside g.n g.m g.k g.paired g.blocks t rows pairs tiles

pub record Sizes (g : Tiling) : Type 0 where
  pub some : 1 ≤ g.p
  pub small : g.p < modulus_bound
  pub width : g.n ≤ largest_width
  pub m-low : 1 ≤ g.m
  pub room : g.m + g.k ≤ most_rows
  pub either : (g.paired ≡ g.m) ⊎ (g.paired ≡ g.k)
  pub paired-high : g.paired ≤ largest_degree
  pub lanes : g.m + g.k ≤ g.paired + 8 * g.blocks
  pub few : g.blocks ≤ 5
  pub high-lanes : g.m + g.k ≤ 8 * g.high
  pub high-few : g.high ≤ 5

pub record Room (g : Tiling) (cells pairs tiles : List ℕ) : Type 0 where
  pub cells-long : length cells ≡ g.high * (8 * (g.m + g.k + 1))
  pub pairs-long : length pairs ≡ g.paired * (2 * g.n)
  pub tiles-long : length tiles ≡ g.blocks * (8 * g.n)
  pub cells-below : AllBelow modulus_bound cells
  pub pairs_below : AllBelow modulus_bound pairs
  pub tiles-below : AllBelow modulus_bound tiles
