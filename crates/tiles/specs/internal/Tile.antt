-- What eight sums add up, and tiles: for each eight lanes, `width` steps of eight words. No public contract cites these.
--   tile_step x w a l              a l + x (l % 2) · w l
--   tile_add t s y w a l           a l + y (2 s + l % 2) · w (8 (t − s) + l)
--   TileReady t s y w a           y and w have the words of step s, 1 ≤ s < t, and the sums of a have room for its products
--   tile_sum n t y w a l           a l + the sum over s = 1..n of y (2 s + l % 2) · w (8 (t − s) + l)
--   tile_at width tiles s i        lane i of step s
--   tile_row t width y tiles a i   a i + the sum over s = 1..t − 1 of y (2 s + i % 2) · lane i of step t − s
--   TilePut width blocks t column old new   the words of a column, and 0 past them, have become step t of the tiles; the other steps are the old ones
-- Assumes nothing.
use Rattle.std.specs.Prelude.{ℕ, ◌+◌, ◌-◌, ◌*◌, ◌/◌, ◌%◌, ◌≤◌, ◌<◌, ◌≡◌, List, length}
use Rattle.algebra.specs.Sums.{sum_to}
use Rattle.numbers.specs.Words.{word}
use Rattle.numbers.specs.internal.Facts.{AllBelow}
use Rattle.numbers.specs.internal.Limits.{modulus_bound}
use Rattle.numbers.specs.Limits.{largest_width}

unfoldable pub tile_step : (x w a : List ℕ) → ℕ → ℕ
tile_step x w a l = word a l + word x (l % 2) * word w l

unfoldable pub tile_add : (t s : ℕ) (y w a : List ℕ) → ℕ → ℕ
tile_add t s y w a l = word a l + word y (2 * s + l % 2) * word w (8 * (t - s) + l)

pub record TileReady (t s : ℕ) (y w a : List ℕ) : Type 0 where
  pub first : 1 ≤ s
  pub last : s < t
  pub few : t ≤ largest_width
  pub long-y : 2 * t ≤ length y
  pub long-w : 8 * t ≤ length w
  pub long-a : length a ≡ 8
  pub below-y : AllBelow modulus_bound y
  pub below-w : AllBelow modulus_bound w
  pub below-a : AllBelow 4611686018427387904 a

unfoldable pub tile_sum : (n t : ℕ) (y w a : List ℕ) → ℕ → ℕ
tile_sum n t y w a l = word a l + sum_to n (λ s. word y (2 * (s + 1) + l % 2) * word w (8 * (t - (s + 1)) + l))

abbrev pub tile_at : (width : ℕ) (tiles : List ℕ) (s i : ℕ) → ℕ
tile_at width tiles s i = word tiles (i / 8 * (8 * width) + (8 * s + i % 8))

unfoldable pub tile_row : (t width : ℕ) (y tiles a : List ℕ) → ℕ → ℕ
tile_row t width y tiles a i = word a i + sum_to (t - 1) (λ s. word y (2 * (s + 1) + i % 2) * tile_at width tiles (t - (s + 1)) i)

pub record TilePut (width blocks t : ℕ) (column old new : List ℕ) : Type 0 where
  pub long : length new ≡ length old
  pub here : (i : ℕ) → i < 8 * blocks → tile_at width new t i ≡ word column i
  pub others : (s : ℕ) → s < width → (s ≡ t → ⊥) → (i : ℕ) → i < 8 * blocks → tile_at width new s i ≡ tile_at width old s i
  pub below : (q : ℕ) → 1 ≤ q → AllBelow q column → AllBelow q old → AllBelow q new
