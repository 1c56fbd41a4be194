-- What storing the factors' rows leaves. No public contract cites this.
--   Stored old w rows new   the sheet `old` with `rows` as its factors' rows and w as its terms
-- Assumes nothing.
use Rattle.std.specs.Prelude.{ℕ, ◌+◌, ◌*◌, ◌≤◌, ◌<◌, ◌≡◌, ◌≢◌, ◌⊎◌, List, length}
use Rattle.numbers.specs.Words.{word}
use Rattle.layout.specs.Layout.{degree, width, terms_at, terms, count, factors_from, end}

pub record Stored (old : List ℕ) (w : ℕ) (rows new : List ℕ) : Type 0 where
  pub long : length new ≡ length old
  pub reached : terms new ≡ w
  pub factors : (i : ℕ) → i < degree old * width old → word new (factors_from (degree old) (width old) (count old) + i) ≡ word rows i
  pub others : (i : ℕ) → i ≢ terms_at → (i < factors_from (degree old) (width old) (count old)) ⊎ (end old ≤ i) → word new i ≡ word old i
