-- A sheet that is as if its polynomial had been given so from the first.
--   Afresh f k new   open accepts f, and `new` is the sheet of f worked to k terms, word for word
-- Assumes nothing.
use Rattle.numbers.specs.Refusals.{Pass}
use Rattle.std.specs.Prelude.{ℕ, ◌≡◌, List, take}
use Rattle.layout.specs.Layout.{end}
use Rattle.sheet.specs.Sheet.{Given, Holds}
use Rattle.open.specs.Open.{needed, open_verdict}

pub record Afresh (f : Given) (k : ℕ) (new : List ℕ) : Type 0 where
  pub opens : open_verdict f (needed f) ≡ Pass
  pub holds : Holds f k new
  pub only : (s : List ℕ) → Holds f k s → take (end new) s ≡ take (end new) new
