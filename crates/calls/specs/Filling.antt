-- Filling in the entries that are not known.
--   filled g rows   what open was given, with these rows in place of its own, all known to N
--   Fills g rows    these rows fill in what is not known of g: they are below p, and where g is known they are its own
--   SameFilled      every way of filling in gives the same factors below the least known length
--   OwnFilled       which are those of the sheet itself
--   ApartFilled     where that is less than N, some two ways differ at the next column
-- Assumes nothing.
use Rattle.std.specs.Prelude.{ℕ, ◌+◌, ◌*◌, ◌≤◌, ◌<◌, ◌≡◌, false, List, length}
use Rattle.numbers.specs.Words.{word}
use Rattle.numbers.specs.Refusals.{unreduced}
use Rattle.sheet.specs.Sheet.{Given, whole_of, given-reach, given-polynomial, Holds}
use Rattle.calls.specs.Calls.{SameLists}

abbrev pub filled : Given → List ℕ → Given
filled g rows = whole_of g.p g.D g.N rows g.roots

pub record Fills (g : Given) (rows : List ℕ) : Type 0 where
  pub long : length rows ≡ (g.D + 1) * g.N
  pub reduced : unreduced g.p rows ≡ false
  pub known : (j : ℕ) → j < g.D → (t : ℕ) → t < word g.lengths j → given-polynomial (filled g rows) j t ≡ given-polynomial g j t
  pub top : (t : ℕ) → t < g.N → given-polynomial (filled g rows) g.D t ≡ given-polynomial g g.D t

-- s and u are sheets of g filled in by a and by b
abbrev pub SameFilled : Given → Type 0
SameFilled g =
    (a b : List ℕ) → Fills g a → Fills g b → (k w : ℕ) (s u : List ℕ) → Holds (filled g a) k s → Holds (filled g b) w u
    → (j : ℕ) → 1 ≤ j → j ≤ k → j ≤ w → j ≤ given-reach g → SameLists j s u

-- s is a sheet of g itself, which has no more terms than the least known length
abbrev pub OwnFilled : Given → Type 0
OwnFilled g = (a : List ℕ) → Fills g a → (k w : ℕ) (s u : List ℕ) → Holds g k s → Holds (filled g a) w u → (j : ℕ) → 1 ≤ j → j ≤ k → j ≤ w → SameLists j s u

-- below the least known length they agree, so it is at this column that they differ
abbrev pub ApartFilled : Given → Type 0
ApartFilled g =
    (a b : List ℕ) × Fills g a × Fills g b
    × ((k w : ℕ) (s u : List ℕ) → Holds (filled g a) k s → Holds (filled g b) w u → given-reach g < k → given-reach g < w → ¬ SameLists (given-reach g + 1) s u)
