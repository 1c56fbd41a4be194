-- Reading a factor from C: four words.
--   factor_checks s i room   refusals 10, 13 and 16: the four words needed stand in no sheet, so the output is judged first
--   factor_words s i         root, power, and start and length of the part of the sheet that holds the rows
-- Assumes nothing.
use Rattle.std.specs.Prelude.{ℕ, List, [], ◌∷◌}
use Rattle.numbers.specs.Refusals.{Check, room_check}
use Rattle.layout.specs.Layout.{root, power, factor_from, factor_size}
use Rattle.sheet.specs.Reading.{read_checks}

abbrev pub factor_checks : List ℕ → ℕ → ℕ → List Check
factor_checks s i room = room_check room 4 ∷ read_checks s i

abbrev pub factor_words : List ℕ → ℕ → List ℕ
factor_words s i = root s i ∷ power s i ∷ factor_from s i ∷ factor_size s i ∷ []
