-- What extend answers and leaves.
--   extend_checks, extend_verdict   the checks, and what they come to
--   ExtendDone         what an accepted call leaves: a sound sheet of w terms; no other word is changed
--   Extended           extend's answer and the words at exit
-- Assumes nothing.
use Rattle.std.specs.Prelude.{ℕ, ◌≡◌, ◌≢◌, List, [], ◌∷◌, length}
use Rattle.numbers.specs.Words.{word}
use Rattle.numbers.specs.Refusals.{Check, beyond_check, behind_check, judge, Outcome, outcome_after, Leaves, Verdict}
use Rattle.layout.specs.Layout.{terms_at, terms, reach, InColumns}
use Rattle.sheet.specs.Sheet.{Sound}
use Rattle.sheet.specs.Reading.{sound_check}

abbrev pub extend_checks : List ℕ → ℕ → List Check
extend_checks s w = sound_check s ∷ beyond_check (reach s) w ∷ behind_check (terms s) w ∷ []

unfoldable pub extend_verdict : List ℕ → ℕ → Verdict
extend_verdict s w = judge (extend_checks s w)

-- only header word 3 and columns k..w − 1 of the factors' rows are changed
pub record ExtendDone (old : List ℕ) (w : ℕ) (new : List ℕ) : Type 0 where
  pub same_length : length new ≡ length old
  pub sound : Sound new
  pub reached : terms new ≡ w
  pub rest : (i : ℕ) → i ≢ terms_at → ¬ InColumns old (terms old) w i → word new i ≡ word old i

-- extend: lent `old`, it answers `answer` and leaves `new`
pub record Extended (old : List ℕ) (w : ℕ) (answer : Outcome ℕ) (new : List ℕ) : Type 0 where
  pub answers : answer ≡ outcome_after (extend_verdict old w) w
  pub leaves : Leaves (extend_verdict old w) (ExtendDone old w new) old new
