-- What correct answers and leaves.
--   is_entry D known j t   row j, column t of a polynomial of degree D can be corrected: it is known, and does not stand at X = 0
--   entry_check, number_check   refusals 20 and 6
--   correct_checks, correct_verdict   the checks, and what they come to
--   CorrectDone        what an accepted call leaves: a sound sheet with the new entry; no other word is changed but in the columns that depend on it
--   Corrected          correct's answer and the words at exit
--   corrected g j t entry   what open was given, with this entry
-- Assumes nothing.
use Rattle.std.specs.Prelude.{ℕ, ◌+◌, ◌*◌, ◌≡◌, Bool, not, ◌≢◌, List, [], ◌∷◌, ltb, leb, length, set}
use Rattle.numbers.specs.Words.{word, all}
use Rattle.numbers.specs.Refusals.{Check, check, judge, Outcome, outcome_after, Leaves, Verdict}
use Rattle.layout.specs.Layout.{modulus, degree, terms, known, entry_at, InColumns}
use Rattle.sheet.specs.Sheet.{Sound, Given, given_of}
use Rattle.sheet.specs.Reading.{sound_check}

-- Row D and column 0 can't be corrected: the polynomial stays monic, and its roots at X = 0 stay as they are. No row is known beyond N.
unfoldable pub is_entry : (D : ℕ) (known : ℕ → ℕ) (j t : ℕ) → Bool
is_entry D known j t = all (ltb j D ∷ leb 1 t ∷ ltb t (known j) ∷ [])

abbrev pub entry_check : (D : ℕ) (known : ℕ → ℕ) (j t : ℕ) → Check
entry_check D known j t = check 20 (not (is_entry D known j t)) 0

abbrev pub number_check : (p entry : ℕ) → Check
number_check p entry = check 6 (leb p entry) 0

abbrev pub correct_checks : List ℕ → (j t entry : ℕ) → List Check
correct_checks s j t entry = sound_check s ∷ entry_check (degree s) (known s) j t ∷ number_check (modulus s) entry ∷ []

unfoldable pub correct_verdict : List ℕ → (j t entry : ℕ) → Verdict
correct_verdict s j t entry = judge (correct_checks s j t entry)

-- only the entry's word and columns t..k − 1 of the factors' rows are changed: where t is k or more there are no such columns
pub record CorrectDone (old : List ℕ) (j t entry : ℕ) (new : List ℕ) : Type 0 where
  pub same_length : length new ≡ length old
  pub sound : Sound new
  pub entered : word new (entry_at old j t) ≡ entry
  pub rest : (i : ℕ) → i ≢ entry_at old j t → ¬ InColumns old t (terms old) i → word new i ≡ word old i

-- correct: lent `old`, it answers `answer`, which is k, and leaves `new`
pub record Corrected (old : List ℕ) (j t entry : ℕ) (answer : Outcome ℕ) (new : List ℕ) : Type 0 where
  pub answers : answer ≡ outcome_after (correct_verdict old j t entry) (terms old)
  pub leaves : Leaves (correct_verdict old j t entry) (CorrectDone old j t entry new) old new

-- What open was given, with this entry. The sheet that correct leaves is the one of it: `correct-holds` in proofs/CorrectingLaws.
abbrev pub corrected : Given → (j t entry : ℕ) → Given
corrected g j t entry = given_of g.p g.D g.N (set g.rows (j * g.N + t) entry) g.lengths g.roots
