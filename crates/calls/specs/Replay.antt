-- What `replay` answers and leaves: the calls of a list, made one after the other.
--   call_words, call_count      the words that say a call, and how many calls a list of words says
--   call_word, asked_by, call_at, calls_to   a word of call i; what a call asks for, by its kind; call i, and the calls 0..n − 1
--   call_fits size calls i     call i can be made
--   answer_pair, answer_words   an answer in two words, 0 and the number accepted, or the refusal's number and detail; the answers of a list
--   answer_count calls         the number of these words
--   replay_checks, replay_verdict   the checks, and what they come to; `size` is the length of the sheet's slice, `room` that of the answers
--   ReplayDone, ReplayLeaves  what an accepted call leaves, and what any call does
--   Replayed ..               replay's answer and the words of both slices at exit
-- Assumes nothing.
use Rattle.std.specs.Prelude.{ℕ, zero, suc, ◌+◌, ◌*◌, ◌/◌, ◌%◌, ◌≡◌, Bool, not, ◌||◌, List, [], ◌∷◌, ◌++◌, ltb, leb, eqb, length}
use Rattle.numbers.specs.Words.{word, low_word, all, all_to, over}
use Rattle.numbers.specs.Refusals.{Check, check, judge, Outcome, accepted, refused, outcome_after, Verdict, Pass, Refuse}
use Rattle.sheet.specs.Sheet.{Given}
use Rattle.open.specs.Open.{Opened}
use Rattle.calls.specs.Calls.{Asked, extend, correct, Call, Run, Kept}

-- Five words say a call: the number of words lent, the kind, which is 0 for an extend and 1 for a correction, and then w, 0, 0 or j, t, entry.
abbrev pub call_words : ℕ
call_words = 5

abbrev pub call_count : List ℕ → ℕ
call_count calls = length calls / call_words

abbrev pub call_word : List ℕ → (i n : ℕ) → ℕ
call_word calls i n = word calls (call_words * i + n)

abbrev pub asked_by : (kind a b c : ℕ) → Asked
asked_by zero a b c = extend a
asked_by (suc kind) a b c = correct a b c

abbrev pub call_at : List ℕ → ℕ → Call
call_at calls i = record { lent = word calls (call_words * i); asked = asked_by (call_word calls i 1) (call_word calls i 2) (call_word calls i 3) (call_word calls i 4) }

unfoldable pub calls_to : ℕ → List ℕ → List Call
calls_to zero calls = []
calls_to (suc n) calls = calls_to n calls ++ (call_at calls n ∷ [])

-- it lends no more words than there are, it is a correction or an extend, and after an extend's w its words are 0
unfoldable pub call_fits : (size : ℕ) → List ℕ → ℕ → Bool
call_fits size calls i =
    all (leb (call_at calls i).lent size
    ∷ (eqb (call_word calls i 1) 1 || all (eqb (call_word calls i 1) 0 ∷ eqb (call_word calls i 3) 0 ∷ eqb (call_word calls i 4) 0 ∷ []))
    ∷ [])

abbrev pub answer_pair : Outcome ℕ → List ℕ
answer_pair (accepted w) = 0 ∷ w ∷ []
answer_pair (refused n d) = n ∷ d ∷ []

unfoldable pub answer_words : List (Outcome ℕ) → List ℕ
answer_words [] = []
answer_words (a ∷ l) = answer_pair a ++ answer_words l

abbrev pub answer_count : List ℕ → ℕ
answer_count calls = 2 * call_count calls

abbrev pub replay_checks : (size : ℕ) (calls : List ℕ) (room : ℕ) → List Check
replay_checks size calls room =
    check 5 (not (eqb (length calls % call_words) 0)) 0
    ∷ check 5 (not (all_to (call_count calls) (call_fits size calls))) 0
    ∷ check 10 (ltb room (answer_count calls)) (low_word (answer_count calls))
    ∷ []

unfoldable pub replay_verdict : (size : ℕ) (calls : List ℕ) (room : ℕ) → Verdict
replay_verdict size calls room = judge (replay_checks size calls room)

-- the calls were made, and their answers written; where an accepted open had written the sheet, demand 3 says what they are and what was left
pub record ReplayDone (cs : List Call) (start last old new : List ℕ) : Type 0 where
  pub answers : List (Outcome ℕ)
  pub run : Run start cs answers last
  pub words : new ≡ over (answer_words answers) old
  pub kept : (g : Given) (before : List ℕ) (T : ℕ) (opened : Opened g before (accepted T) start)
      → Kept (record { given = g; before = before; T = T; start = start; opened = opened; calls = cs; answers = answers; last = last; run = run })

abbrev pub ReplayLeaves : Verdict → List Call → (start last old new : List ℕ) → Type 0
ReplayLeaves Pass cs start last old new = ReplayDone cs start last old new
ReplayLeaves (Refuse r) cs start last old new = (last ≡ start) × (new ≡ old)

-- replay: lent a sheet `start`, the words of the calls and a slice `old` for the answers, it answers `answer` and leaves `last` and `new`.
-- For every input this has exactly one solution, to the last word: `replayed-one` in proofs/OneLaws.
pub record Replayed (calls : List ℕ) (start old : List ℕ) (answer : Outcome ℕ) (last new : List ℕ) : Type 0 where
  pub answers : answer ≡ outcome_after (replay_verdict (length start) calls (length old)) (low_word (answer_count calls))
  pub leaves : ReplayLeaves (replay_verdict (length start) calls (length old)) (calls_to (call_count calls) calls) start last old new
