-- Reading a typed polynomial: what every input is answered, and what every lent word holds afterwards.
--   no_reading, reading_depth, reading_value, reading_high   what checks and answer ask of a reading; of an unreadable text nothing more than that is asked
--   read_degree, read_words    the answer, and the words of rows 0 to the answer
--   reading_checks size r     17 and 18, for a text of `size` bytes whose reading is r
--   text_checks ..            the checks up to 18, which need no value
--   read_checks ..            all checks, in the order 1 2 4 17 18 19 10, for `room` words of output
--   ReadOf ..                the call's outcome: the grammar derives the text as a reading, and answer and words are those of this reading
-- That every text has exactly one reading is `reading-one`, so ReadOf has exactly one answer and one content of the slice (`read_one`).
-- Assumes nothing.
use Rattle.std.specs.Prelude.{◌≡◌, Bool, true, false, ◌||◌, List, [], ◌∷◌, ◌++◌, ℕ, ◌+◌, ◌*◌, ltb, length}
use Rattle.numbers.specs.Words.{over}
use Rattle.numbers.specs.Refusals.{Check, check, judge, Outcome, outcome_after, written, modulus_checks, width_check, room_check}
use Rattle.rows.specs.Rows.{table}
use Rattle.formula.specs.Formula.{Reading, reads, unreadable, sum_depth}
use Rattle.formula.specs.Limits.{longest_text, deepest_brackets}
use Rattle.formula.specs.Grammar.{Derives}
use Rattle.read.specs.Value.{Poly, constant, sum_value, degree, sum_high}

abbrev pub no_reading : Reading → Bool
no_reading (reads s) = false
no_reading unreadable = true

abbrev pub reading_depth : Reading → ℕ
reading_depth (reads s) = sum_depth s
reading_depth unreadable = 0

abbrev pub reading_value : ℕ → Reading → Poly
reading_value p (reads s) = sum_value p s
reading_value p unreadable = constant p 0

abbrev pub reading_high : (p N : ℕ) → Reading → Bool
reading_high p N (reads s) = sum_high p N s
reading_high p N unreadable = false

abbrev pub read_degree : (p N : ℕ) → Reading → ℕ
read_degree p N r = degree N (reading_value p r)

abbrev pub read_words : (p N : ℕ) → Reading → List ℕ
read_words p N r = table (read_degree p N r + 1) N (reading_value p r).row

abbrev pub reading_checks : (size : ℕ) (r : Reading) → List Check
reading_checks size r = check 17 (ltb longest_text size || no_reading r) 0 ∷ check 18 (ltb deepest_brackets (reading_depth r)) 0 ∷ []

abbrev pub text_checks : (p N size : ℕ) (r : Reading) → List Check
text_checks p N size r = modulus_checks p ++ (width_check N ∷ reading_checks size r)

abbrev pub read_checks : (p N size : ℕ) (r : Reading) (room : ℕ) → List Check
read_checks p N size r room = text_checks p N size r ++ (check 19 (reading_high p N r) 0 ∷ room_check room ((read_degree p N r + 1) * N) ∷ [])

pub record ReadOf (p N : ℕ) (text old : List ℕ) (answer : Outcome ℕ) (new : List ℕ) : Type 0 where
  pub reading : Reading
  pub derived : Derives text reading
  pub answers : answer ≡ outcome_after (judge (read_checks p N (length text) reading (length old))) (read_degree p N reading)
  pub leaves : new ≡ written (judge (read_checks p N (length text) reading (length old))) (over (read_words p N reading) old) old
