-- What typed input comes to, and what the call answers and leaves.
--   typed_given p N r     what find is given of the reading r: the rows of its value, all known to N, and no roots
--   order_checks p N      modulus and terms: refusals 1, 2 and 4
--   given_checks g        the degree, refusal 3, and then find's: there is room enough, so that 10 is never given
--   key_checks ..         all checks of an order whose text has `size` bytes and the reading r. In the middle are read's: of these 1, 2 and 4 have passed, 17, 18
--                        and 19 can be given, and 10 cannot, since the words lent are enough for every polynomial (`read-room`)
--   key_verdict ..        what they come to
--   TypedKey p N typed text   the text that an order for the text `typed` comes to: by its one reading, the line of the refusal, or the listing with N terms
--   KeyOf order text     the text that an order comes to; nothing asked for is refused by 17
--   IsKey input text     the text that the input comes to
--   Keyed ..             lent `old`, the call answers `answer` and leaves `new`; with 9,216 bytes there is always room
-- (`one_key` shows that each input comes to exactly one text.)
-- Assumes nothing.
use Rattle.std.specs.Prelude.{ℕ, ◌≤◌, ◌≡◌, List, [], ◌∷◌, ◌++◌, length}
use Rattle.numbers.specs.Words.{outside, over}
use Rattle.numbers.specs.Refusals.{Check, check, judge, Outcome, outcome_after, written, modulus_checks, Verdict}
use Rattle.sheet.specs.Sheet.{Given, whole_of}
use Rattle.open.specs.Open.{needed}
use Rattle.open.specs.Find.{with_roots, find_checks}
use Rattle.job.specs.Limits.{most_degree, most_width}
use Rattle.text.specs.Limits.{text_room}
use Rattle.text.specs.Text.{refused_text}
use Rattle.text.specs.declared.Profile.TheVariants.{Factors}
use Rattle.listing.specs.Listing.{TextOf, room_verdict}
use Rattle.formula.specs.Formula.{Reading}
use Rattle.formula.specs.Grammar.{Derives}
use Rattle.read.specs.Read.{read_degree, read_words, read_checks}
use Rattle.typed.specs.Limits.{rows_lent}
use Rattle.typed.specs.Order.{Order, asks, none, Orders}

abbrev pub typed_given : (p N : ℕ) → Reading → Given
typed_given p N r = whole_of p (read_degree p N r) N (read_words p N r) []

abbrev pub order_checks : (p N : ℕ) → List Check
order_checks p N = modulus_checks p ++ (check 4 (outside 1 most_width N) 0 ∷ [])

abbrev pub given_checks : Given → List Check
given_checks g = check 3 (outside 1 most_degree g.D) 0 ∷ find_checks g (needed (with_roots g))

abbrev pub key_checks : (p N size : ℕ) → Reading → List Check
key_checks p N size r = order_checks p N ++ (read_checks p N size r rows_lent ++ given_checks (typed_given p N r))

unfoldable pub key_verdict : (p N size : ℕ) → Reading → Verdict
key_verdict p N size r = judge (key_checks p N size r)

pub record TypedKey (p N : ℕ) (typed text : List ℕ) : Type 0 where
  pub reading : Reading
  pub derived : Derives typed reading
  pub is : TextOf Factors (key_verdict p N (length typed) reading) (with_roots (typed_given p N reading)) text

abbrev pub KeyOf : Order → List ℕ → Type 0
KeyOf (asks p N typed) text = TypedKey p N typed text
KeyOf none text = text ≡ refused_text 17 0

pub record IsKey (input text : List ℕ) : Type 0 where
  pub order : Order
  pub ordered : Orders input order
  pub is : KeyOf order text

pub record Keyed (input old : List ℕ) (answer : Outcome ℕ) (new : List ℕ) : Type 0 where
  pub text : List ℕ
  pub is : IsKey input text
  pub short : length text ≤ text_room
  pub answers : answer ≡ outcome_after (room_verdict text old) (length text)
  pub leaves : new ≡ written (room_verdict text old) (over text old) old
