-- What writing the text of an input leaves, part by part.
--   given_verdict g   what the degree's check and find's come to
--   rows_given        what the first rows of a list of words give
--   WroteRows        the text of these rows, whose degree is not yet judged
--   WroteTyped       the text of an order
--   WroteKey         the text of an input
-- Assumes nothing.
use Rattle.std.specs.Prelude.{ℕ, ◌+◌, ◌*◌, List, [], take}
use Rattle.numbers.specs.Refusals.{judge, Verdict}
use Rattle.sheet.specs.Sheet.{Given, whole_of}
use Rattle.open.specs.Find.{with_roots}
use Rattle.text.specs.Limits.{text_room}
use Rattle.text.specs.declared.Profile.TheVariants.{Factors}
use Rattle.text.specs.internal.Putting.{Puts}
use Rattle.listing.specs.internal.Writing.{Wrote}
use Rattle.typed.specs.Key.{given_checks, TypedKey, IsKey}

unfoldable pub given_verdict : Given → Verdict
given_verdict g = judge (given_checks g)

abbrev pub rows_given : (p d n : ℕ) → List ℕ → Given
rows_given p d n rows = whole_of p d n (take ((d + 1) * n) rows) []

abbrev pub WroteRows : (p d n : ℕ) (rows old : List ℕ) (answer : ℕ) (new : List ℕ) → Type 0
WroteRows p d n rows = Wrote Factors (given_verdict (rows_given p d n rows)) (with_roots (rows_given p d n rows))

pub record WroteTyped (p n : ℕ) (typed old : List ℕ) (answer : ℕ) (new : List ℕ) : Type 0 where
  pub text : List ℕ
  pub is : TypedKey p n typed text
  pub puts : Puts text_room text 0 old answer new

pub record WroteKey (input old : List ℕ) (answer : ℕ) (new : List ℕ) : Type 0 where
  pub text : List ℕ
  pub is : IsKey input text
  pub puts : Puts text_room text 0 old answer new
