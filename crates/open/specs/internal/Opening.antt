-- What the functions that make open's checks answer. No public contract cites these.
--   PowersAnswer g   what was found are the powers of refusal 9
--   is_unit s         the words of s are 1, 0, 0, ..
--   given l, whole l  what is given by what is lent; and as if all rows were known
--   unlisted_whole l  the same without the roots
-- Assumes nothing.
use Rattle.std.specs.Prelude.{ℕ, ◌≡◌, Bool, true, false, List, [], length, eqb}
use Rattle.std.proofs.Math.Option.{none, some}
use Rattle.sheet.specs.Sheet.{Given, given_of, whole_of}
use Rattle.open.specs.declared.opening.Lent.{Lent}
use Rattle.open.specs.Open.{powers_of}
use Rattle.numbers.specs.Words.{word, all_to}
use Rattle.rows.specs.Rows.{unit}

-- the words are 1, 0, 0, ..; they rise
abbrev pub is_unit : List ℕ → Bool
is_unit s = all_to (length s) (λ t. eqb (word s t) (unit t))

-- what is given by what is lent; and as if all rows were known
abbrev pub given : Lent → Given
given l = given_of l.p l.d l.n l.rows.now l.lengths.now l.roots.now

abbrev pub whole : Lent → Given
whole l = whole_of l.p l.d l.n l.rows.now l.roots.now

abbrev pub unlisted_whole : Lent → Given
unlisted_whole l = whole_of l.p l.d l.n l.rows.now []

-- what was found are the powers of refusal 9
pub record PowersAnswer (g : Given) (found : Bool) (powers : List ℕ) : Type 0 where
  pub yes : found ≡ true → powers_of g ≡ some powers
  pub no : found ≡ false → powers_of g ≡ none
