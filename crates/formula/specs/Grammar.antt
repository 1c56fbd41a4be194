-- The grammar: which bytes a formula may be typed as.
--   Blanks s          s is blanks alone, byte 32
--   Digits s          s is decimal digits alone
--   decimal_from v s   the number that the digits of s stand for after those of v
--   Joined, ◌⨾◌       P ⨾ Q: a text of P with a text of Q after it
--   Padded P          a text of P with blanks before and after it
--   Only text         this text
--   Symbol c          the byte c, with blanks before and after it
--   Numeral v         1 to 9 digits for v
--   NumberText v      the same with blanks before and after them
--   SignText, LeadText, PowerOf         the texts of a sign, of what stands before a sum, and of a written power
--   ElementText, PowerText, TermText, SumText    the texts of a formula's parts
--   Derives text r    the grammar derives text as the formula r, or as none
-- Assumes nothing.
use Rattle.std.specs.Prelude.{◌≡◌, List, [], ◌∷◌, ◌++◌, ℕ, ◌+◌, ◌-◌, ◌*◌, ◌≤◌, length}
use Rattle.formula.specs.Limits.{most_digits, largest_power}
use Rattle.formula.specs.Formula.{Sign, plus, minus, Lead, none, sign, Element, number, letter_x, letter_y, bracket, Power, plain, raised, Term, one, times, Sum, first, more, Reading, reads, unreadable}

infixr 50 ◌⨾◌
pub data Blanks : List ℕ → Type 0 where
  no-blank : Blanks []
  blank : {s : List ℕ} → Blanks s → Blanks (32 ∷ s)

pub data Digits : List ℕ → Type 0 where
  no_digit : Digits []
  digit : {b : ℕ} {s : List ℕ} → 48 ≤ b → b ≤ 57 → Digits s → Digits (b ∷ s)

unfoldable pub decimal_from : ℕ → List ℕ → ℕ
decimal_from v [] = v
decimal_from v (b ∷ s) = decimal_from (v * 10 + (b - 48)) s

pub record Joined (P Q : List ℕ → Type 0) (s : List ℕ) : Type 0 where
  pub left : List ℕ
  pub right : List ℕ
  pub before : P left
  pub after : Q right
  pub whole : s ≡ left ++ right

abbrev pub ◌⨾◌ : (P Q : List ℕ → Type 0) → List ℕ → Type 0
(P ⨾ Q) s = Joined P Q s

abbrev pub Padded : (List ℕ → Type 0) → List ℕ → Type 0
Padded P = Blanks ⨾ P ⨾ Blanks

abbrev pub Only : List ℕ → List ℕ → Type 0
Only text s = s ≡ text

abbrev pub Symbol : ℕ → List ℕ → Type 0
Symbol c = Padded (Only (c ∷ []))

pub record Numeral (v : ℕ) (s : List ℕ) : Type 0 where
  pub digits : Digits s
  pub some : 1 ≤ length s
  pub few : length s ≤ most_digits
  pub value : v ≡ decimal_from 0 s

abbrev pub NumberText : ℕ → List ℕ → Type 0
NumberText v = Padded (Numeral v)

-- `+` and `-`
abbrev pub SignText : Sign → List ℕ → Type 0
SignText plus = Symbol 43
SignText minus = Symbol 45

abbrev pub LeadText : Lead → List ℕ → Type 0
LeadText none = Only []
LeadText (sign σ) = SignText σ

pub record PowerOf (n : ℕ) (s : List ℕ) : Type 0 where
  pub small : n ≤ largest_power
  pub text : NumberText n s

-- `X` is 88, `Y` 89, `(` 40, `)` 41, `^` 94 and `*` 42
unfoldable mutual
  pub ElementText : Element → List ℕ → Type 0
  ElementText (number v) = NumberText v
  ElementText letter_x = Symbol 88
  ElementText letter_y = Symbol 89
  ElementText (bracket s) = Symbol 40 ⨾ SumText s ⨾ Symbol 41

  pub PowerText : Power → List ℕ → Type 0
  PowerText (plain e) = ElementText e
  PowerText (raised e n) = ElementText e ⨾ Symbol 94 ⨾ PowerOf n

  pub TermText : Term → List ℕ → Type 0
  TermText (one q) = PowerText q
  TermText (times t q) = TermText t ⨾ Symbol 42 ⨾ PowerText q

  pub SumText : Sum → List ℕ → Type 0
  SumText (first l t) = LeadText l ⨾ TermText t
  SumText (more s σ t) = SumText s ⨾ SignText σ ⨾ TermText t

abbrev pub Derives : List ℕ → Reading → Type 0
Derives text (reads s) = SumText s text
Derives text unreadable = (s : Sum) → SumText s text → ⊥
