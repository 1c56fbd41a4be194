-- What stands at a place of the text, as the readers look at it. The scan of a text is the measure: a reader may go on where the scan goes on.
--   has_byte s at b       the byte b stands at a place
--   sign_of k             the sign that a kind is, if it is one
--   sign_for σ            the program's sign for σ
--   digit_of k            the digit that a kind is, if it is one
--   is_minus l            a minus stands before a sum
--   Looked s at r        r is the first place, from a place on, where no blank stands
--   Started s at r       what stands before a sum's first term, and where that begins
--   Counts m             m j v is a state within a number, after j digits that stand for v
--   CountedTo, Counted s at d r   the number of which d is the first digit and the others stand from a place on; none where they are too many
--   Raises, Exponent s at r   the number after a caret; none where no power stands there
-- Assumes nothing.
use Rattle.std.specs.Prelude.{◌≡◌, Bool, true, false, Option, Some, None, List, ℕ, suc, ◌+◌, ◌*◌, ◌≤◌, ltb, eqb, length, get_or, drop}
use Rattle.numbers.specs.Words.{choose}
use Rattle.formula.specs.Formula.{Sign, plus, minus, Lead, none, sign, Element, raised, Sum, reads}
use Rattle.formula.specs.internal.Scan.{kind_at, by_kind, TermSoFar, fresh, SumSoFar, led, Stack, close_term, State, lead, operand, caret, done, dead, step, scan}
use Rattle.formula.specs.declared.Kind.{Kind}
use Rattle.formula.specs.declared.Kind.TheVariants.{Blank, Digit}
use Rattle.read.specs.declared.Start.{Start}
use Rattle.read.specs.declared.Sign.{Sign as Mark}
use Rattle.read.specs.declared.Sign.TheVariants.{Plus, Minus}
use Rattle.read.specs.declared.Number.{Number}

unfoldable pub has_byte : List ℕ → ℕ → ℕ → Bool
has_byte s at b = choose (ltb at (length s)) (eqb (get_or s at 0) b) false

abbrev pub sign_of : Kind → Option Mark
sign_of k = by_kind k None (λ d. None) None None (Some Plus) (Some Minus) None None None None None

abbrev pub sign_for : Sign → Mark
sign_for plus = Plus
sign_for minus = Minus

abbrev pub digit_of : Kind → Option ℕ
digit_of k = by_kind k None (λ d. Some d) None None None None None None None None None

abbrev pub is_minus : Lead → Bool
is_minus none = false
is_minus (sign plus) = false
is_minus (sign minus) = true

pub record Looked (s : List ℕ) (at r : ℕ) : Type 0 where
  pub waits : (st : State) → step st Blank ≡ st → scan st (drop at s) ≡ scan st (drop r s)
  pub later : at ≤ r
  pub fits : r ≤ length s
  pub solid : kind_at s r ≡ Blank → ⊥

pub record Started (s : List ℕ) (at : ℕ) (r : Start) : Type 0 where
  pub leads : Lead
  pub negative : r.minus ≡ is_minus leads
  pub passes : (κ : Stack) → scan (lead κ) (drop at s) ≡ scan (operand fresh (led leads) κ) (drop r.at s)
  pub later : at ≤ r.at
  pub fits : r.at ≤ length s

abbrev pub Counts : (ℕ → ℕ → State) → Type 0
Counts m = (j v d : ℕ) → step (m j v) (Digit d) ≡ choose (ltb j 9) (m (suc j) (v * 10 + d)) dead

-- the digits of a number from its second on; d is its first
pub record CountedTo (s : List ℕ) (at d : ℕ) (r : Number) : Type 0 where
  pub count : ℕ
  pub passes : (m : ℕ → ℕ → State) → Counts m → scan (m 1 d) (drop at s) ≡ scan (m count r.value) (drop r.at s)
  pub stops : digit_of (kind_at s r.at) ≡ None
  pub later : at ≤ r.at
  pub fits : r.at ≤ length s

abbrev pub Counted : List ℕ → (at d : ℕ) → Option Number → Type 0
Counted s at d None = (m : ℕ → ℕ → State) → Counts m → (f : Sum) → scan (m 1 d) (drop at s) ≡ reads f → ⊥
Counted s at d (Some r) = CountedTo s at d r

-- the number after a caret
pub record Raises (s : List ℕ) (at : ℕ) (r : Number) : Type 0 where
  pub passes : (e : Element) (u : TermSoFar) (c : SumSoFar) (κ : Stack)
      → scan (caret e u c κ) (drop at s) ≡ scan (done (close_term u (raised e r.value)) c κ) (drop r.at s)
  pub solid : kind_at s r.at ≡ Blank → ⊥
  pub later : at ≤ r.at
  pub fits : r.at ≤ length s

abbrev pub Exponent : List ℕ → (at : ℕ) → Option Number → Type 0
Exponent s at None = (e : Element) (u : TermSoFar) (c : SumSoFar) (κ : Stack) (f : Sum) → scan (caret e u c κ) (drop at s) ≡ reads f → ⊥
Exponent s at (Some r) = Raises s at r
