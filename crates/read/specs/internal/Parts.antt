-- What a reader promises. The scan of the whole text is the measure: read from a place on, a part takes the scan from the state before it to the state after it.
--   Went s at next       a reader has gone past `at`, within the text
--   AllHigh p n st s     whatever formula is read from the state st on is too high
--   Ready n s at w       place and room are such that a reader can start
--   ElementRead, PowerRead, TermRead, SumRead, NumberRead   what was read: its formula, where the scan stands after it, and its value; a sum may start in
--                        any state, Opens l being that after the lead l, and a number from its second digit on
--   then_at next σ       a sign, and the place after it
--   past_star s at, past_sign s at   the place after the star, or the sign and the place after it, that stands at a place; or none
--   ElementPart, PowerPart, TermPart, SumPart, NumberPart   what a reader answers from a place on: the part that stands there, of which nothing is too
--                        high, and no star follows a term, no sign a sum; or none: then whatever formula is read is too high
--   closed_part s r       a sum that a bracket closes
-- Assumes nothing.
use Rattle.std.specs.Prelude.{◌≡◌, true, false, Option, Some, None, option_map, List, ℕ, ◌+◌, ◌*◌, ◌≤◌, ◌<◌, length, drop}
use Rattle.numbers.specs.Limits.{most_rows}
use Rattle.numbers.specs.Words.{choose}
use Rattle.formula.specs.Limits.{longest_text}
use Rattle.formula.specs.Formula.{Lead, Element, number, Power, Term, Sum, reads}
use Rattle.read.specs.Value.{constant, element_value, power_value, term_value, sum_value, element_high, power_high, term_high, sum_high}
use Rattle.formula.specs.internal.Scan.{kind_at, TermSoFar, fresh, SumSoFar, led, Stack, close_term, State, operand, in_number, after, done, sum_done, scan}
use Rattle.formula.specs.declared.Kind.TheVariants.{Blank, Star}
use Rattle.read.specs.declared.Sign.{Sign as Mark}
use Rattle.read.specs.declared.Part.{Part}
use Rattle.read.specs.internal.Places.{has_byte, sign_of}
use Rattle.read.specs.internal.Values.{Stored}

abbrev pub Ready : (n : ℕ) (s : List ℕ) (at : ℕ) (w : List ℕ) → Type 0
Ready n s at w = (at ≤ length s) × (length s ≤ longest_text) × (most_rows * n ≤ length w)

pub record Went (s : List ℕ) (at next : ℕ) : Type 0 where
  pub later : at < next
  pub fits : next ≤ length s

abbrev pub AllHigh : (p n : ℕ) → State → List ℕ → Type 0
AllHigh p n st s = (f : Sum) → scan st s ≡ reads f → sum_high p n f ≡ true

pub record ElementRead (p n : ℕ) (s : List ℕ) (at : ℕ) (r : Part) (w : List ℕ) : Type 0 where
  pub tree : Element
  pub passes : (u : TermSoFar) (c : SumSoFar) (κ : Stack) → scan (operand u c κ) (drop at s) ≡ scan (after tree u c κ) (drop r.at s)
  pub went : Went s at r.at
  pub stored : Stored p n (element_value p tree) w r.rows
  pub low : element_high p n tree ≡ false

pub record PowerRead (p n : ℕ) (s : List ℕ) (at : ℕ) (r : Part) (w : List ℕ) : Type 0 where
  pub tree : Power
  pub passes : (u : TermSoFar) (c : SumSoFar) (κ : Stack) → scan (operand u c κ) (drop at s) ≡ scan (done (close_term u tree) c κ) (drop r.at s)
  pub went : Went s at r.at
  pub solid : kind_at s r.at ≡ Blank → ⊥
  pub stored : Stored p n (power_value p tree) w r.rows
  pub low : power_high p n tree ≡ false

pub record TermRead (p n : ℕ) (s : List ℕ) (at : ℕ) (r : Part) (w : List ℕ) : Type 0 where
  pub tree : Term
  pub passes : (c : SumSoFar) (κ : Stack) → scan (operand fresh c κ) (drop at s) ≡ scan (done tree c κ) (drop r.at s)
  pub went : Went s at r.at
  pub solid : kind_at s r.at ≡ Blank → ⊥
  pub stored : Stored p n (term_value p tree) w r.rows
  pub low : term_high p n tree ≡ false

pub record SumRead (p n : ℕ) (s : List ℕ) (start : Stack → State) (at : ℕ) (r : Part) (w : List ℕ) : Type 0 where
  pub tree : Sum
  pub passes : (κ : Stack) → scan (start κ) (drop at s) ≡ scan (sum_done tree κ) (drop r.at s)
  pub went : Went s at r.at
  pub solid : kind_at s r.at ≡ Blank → ⊥
  pub ends : kind_at s r.at ≡ Star → ⊥
  pub stored : Stored p n (sum_value p tree) w r.rows
  pub low : sum_high p n tree ≡ false

-- from the place after the first digit d of a number on
pub record NumberRead (p n : ℕ) (s : List ℕ) (at d : ℕ) (r : Part) (w : List ℕ) : Type 0 where
  pub value : ℕ
  pub passes : (u : TermSoFar) (c : SumSoFar) (κ : Stack) → scan (in_number 1 d u c κ) (drop at s) ≡ scan (after (number value) u c κ) (drop r.at s)
  pub later : at ≤ r.at
  pub fits : r.at ≤ length s
  pub stored : Stored p n (constant p value) w r.rows

abbrev pub Opens : Lead → Stack → State
Opens l κ = operand fresh (led l) κ

abbrev pub past_star : List ℕ → ℕ → Option ℕ
past_star s at = choose (has_byte s at 42) (Some (at + 1)) None

abbrev pub then_at : ℕ → Mark → Mark × ℕ
then_at next σ = (σ, next + 1)

abbrev pub past_sign : List ℕ → ℕ → Option (Mark × ℕ)
past_sign s at = option_map (then_at at) (sign_of (kind_at s at))

abbrev pub ElementPart : (p n : ℕ) (s : List ℕ) (at : ℕ) → Option Part → List ℕ → Type 0
ElementPart p n s at (Some r) w = ElementRead p n s at r w
ElementPart p n s at None w = (u : TermSoFar) (c : SumSoFar) (κ : Stack) → AllHigh p n (operand u c κ) (drop at s)

abbrev pub PowerPart : (p n : ℕ) (s : List ℕ) (at : ℕ) → Option Part → List ℕ → Type 0
PowerPart p n s at (Some r) w = PowerRead p n s at r w
PowerPart p n s at None w = (u : TermSoFar) (c : SumSoFar) (κ : Stack) → AllHigh p n (operand u c κ) (drop at s)

abbrev pub TermPart : (p n : ℕ) (s : List ℕ) (at : ℕ) → Option Part → List ℕ → Type 0
TermPart p n s at (Some r) w = TermRead p n s at r w × (past_star s r.at ≡ None)
TermPart p n s at None w = (c : SumSoFar) (κ : Stack) → AllHigh p n (operand fresh c κ) (drop at s)

abbrev pub SumPart : (p n : ℕ) (s : List ℕ) → (Stack → State) → (at : ℕ) → Option Part → List ℕ → Type 0
SumPart p n s start at (Some r) w = SumRead p n s start at r w × (past_sign s r.at ≡ None)
SumPart p n s start at None w = (κ : Stack) → AllHigh p n (start κ) (drop at s)

abbrev pub NumberPart : (p n : ℕ) (s : List ℕ) (at d : ℕ) → Option Part → List ℕ → Type 0
NumberPart p n s at d (Some r) w = NumberRead p n s at d r w
NumberPart p n s at d None w = (u : TermSoFar) (c : SumSoFar) (κ : Stack) → AllHigh p n (in_number 1 d u c κ) (drop at s)

abbrev pub closed_part : List ℕ → Part → Option Part
closed_part s r = choose (has_byte s r.at 41) (Some (record { at = r.at + 1; rows = r.rows })) None
