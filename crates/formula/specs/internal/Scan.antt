-- Reading by one pass over the bytes: how the program decides what the grammar derives. A text scans to a formula exactly when the grammar derives it
-- (`scan-derives`, `one-reading`).
--   kind_of b          what a byte is
--   kind_at s at       what stands at a place of a text; past its end, nothing that is read
--   by_kind k ..       one thing for each kind
--   is_blank k         it is a blank
--   on_digit k d e     d of the digit, or e
--   TermSoFar, SumSoFar, Stack    what stands to the left within a term, within a sum, and outside of each open bracket
--   close_term, close_sum           the term and the sum with one part more
--   State             where a pass stands
--   closed s κ        the state after a bracket that closes around s
--   operand_step, done_step, after_step   the next state where an element must come, where a term may end, and after an element
--   step st k         the next state
--   ended s κ         the formula s, if no bracket is open
--   finish st         the formula, if the text may end here
--   scan st s         the formula of the bytes from a state on
--   sum_done s κ       the state in which the sum s has ended
-- Assumes nothing.
use Rattle.std.specs.Prelude.{Bool, true, false, List, [], ◌∷◌, ℕ, suc, ◌+◌, ◌-◌, ◌*◌, ltb, leb, eqb, length, get_or}
use Rattle.numbers.specs.Words.{choose}
use Rattle.formula.specs.Formula.{Sign, plus, minus, Lead, none, sign, Element, number, letter_x, letter_y, bracket, Power, plain, raised, Term, one, times, Sum, first, more, Reading, reads, unreadable}
use Rattle.formula.specs.declared.Kind.{Kind}
use Rattle.formula.specs.declared.Kind.TheVariants.{Blank, Digit, LetterX, LetterY, Plus, Minus, Star, Caret, Open, Close, Other}

unfoldable pub kind_of : ℕ → Kind
kind_of b =
    choose (eqb b 32) Blank (
    choose (eqb b 88) LetterX (
    choose (eqb b 89) LetterY (
    choose (eqb b 43) Plus (
    choose (eqb b 45) Minus (
    choose (eqb b 42) Star (
    choose (eqb b 94) Caret (
    choose (eqb b 40) Open (
    choose (eqb b 41) Close (
    choose (ltb b 48) Other (
    choose (ltb 57 b) Other (Digit (b - 48))))))))))))

-- what stands at a place of a text; past its end, nothing that is read
unfoldable pub kind_at : List ℕ → ℕ → Kind
kind_at s at = choose (ltb at (length s)) (kind_of (get_or s at 0)) Other

pub data TermSoFar : Type 0 where
  fresh : TermSoFar
  up_to : Term → TermSoFar

pub data SumSoFar : Type 0 where
  led : Lead → SumSoFar
  joined : Sum → Sign → SumSoFar

pub data Stack : Type 0 where
  bottom : Stack
  within : TermSoFar → SumSoFar → Stack → Stack

abbrev pub close_term : TermSoFar → Power → Term
close_term fresh q = one q
close_term (up_to t) q = times t q

abbrev pub close_sum : SumSoFar → Term → Sum
close_sum (led l) t = first l t
close_sum (joined s σ) t = more s σ t

pub data State : Type 0 where
  -- a sum begins
  lead : Stack → State
  -- an element must come
  operand : TermSoFar → SumSoFar → Stack → State
  -- within a number of so many digits and this value
  in_number : (digits value : ℕ) → TermSoFar → SumSoFar → Stack → State
  -- an element has ended
  after : Element → TermSoFar → SumSoFar → Stack → State
  -- a power must come
  caret : Element → TermSoFar → SumSoFar → Stack → State
  in_power : (digits value : ℕ) → Element → TermSoFar → SumSoFar → Stack → State
  -- a power has ended
  done : Term → SumSoFar → Stack → State
  dead : State

abbrev pub by_kind : {A : Type 0} → Kind → (blank : A) (digit : ℕ → A) (x y p m s c o l : A) → A → A
by_kind Blank b d x y p m s c o l e = b
by_kind (Digit v) b d x y p m s c o l e = d v
by_kind LetterX b d x y p m s c o l e = x
by_kind LetterY b d x y p m s c o l e = y
by_kind Plus b d x y p m s c o l e = p
by_kind Minus b d x y p m s c o l e = m
by_kind Star b d x y p m s c o l e = s
by_kind Caret b d x y p m s c o l e = c
by_kind Open b d x y p m s c o l e = o
by_kind Close b d x y p m s c o l e = l
by_kind Other b d x y p m s c o l e = e

abbrev pub is_blank : Kind → Bool
is_blank k = by_kind k true (λ d. false) false false false false false false false false false

abbrev pub on_digit : {A : Type 0} → Kind → (ℕ → A) → A → A
on_digit k d e = by_kind k e d e e e e e e e e e

-- a bracket closes around s
abbrev pub closed : Sum → Stack → State
closed s bottom = dead
closed s (within u c κ) = after (bracket s) u c κ

-- an element begins, or a blank comes
abbrev pub operand_step : (u : TermSoFar) (c : SumSoFar) (κ : Stack) (blank plus minus : State) → Kind → State
operand_step u c κ b p m k =
    by_kind k b (λ d. in_number 1 d u c κ) (after letter_x u c κ) (after letter_y u c κ) p m dead dead (lead (within u c κ)) dead dead

-- what follows the term t so far
abbrev pub done_step : (t : Term) (c : SumSoFar) (κ : Stack) (blank caret : State) → Kind → State
done_step t c κ b h k =
    by_kind k b (λ d. dead) dead dead
    (operand fresh (joined (close_sum c t) plus) κ) (operand fresh (joined (close_sum c t) minus) κ)
    (operand (up_to t) c κ) h dead (closed (close_sum c t) κ) dead

abbrev pub after_step : (e : Element) (u : TermSoFar) (c : SumSoFar) (κ : Stack) → Kind → State
after_step e u c κ k = done_step (close_term u (plain e)) c κ (after e u c κ) (caret e u c κ) k

unfoldable pub step : State → Kind → State
step (lead κ) k = operand_step fresh (led none) κ (lead κ) (operand fresh (led (sign plus)) κ) (operand fresh (led (sign minus)) κ) k
step (operand u c κ) k = operand_step u c κ (operand u c κ) dead dead k
step (in_number j v u c κ) k = on_digit k (λ d. choose (ltb j 9) (in_number (suc j) (v * 10 + d) u c κ) dead) (after_step (number v) u c κ k)
step (after e u c κ) k = after_step e u c κ k
step (caret e u c κ) k = by_kind k (caret e u c κ) (λ d. in_power 1 d e u c κ) dead dead dead dead dead dead dead dead dead
step (in_power j v e u c κ) k =
    on_digit k (λ d. choose (ltb j 9) (in_power (suc j) (v * 10 + d) e u c κ) dead)
    (choose (leb v 255) (done_step (close_term u (raised e v)) c κ (done (close_term u (raised e v)) c κ) dead k) dead)
step (done t c κ) k = done_step t c κ (done t c κ) dead k
step dead k = dead

abbrev pub ended : Sum → Stack → Reading
ended s bottom = reads s
ended s (within u c κ) = unreadable

unfoldable pub finish : State → Reading
finish (lead κ) = unreadable
finish (operand u c κ) = unreadable
finish (in_number j v u c κ) = ended (close_sum c (close_term u (plain (number v)))) κ
finish (after e u c κ) = ended (close_sum c (close_term u (plain e))) κ
finish (caret e u c κ) = unreadable
finish (in_power j v e u c κ) = choose (leb v 255) (ended (close_sum c (close_term u (raised e v))) κ) unreadable
finish (done t c κ) = ended (close_sum c t) κ
finish dead = unreadable

unfoldable pub scan : State → List ℕ → Reading
scan st [] = finish st
scan st (b ∷ s) = scan (step st (kind_of b)) s

-- the sum has ended
abbrev pub sum_done : Sum → Stack → State
sum_done (first l t) κ = done t (led l) κ
sum_done (more s σ t) κ = done t (joined s σ) κ
