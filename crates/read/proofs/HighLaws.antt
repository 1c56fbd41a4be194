-- What is too high stays too high: where some part that a scan has passed is too high, so is the formula that it reads.
-- Assumes nothing.
use mathlib.Core.Path.{◌≡◌, refl, subst}
use mathlib.Core.Bool.{Bool, true, false, ◌||◌}
use mathlib.Core.List.{List, [], ◌∷◌}
use mathlib.Core.Logic.{⊎_elim, ◌⊎◌, inl, inr}
use Prim.Native.Nat.{ℕ, suc, ◌+◌, ◌*◌}
use native.Mathlib.Omega.{arith}
use lib.Dec.{ltb, leb}
use Rattle.numbers.specs.Words.{choose}
use Rattle.formula.specs.Formula.{plus, minus, Lead, none, sign, Element, number, letter_x, letter_y, Power, plain, raised, Term, Sum, reads, unreadable}
use Rattle.read.specs.Value.{element_high, power_high, term_high, sum_high}
use Rattle.formula.specs.internal.Scan.{kind_of, TermSoFar, fresh, up_to, SumSoFar, led, joined, Stack, bottom, within, close_term, close_sum, State, lead, operand, in_number, after, caret, in_power, done, dead, by_kind, on_digit, closed, operand_step, done_step, ended, step, finish, scan}
use Rattle.read.specs.internal.Parts.{AllHigh}
use Rattle.formula.specs.declared.Kind.{Kind}
use Rattle.formula.specs.declared.Kind.TheVariants.{Blank, Digit, LetterX, LetterY, Plus, Minus, Star, Caret, Open, Close, Other}

pub or_left : (a b : Bool) → a ≡ true → a || b ≡ true
or_left a b e = rw e

pub or_right : (a b : Bool) → b ≡ true → a || b ≡ true
or_right true b e = refl
or_right false b e = e

module _ (p n : ℕ) where
  abbrev TermHeld : TermSoFar → Type 0
  TermHeld fresh = ⊥
  TermHeld (up_to t) = term_high p n t ≡ true

  abbrev SumHeld : SumSoFar → Type 0
  SumHeld (led l) = ⊥
  SumHeld (joined f σ) = sum_high p n f ≡ true

  abbrev StackHeld : Stack → Type 0
  StackHeld bottom = ⊥
  StackHeld (within u c κ) = StackHeld κ ⊎ (SumHeld c ⊎ TermHeld u)

  abbrev HighIn : State → Type 0
  HighIn (lead κ) = StackHeld κ
  HighIn (operand u c κ) = StackHeld κ ⊎ (SumHeld c ⊎ TermHeld u)
  HighIn (in_number j v u c κ) = StackHeld κ ⊎ (SumHeld c ⊎ TermHeld u)
  HighIn (after e u c κ) = StackHeld κ ⊎ (SumHeld c ⊎ (TermHeld u ⊎ (element_high p n e ≡ true)))
  HighIn (caret e u c κ) = StackHeld κ ⊎ (SumHeld c ⊎ (TermHeld u ⊎ (element_high p n e ≡ true)))
  HighIn (in_power j v e u c κ) = StackHeld κ ⊎ (SumHeld c ⊎ (TermHeld u ⊎ (element_high p n e ≡ true)))
  HighIn (done t c κ) = StackHeld κ ⊎ (SumHeld c ⊎ (term_high p n t ≡ true))
  HighIn dead = Unit {0}

  close-term-high : (u : TermSoFar) (q : Power) → TermHeld u ⊎ (power_high p n q ≡ true) → term_high p n (close_term u q) ≡ true
  unfolding term_high
  close-term-high fresh q h = ⊎_elim (λ (x : ⊥). absurd x) (λ (e : power_high p n q ≡ true). e) h
  close-term-high (up_to t) q h =
      ⊎_elim
      (λ (e : term_high p n t ≡ true). or_left (term_high p n t || power_high p n q) _ (or_left (term_high p n t) (power_high p n q) e))
      (λ (e : power_high p n q ≡ true). or_left (term_high p n t || power_high p n q) _ (or_right (term_high p n t) (power_high p n q) e)) h

  close-sum-high : (c : SumSoFar) (t : Term) → SumHeld c ⊎ (term_high p n t ≡ true) → sum_high p n (close_sum c t) ≡ true
  unfolding sum_high
  close-sum-high (led l) t h = ⊎_elim (λ (x : ⊥). absurd x) (λ (e : term_high p n t ≡ true). or_left (term_high p n t) _ e) h
  close-sum-high (joined f σ) t h =
      ⊎_elim
      (λ (e : sum_high p n f ≡ true). or_left (sum_high p n f || term_high p n t) _ (or_left (sum_high p n f) (term_high p n t) e))
      (λ (e : term_high p n t ≡ true). or_left (sum_high p n f || term_high p n t) _ (or_right (sum_high p n f) (term_high p n t) e)) h

  -- an element has ended as a power, and a written power has ended
  after-high : (e : Element) (u : TermSoFar) (c : SumSoFar) (κ : Stack) → HighIn (after e u c κ) → HighIn (done (close_term u (plain e)) c κ)
  unfolding power_high
  after-high e u c κ h = ⊎_elim (λ x. inl x) (λ y. inr (⊎_elim (λ x. inl x) (λ z. inr (close-term-high u (plain e) z)) y)) h

  power-high : (v : ℕ) (e : Element) (u : TermSoFar) (c : SumSoFar) (κ : Stack) → HighIn (after e u c κ) → HighIn (done (close_term u (raised e v)) c κ)
  unfolding power_high
  power-high v e u c κ h =
      ⊎_elim (λ x. inl x) (λ y. inr (⊎_elim (λ x. inl x)
      (λ z. inr (close-term-high u (raised e v) (⊎_elim (λ w. inl w) (λ w. inr (or_left (element_high p n e) _ w)) z))) y)) h

  closed-high : (t : Term) (c : SumSoFar) (κ : Stack) → HighIn (done t c κ) → HighIn (closed (close_sum c t) κ)
  unfolding element_high
  closed-high t c bottom h = tt
  closed-high t c (within u d κ) h =
      ⊎_elim
      (λ (x : StackHeld (within u d κ)). ⊎_elim (λ w. inl w) (λ y. ⊎_elim (λ w. inr (inl w)) (λ z. inr (inr (inl z))) y) x)
      (λ y. inr (inr (inr (close-sum-high c t y)))) h

  done-step-high : (k : Kind) (t : Term) (c : SumSoFar) (κ : Stack) (st q : State) → HighIn (done t c κ) → HighIn st → HighIn q → HighIn (done_step t c κ st q k)
  done-step-high Blank t c κ st q h a b = a
  done-step-high (Digit d) t c κ st q h a b = tt
  done-step-high LetterX t c κ st q h a b = tt
  done-step-high LetterY t c κ st q h a b = tt
  done-step-high Plus t c κ st q h a b = ⊎_elim (λ x. inl x) (λ y. inr (inl (close-sum-high c t y))) h
  done-step-high Minus t c κ st q h a b = ⊎_elim (λ x. inl x) (λ y. inr (inl (close-sum-high c t y))) h
  done-step-high Star t c κ st q h a b = h
  done-step-high Caret t c κ st q h a b = b
  done-step-high Open t c κ st q h a b = tt
  done-step-high Close t c κ st q h a b = closed-high t c κ h
  done-step-high Other t c κ st q h a b = tt

  begins-high : (u : TermSoFar) (c : SumSoFar) (κ : Stack) (e : Element) → HighIn (operand u c κ) → HighIn (after e u c κ)
  begins-high u c κ e h = ⊎_elim (λ x. inl x) (λ y. inr (⊎_elim (λ x. inl x) (λ z. inr (inl z)) y)) h

  operand-step-high : (k : Kind) (u : TermSoFar) (c : SumSoFar) (κ : Stack) (st a b : State) → HighIn (operand u c κ) → HighIn st → HighIn a → HighIn b
      → HighIn (operand_step u c κ st a b k)
  operand-step-high Blank u c κ st a b h x y z = x
  operand-step-high (Digit d) u c κ st a b h x y z = h
  operand-step-high LetterX u c κ st a b h x y z = begins-high u c κ letter_x h
  operand-step-high LetterY u c κ st a b h x y z = begins-high u c κ letter_y h
  operand-step-high Plus u c κ st a b h x y z = y
  operand-step-high Minus u c κ st a b h x y z = z
  operand-step-high Star u c κ st a b h x y z = tt
  operand-step-high Caret u c κ st a b h x y z = tt
  operand-step-high Open u c κ st a b h x y z = h
  operand-step-high Close u c κ st a b h x y z = tt
  operand-step-high Other u c κ st a b h x y z = tt

  digit-high : (k : Kind) (f : ℕ → State) (st : State) → ((d : ℕ) → HighIn (f d)) → HighIn st → HighIn (on_digit k f st)
  digit-high Blank f st h x = x
  digit-high (Digit d) f st h x = h d
  digit-high LetterX f st h x = x
  digit-high LetterY f st h x = x
  digit-high Plus f st h x = x
  digit-high Minus f st h x = x
  digit-high Star f st h x = x
  digit-high Caret f st h x = x
  digit-high Open f st h x = x
  digit-high Close f st h x = x
  digit-high Other f st h x = x

  caret-high : (k : Kind) (st : State) (f : ℕ → State) → HighIn st → ((d : ℕ) → HighIn (f d)) → HighIn (by_kind k st f dead dead dead dead dead dead dead dead dead)
  caret-high Blank st f x h = x
  caret-high (Digit d) st f x h = h d
  caret-high LetterX st f x h = tt
  caret-high LetterY st f x h = tt
  caret-high Plus st f x h = tt
  caret-high Minus st f x h = tt
  caret-high Star st f x h = tt
  caret-high Caret st f x h = tt
  caret-high Open st f x h = tt
  caret-high Close st f x h = tt
  caret-high Other st f x h = tt

  guard-high : (t : Bool) (st : State) → HighIn st → HighIn (choose t st dead)
  guard-high true st h = h
  guard-high false st h = tt

  led-high : (κ : Stack) (l : Lead) → StackHeld κ → HighIn (operand fresh (led l) κ)
  led-high κ l h = inl h

  step-high : (st : State) (k : Kind) → HighIn st → HighIn (step st k)
  unfolding step
  step-high (lead κ) k h =
      operand-step-high k fresh (led none) κ (lead κ) (operand fresh (led (sign plus)) κ) (operand fresh (led (sign minus)) κ) (led-high κ none h) h (led-high κ (sign plus) h) (led-high κ (sign minus) h)
  step-high (operand u c κ) k h = operand-step-high k u c κ (operand u c κ) dead dead h h tt tt
  step-high (in_number j v u c κ) k h =
      let a = begins-high u c κ (number v) h in
      digit-high k (λ d. choose (ltb j 9) (in_number (suc j) (v * 10 + d) u c κ) dead) (step (after (number v) u c κ) k)
      (λ d. guard-high (ltb j 9) (in_number (suc j) (v * 10 + d) u c κ) h)
      (done-step-high k (close_term u (plain (number v))) c κ (after (number v) u c κ) (caret (number v) u c κ) (after-high (number v) u c κ a) a a)
  step-high (after e u c κ) k h = done-step-high k (close_term u (plain e)) c κ (after e u c κ) (caret e u c κ) (after-high e u c κ h) h h
  step-high (caret e u c κ) k h = caret-high k (caret e u c κ) (λ d. in_power 1 d e u c κ) h (λ d. h)
  step-high (in_power j v e u c κ) k h =
      let t = close_term u (raised e v) in
      let a = power-high v e u c κ h in
      digit-high k (λ d. choose (ltb j 9) (in_power (suc j) (v * 10 + d) e u c κ) dead) (choose (leb v 255) (done_step t c κ (done t c κ) dead k) dead)
      (λ d. guard-high (ltb j 9) (in_power (suc j) (v * 10 + d) e u c κ) h)
      (guard-high (leb v 255) (done_step t c κ (done t c κ) dead k) (done-step-high k t c κ (done t c κ) dead a a tt))
  step-high (done t c κ) k h = done-step-high k t c κ (done t c κ) dead h h tt
  step-high dead k h = tt

  never : {A : Type 0} (f : Sum) → unreadable ≡ reads f → A
  never f e = absurd (let z : ◌≡◌ {A = ℕ} 0 1 = cc in omega arith)

  ended-high : (t : Term) (c : SumSoFar) (κ : Stack) (f : Sum) → HighIn (done t c κ) → ended (close_sum c t) κ ≡ reads f → sum_high p n f ≡ true
  ended-high t c bottom f h e =
      let q : close_sum c t ≡ f = cc in
      subst (λ (g : Sum). sum_high p n g ≡ true) q (⊎_elim (λ (x : ⊥). absurd x) (λ y. close-sum-high c t y) h)
  ended-high t c (within u d κ) f h e = never f e

  finish-high : (st : State) (f : Sum) → HighIn st → finish st ≡ reads f → sum_high p n f ≡ true
  unfolding finish
  finish-high (lead κ) f h e = never f e
  finish-high (operand u c κ) f h e = never f e
  finish-high (in_number j v u c κ) f h e = ended-high (close_term u (plain (number v))) c κ f (after-high (number v) u c κ (begins-high u c κ (number v) h)) e
  finish-high (after g u c κ) f h e = ended-high (close_term u (plain g)) c κ f (after-high g u c κ h) e
  finish-high (caret g u c κ) f h e = never f e
  finish-high (in_power j v g u c κ) f h e = go (leb v 255) e
    where
      go : (b : Bool) → choose b (ended (close_sum c (close_term u (raised g v))) κ) unreadable ≡ reads f → sum_high p n f ≡ true
      go true e = ended-high (close_term u (raised g v)) c κ f (power-high v g u c κ h) e
      go false e = never f e
  finish-high (done t c κ) f h e = ended-high t c κ f h e
  finish-high dead f h e = never f e

  scan-high : (s : List ℕ) (st : State) → HighIn st → AllHigh p n st s
  unfolding scan
  scan-high [] st h f e = finish-high st f h e
  scan-high (b ∷ s) st h f e = scan-high s (step st (kind_of b)) (step-high st (kind_of b) h) f e

  -- where a term or an element so far is too high
  pub done-high : (t : Term) (c : SumSoFar) (κ : Stack) (s : List ℕ) → term_high p n t ≡ true → AllHigh p n (done t c κ) s
  done-high t c κ s e = scan-high s (done t c κ) (inr (inr e))

  pub power-high-term : (u : TermSoFar) (q : Power) → power_high p n q ≡ true → term_high p n (close_term u q) ≡ true
  power-high-term u q e = close-term-high u q (inr e)
