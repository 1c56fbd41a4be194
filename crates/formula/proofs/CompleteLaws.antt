-- What the grammar derives, a scan reads: from a state in which an element, a power, a term or a sum may begin, the scan goes over the
-- text of one and is in the state in which it has ended. So a text has one reading.
-- Assumes nothing.
use mathlib.Core.Path.{◌≡◌, refl, sym, ap, ◌∙◌, subst}
use mathlib.Core.List.{List, [], ◌∷◌, ◌++◌, append_assoc, append-nil}
use mathlib.Core.Bool.{true}
use Prim.Native.Nat.{ℕ, suc, ◌+◌, ◌-◌, ◌*◌, ◌≤◌, ◌<◌}
use native.Mathlib.Omega.{arith}
use borrow.Author.Tests.{lt-ltb, le-ltb, le-leb, ne_eqb}
use lib.Dec.{leb}
use lib.ListN.{length}
use Rattle.formula.specs.Formula.{Sign, plus, minus, Lead, none, sign, Element, number, letter_x, letter_y, bracket, Power, plain, raised, Term, one, times, Sum, first, more, Reading, reads, unreadable}
use Rattle.formula.specs.Grammar.{Blanks, no-blank, blank, Digits, no_digit, digit, decimal_from, Symbol, NumberText, SignText, LeadText, PowerOf, ElementText, PowerText, TermText, SumText, Derives}
use Rattle.formula.specs.internal.Scan.{kind_of, TermSoFar, fresh, up_to, SumSoFar, led, joined, Stack, bottom, within, close_term, State, lead, operand, in_number, after, caret, in_power, done, step, finish, scan}
use Rattle.formula.specs.internal.Scan.{sum_done}
use Rattle.formula.specs.declared.Kind.{Kind}
use Rattle.formula.specs.declared.Kind.TheVariants.{Blank, Digit, LetterX, LetterY, Open, Close}

pub kind-digit : (b : ℕ) → 48 ≤ b → b ≤ 57 → kind_of b ≡ Digit (b - 48)
unfolding kind_of
kind-digit b lo hi =
    let n1 : (b ≡ 32 → ⊥) = omega arith in
    let n2 : (b ≡ 88 → ⊥) = omega arith in
    let n3 : (b ≡ 89 → ⊥) = omega arith in
    let n4 : (b ≡ 43 → ⊥) = omega arith in
    let n5 : (b ≡ 45 → ⊥) = omega arith in
    let n6 : (b ≡ 42 → ⊥) = omega arith in
    let n7 : (b ≡ 94 → ⊥) = omega arith in
    let n8 : (b ≡ 40 → ⊥) = omega arith in
    let n9 : (b ≡ 41 → ⊥) = omega arith in
    simp (ne_eqb b 32 n1, ne_eqb b 88 n2, ne_eqb b 89 n3, ne_eqb b 43 n4, ne_eqb b 45 n5, ne_eqb b 42 n6, ne_eqb b 94 n7, ne_eqb b 40 n8, ne_eqb b 41 n9, le-ltb b 48 lo, le-ltb 57 b hi)

-- blanks leave a state that a blank leaves
pub scan-blanks : (st : State) → step st Blank ≡ st → {a : List ℕ} → Blanks a → (r : List ℕ) → scan st (a ++ r) ≡ scan st r
unfolding scan kind_of
scan-blanks st e no-blank r = refl
scan-blanks st e (blank {s = a} b) r = ap (λ (x : State). scan x (a ++ r)) e ∙ scan-blanks st e b r

-- a byte with blanks around it, taken apart
pub record Spread (c : ℕ) (s : List ℕ) : Type 0 where
  pub front : List ℕ
  pub back : List ℕ
  pub before : Blanks front
  pub behind : Blanks back
  pub whole : s ≡ front ++ (c ∷ back)

pub spread : (c : ℕ) (s : List ℕ) → Symbol c s → Spread c s
spread c s y = record {
  front = y.left;
  back = y.after.right;
  before = y.before;
  behind = y.after.after;
  whole = y.whole ∙ ap (λ (w : List ℕ). y.left ++ w) (y.after.whole ∙ ap (λ (w : List ℕ). w ++ y.after.right) y.after.before);
}

scan-symbol : (c : ℕ) {s : List ℕ} (st st' : State) → step st Blank ≡ st → step st (kind_of c) ≡ st' → step st' Blank ≡ st'
    → Symbol c s → (r : List ℕ) → scan st (s ++ r) ≡ scan st' r
unfolding scan
scan-symbol c {s} st st' e f g y r =
    let w = spread c s y in
    ap (λ (x : List ℕ). scan st (x ++ r)) w.whole
    ∙ ap (λ (x : List ℕ). scan st x) (append_assoc w.front (c ∷ w.back) r)
    ∙ scan-blanks st e w.before (c ∷ (w.back ++ r))
    ∙ ap (λ (x : State). scan x (w.back ++ r)) f
    ∙ scan-blanks st' g w.behind r

-- no digit comes next: a number or a written power has ended
record Stops (r : List ℕ) : Type 0 where
  number-stops : (j v : ℕ) (u : TermSoFar) (c : SumSoFar) (κ : Stack) → scan (in_number j v u c κ) r ≡ scan (after (number v) u c κ) r
  power-stops : (j v : ℕ) (e : Element) (u : TermSoFar) (c : SumSoFar) (κ : Stack) → leb v 255 ≡ true
      → scan (in_power j v e u c κ) r ≡ scan (done (close_term u (raised e v)) c κ) r

-- nor a power: an element is a power
record Ends (r : List ℕ) : Type 0 where
  stops : Stops r
  ends : (e : Element) (u : TermSoFar) (c : SumSoFar) (κ : Stack) → scan (after e u c κ) r ≡ scan (done (close_term u (plain e)) c κ) r

ends-nil : Ends []
unfolding scan finish
ends-nil = record {
  stops = record { number-stops = λ j v u c κ. refl; power-stops = λ j v e u c κ h. rw h };
  ends = λ e u c κ. refl;
}

power-blank : (j v : ℕ) (e : Element) (u : TermSoFar) (c : SumSoFar) (κ : Stack) → leb v 255 ≡ true
    → step (in_power j v e u c κ) Blank ≡ done (close_term u (raised e v)) c κ
unfolding step
power-blank j v e u c κ h = rw h

module _ (x : ℕ)
    (number_same : (j v : ℕ) (u : TermSoFar) (c : SumSoFar) (κ : Stack) → step (in_number j v u c κ) (kind_of x) ≡ step (after (number v) u c κ) (kind_of x))
    (power-same : (j v : ℕ) (e : Element) (u : TermSoFar) (c : SumSoFar) (κ : Stack) → leb v 255 ≡ true
    → step (in_power j v e u c κ) (kind_of x) ≡ step (done (close_term u (raised e v)) c κ) (kind_of x)) where
  stops_at : {a : List ℕ} → Blanks a → (w : List ℕ) → Stops (a ++ (x ∷ w))
  unfolding scan step kind_of
  stops_at no-blank w = record {
    number-stops = λ j v u c κ. ap (λ (st : State). scan st w) (number_same j v u c κ);
    power-stops = λ j v e u c κ h. ap (λ (st : State). scan st w) (power-same j v e u c κ h);
  }
  stops_at (blank {s = a} b) w = record {
    number-stops = λ j v u c κ. refl;
    power-stops = λ j v e u c κ h. ap (λ (st : State). scan st (a ++ (x ∷ w))) (power-blank j v e u c κ h);
  }

module _ (x : ℕ) (same : (e : Element) (u : TermSoFar) (c : SumSoFar) (κ : Stack) → step (after e u c κ) (kind_of x) ≡ step (done (close_term u (plain e)) c κ) (kind_of x)) where
  ends_at : {a : List ℕ} → Blanks a → (w : List ℕ) (e : Element) (u : TermSoFar) (c : SumSoFar) (κ : Stack)
      → scan (after e u c κ) (a ++ (x ∷ w)) ≡ scan (done (close_term u (plain e)) c κ) (a ++ (x ∷ w))
  unfolding scan step kind_of
  ends_at no-blank w e u c κ = ap (λ (st : State). scan st w) (same e u c κ)
  ends_at (blank b) w e u c κ = ends_at b w e u c κ

-- before `^` no digit comes; before `*`, `+`, `-` and `)` no power either
reached : (x : ℕ) {s : List ℕ} (P : List ℕ → Type 0) (r : List ℕ) → (y : Spread x s) → P (y.front ++ (x ∷ (y.back ++ r))) → P (s ++ r)
reached x {s} P r y h = subst P (sym (ap (λ (z : List ℕ). z ++ r) y.whole ∙ append_assoc y.front (x ∷ y.back) r)) h

stops-caret : {s : List ℕ} → Symbol 94 s → (r : List ℕ) → Stops (s ++ r)
unfolding step kind_of
stops-caret {s} y r =
    let w = spread 94 s y in
    reached 94 Stops r w (stops_at 94 (λ j v u c κ. refl) (λ j v e u c κ h. rw h) w.before (w.back ++ r))

ends-star : {s : List ℕ} → Symbol 42 s → (r : List ℕ) → Ends (s ++ r)
unfolding step kind_of
ends-star {s} y r =
    let w = spread 42 s y in
    reached 42 Ends r w (record {
      stops = stops_at 42 (λ j v u c κ. refl) (λ j v e u c κ h. rw h) w.before (w.back ++ r);
      ends = ends_at 42 (λ e u c κ. refl) w.before (w.back ++ r);
    })

ends_close : {s : List ℕ} → Symbol 41 s → (r : List ℕ) → Ends (s ++ r)
unfolding step kind_of
ends_close {s} y r =
    let w = spread 41 s y in
    reached 41 Ends r w (record {
      stops = stops_at 41 (λ j v u c κ. refl) (λ j v e u c κ h. rw h) w.before (w.back ++ r);
      ends = ends_at 41 (λ e u c κ. refl) w.before (w.back ++ r);
    })

ends-sign : (σ : Sign) (s : List ℕ) → SignText σ s → (r : List ℕ) → Ends (s ++ r)
unfolding step kind_of
ends-sign plus s y r =
    let w = spread 43 s y in
    reached 43 Ends r w (record {
      stops = stops_at 43 (λ j v u c κ. refl) (λ j v e u c κ h. rw h) w.before (w.back ++ r);
      ends = ends_at 43 (λ e u c κ. refl) w.before (w.back ++ r);
    })
ends-sign minus s y r =
    let w = spread 45 s y in
    reached 45 Ends r w (record {
      stops = stops_at 45 (λ j v u c κ. refl) (λ j v e u c κ h. rw h) w.before (w.back ++ r);
      ends = ends_at 45 (λ e u c κ. refl) w.before (w.back ++ r);
    })

-- a state in which an element may begin
record Opens (st : State) (u : TermSoFar) (c : SumSoFar) (κ : Stack) : Type 0 where
  waits : step st Blank ≡ st
  opens-number : (d : ℕ) → step st (Digit d) ≡ in_number 1 d u c κ
  opens-x : step st LetterX ≡ after letter_x u c κ
  opens-y : step st LetterY ≡ after letter_y u c κ
  opens-bracket : step st Open ≡ lead (within u c κ)

operand-opens : (u : TermSoFar) (c : SumSoFar) (κ : Stack) → Opens (operand u c κ) u c κ
unfolding step
operand-opens u c κ = record { waits = refl; opens-number = λ d. refl; opens-x = refl; opens-y = refl; opens-bracket = refl }

lead-opens : (κ : Stack) → Opens (lead κ) fresh (led none) κ
unfolding step
lead-opens κ = record { waits = refl; opens-number = λ d. refl; opens-x = refl; opens-y = refl; opens-bracket = refl }

number-digit : (j v : ℕ) (u : TermSoFar) (c : SumSoFar) (κ : Stack) (b : ℕ) → 48 ≤ b → b ≤ 57 → j < 9
    → step (in_number j v u c κ) (kind_of b) ≡ in_number (suc j) (v * 10 + (b - 48)) u c κ
unfolding step
number-digit j v u c κ b lo hi l = rw (kind-digit b lo hi, lt-ltb j 9 l)

power-digit : (j v : ℕ) (e : Element) (u : TermSoFar) (c : SumSoFar) (κ : Stack) (b : ℕ) → 48 ≤ b → b ≤ 57 → j < 9
    → step (in_power j v e u c κ) (kind_of b) ≡ in_power (suc j) (v * 10 + (b - 48)) e u c κ
unfolding step
power-digit j v e u c κ b lo hi l = rw (kind-digit b lo hi, lt-ltb j 9 l)

-- digits, in a number and in a written power alike: m j v is the state after j of them that stand for v
module _ (m : ℕ → ℕ → State) (grows : (j v b : ℕ) → 48 ≤ b → b ≤ 57 → j < 9 → step (m j v) (kind_of b) ≡ m (suc j) (v * 10 + (b - 48))) where
  more-digits : (j n v : ℕ) {ds : List ℕ} → Digits ds → j + length ds ≡ n → n ≤ 9 → (r : List ℕ) → scan (m j v) (ds ++ r) ≡ scan (m n (decimal_from v ds)) r
  unfolding scan decimal_from
  more-digits j n v no_digit e h r = ap (λ (i : ℕ). scan (m i v) r) (let z : j ≡ n = omega arith in z)
  more-digits j n v (digit {b = b} {s = ds} lo hi tail) e h r =
      ap (λ (st : State). scan st (ds ++ r)) (grows j v b lo hi (omega arith))
      ∙ more-digits (suc j) n (v * 10 + (b - 48)) tail (omega arith) h r

  all_digits : (st : State) → ((d : ℕ) → step st (Digit d) ≡ m 1 d) → (v : ℕ) {ds : List ℕ} → Digits ds → 1 ≤ length ds → length ds ≤ 9 → v ≡ decimal_from 0 ds
      → (r : List ℕ) → scan st (ds ++ r) ≡ scan (m (length ds) v) r
  unfolding scan decimal_from
  all_digits st begins v no_digit some few e r = absurd (let z : ⊥ = omega arith in z)
  all_digits st begins v (digit {b = b} {s = ds} lo hi tail) some few e r =
      let first-value : 0 * 10 + (b - 48) ≡ b - 48 = omega arith in
      ap (λ (k : Kind). scan (step st k) (ds ++ r)) (kind-digit b lo hi)
      ∙ ap (λ (x : State). scan x (ds ++ r)) (begins (b - 48))
      ∙ more-digits 1 (suc (length ds)) (b - 48) tail (omega arith) few r
      ∙ ap (λ (x : ℕ). scan (m (suc (length ds)) x) r) (sym (e ∙ ap (λ (x : ℕ). decimal_from x ds) first-value))

-- blanks, digits, blanks
pub padded : (s : List ℕ) (v : ℕ) (y : NumberText v s) (r : List ℕ) → s ++ r ≡ y.left ++ (y.after.left ++ (y.after.right ++ r))
padded s v y r = rw (y.whole, y.after.whole, append_assoc, append_assoc)

number-blanks : (j v : ℕ) (u : TermSoFar) (c : SumSoFar) (κ : Stack) {a : List ℕ} → Blanks a → {r : List ℕ} → Stops r → scan (in_number j v u c κ) (a ++ r) ≡ scan (after (number v) u c κ) r
unfolding scan step kind_of
number-blanks j v u c κ no-blank h = h.number-stops j v u c κ
number-blanks j v u c κ (blank b) {r} h = scan-blanks (after (number v) u c κ) refl b r

power-blanks : (j v : ℕ) (e : Element) (u : TermSoFar) (c : SumSoFar) (κ : Stack) → leb v 255 ≡ true → {a : List ℕ} → Blanks a → {r : List ℕ} → Stops r
    → scan (in_power j v e u c κ) (a ++ r) ≡ scan (done (close_term u (raised e v)) c κ) r
unfolding scan step kind_of
power-blanks j v e u c κ l no-blank h = h.power-stops j v e u c κ l
power-blanks j v e u c κ l (blank {s = a} b) {r} h =
    ap (λ (st : State). scan st (a ++ r)) (power-blank j v e u c κ l) ∙ scan-blanks (done (close_term u (raised e v)) c κ) refl b r

pass-number : (v : ℕ) (s : List ℕ) → NumberText v s → {st : State} {u : TermSoFar} {c : SumSoFar} {κ : Stack} → Opens st u c κ → {r : List ℕ} → Stops r
    → scan st (s ++ r) ≡ scan (after (number v) u c κ) r
pass-number v s y {st} {u} {c} {κ} o {r} h =
    let d = y.after.before in
    ap (λ (x : List ℕ). scan st x) (padded s v y r)
    ∙ scan-blanks st o.waits y.before _
    ∙ all_digits (λ j w. in_number j w u c κ) (λ j w b lo hi l. number-digit j w u c κ b lo hi l) st o.opens-number v d.digits d.some d.few d.value _
    ∙ number-blanks _ v u c κ y.after.after h

pass-power : (e : Element) (n : ℕ) (s : List ℕ) → PowerOf n s → (u : TermSoFar) (c : SumSoFar) (κ : Stack) → {r : List ℕ} → Stops r
    → scan (caret e u c κ) (s ++ r) ≡ scan (done (close_term u (raised e n)) c κ) r
unfolding step
pass-power e n s t u c κ {r} h =
    let y = t.text in
    let d = y.after.before in
    ap (λ (x : List ℕ). scan (caret e u c κ) x) (padded s n y r)
    ∙ scan-blanks (caret e u c κ) refl y.before _
    ∙ all_digits (λ j w. in_power j w e u c κ) (λ j w b lo hi l. power-digit j w e u c κ b lo hi l) (caret e u c κ) (λ d. refl) n d.digits d.some d.few d.value _
    ∙ power-blanks _ n e u c κ (le-leb n 255 t.small) y.after.after h

close-sum : (s : Sum) (u : TermSoFar) (c : SumSoFar) (κ : Stack) → step (sum_done s (within u c κ)) Close ≡ after (bracket s) u c κ
unfolding step
close-sum (first l t) u c κ = refl
close-sum (more s σ t) u c κ = refl

sum-waits : (s : Sum) (κ : Stack) → step (sum_done s κ) Blank ≡ sum_done s κ
unfolding step
sum-waits (first l t) κ = refl
sum-waits (more s σ t) κ = refl

next-term : (σ : Sign) (s : Sum) (κ : Stack) (x : List ℕ) → SignText σ x → (r : List ℕ) → scan (sum_done s κ) (x ++ r) ≡ scan (operand fresh (joined s σ) κ) r
unfolding step kind_of
next-term plus (first l t) κ x y r = scan-symbol 43 (done t (led l) κ) (operand fresh (joined (first l t) plus) κ) refl refl refl y r
next-term plus (more s τ t) κ x y r = scan-symbol 43 (done t (joined s τ) κ) (operand fresh (joined (more s τ t) plus) κ) refl refl refl y r
next-term minus (first l t) κ x y r = scan-symbol 45 (done t (led l) κ) (operand fresh (joined (first l t) minus) κ) refl refl refl y r
next-term minus (more s τ t) κ x y r = scan-symbol 45 (done t (joined s τ) κ) (operand fresh (joined (more s τ t) minus) κ) refl refl refl y r

pub three : (a b c r : List ℕ) → (a ++ (b ++ c)) ++ r ≡ a ++ (b ++ (c ++ r))
three a b c r = simp append_assoc

-- what stands before a sum's first term is passed
record Led (l : Lead) (κ : Stack) (x w : List ℕ) : Type 0 where
  state : State
  opens : Opens state fresh (led l) κ
  passed : scan (lead κ) (x ++ w) ≡ scan state w

pass-lead : (l : Lead) (κ : Stack) (x w : List ℕ) → LeadText l x → Led l κ x w
unfolding step kind_of
pass-lead none κ x w y = record { state = lead κ; opens = lead-opens κ; passed = ap (λ (z : List ℕ). scan (lead κ) (z ++ w)) y }
pass-lead (sign plus) κ x w y = record {
  state = operand fresh (led (sign plus)) κ;
  opens = operand-opens fresh (led (sign plus)) κ;
  passed = scan-symbol 43 (lead κ) (operand fresh (led (sign plus)) κ) refl refl refl y w;
}
pass-lead (sign minus) κ x w y = record {
  state = operand fresh (led (sign minus)) κ;
  opens = operand-opens fresh (led (sign minus)) κ;
  passed = scan-symbol 45 (lead κ) (operand fresh (led (sign minus)) κ) refl refl refl y w;
}

mutual
  unfolding ElementText PowerText TermText SumText step kind_of

  pass-element : (e : Element) (s : List ℕ) → ElementText e s → (st : State) (u : TermSoFar) (c : SumSoFar) (κ : Stack) → Opens st u c κ → (r : List ℕ) → Stops r
      → scan st (s ++ r) ≡ scan (after e u c κ) r
  pass-element (number v) s y st u c κ o r h = pass-number v s y o h
  pass-element letter_x s y st u c κ o r h = scan-symbol 88 st (after letter_x u c κ) o.waits o.opens-x refl y r
  pass-element letter_y s y st u c κ o r h = scan-symbol 89 st (after letter_y u c κ) o.waits o.opens-y refl y r
  pass-element (bracket f) s y st u c κ o r h =
      let z = y.after in
      ap (λ (x : List ℕ). scan st x) (ap (λ (x : List ℕ). x ++ r) (y.whole ∙ ap (λ (x : List ℕ). y.left ++ x) z.whole) ∙ three y.left z.left z.right r)
      ∙ scan-symbol 40 st (lead (within u c κ)) o.waits o.opens-bracket refl y.before _
      ∙ pass-sum f z.left z.before (within u c κ) (z.right ++ r) (ends_close z.after r)
      ∙ scan-symbol 41 (sum_done f (within u c κ)) (after (bracket f) u c κ) (sum-waits f _) (close-sum f u c κ) refl z.after r

  pass-powers : (q : Power) (s : List ℕ) → PowerText q s → (st : State) (u : TermSoFar) (c : SumSoFar) (κ : Stack) → Opens st u c κ → (r : List ℕ) → Ends r
      → scan st (s ++ r) ≡ scan (done (close_term u q) c κ) r
  pass-powers (plain e) s y st u c κ o r h = pass-element e s y st u c κ o r h.stops ∙ h.ends e u c κ
  pass-powers (raised e n) s y st u c κ o r h =
      let z = y.after in
      ap (λ (x : List ℕ). scan st x) (ap (λ (x : List ℕ). x ++ r) (y.whole ∙ ap (λ (x : List ℕ). y.left ++ x) z.whole) ∙ three y.left z.left z.right r)
      ∙ pass-element e y.left y.before st u c κ o (z.left ++ (z.right ++ r)) (stops-caret z.before _)
      ∙ scan-symbol 94 (after e u c κ) (caret e u c κ) refl refl refl z.before _
      ∙ pass-power e n z.right z.after u c κ h.stops

  pass-term : (t : Term) (s : List ℕ) → TermText t s → (st : State) (c : SumSoFar) (κ : Stack) → Opens st fresh c κ → (r : List ℕ) → Ends r
      → scan st (s ++ r) ≡ scan (done t c κ) r
  pass-term (one q) s y st c κ o r h = pass-powers q s y st fresh c κ o r h
  pass-term (times t q) s y st c κ o r h =
      let z = y.after in
      ap (λ (x : List ℕ). scan st x) (ap (λ (x : List ℕ). x ++ r) (y.whole ∙ ap (λ (x : List ℕ). y.left ++ x) z.whole) ∙ three y.left z.left z.right r)
      ∙ pass-term t y.left y.before st c κ o (z.left ++ (z.right ++ r)) (ends-star z.before _)
      ∙ scan-symbol 42 (done t c κ) (operand (up_to t) c κ) refl refl refl z.before _
      ∙ pass-powers q z.right z.after (operand (up_to t) c κ) (up_to t) c κ (operand-opens (up_to t) c κ) r h

  pass-sum : (f : Sum) (s : List ℕ) → SumText f s → (κ : Stack) (r : List ℕ) → Ends r → scan (lead κ) (s ++ r) ≡ scan (sum_done f κ) r
  pass-sum (first l t) s y κ r h =
      let d = pass-lead l κ y.left (y.right ++ r) y.before in
      ap (λ (x : List ℕ). scan (lead κ) x) (ap (λ (x : List ℕ). x ++ r) y.whole ∙ append_assoc y.left y.right r)
      ∙ d.passed
      ∙ pass-term t y.right y.after d.state (led l) κ d.opens r h
  pass-sum (more f σ t) s y κ r h =
      let z = y.after in
      ap (λ (x : List ℕ). scan (lead κ) x) (ap (λ (x : List ℕ). x ++ r) (y.whole ∙ ap (λ (x : List ℕ). y.left ++ x) z.whole) ∙ three y.left z.left z.right r)
      ∙ pass-sum f y.left y.before κ (z.left ++ (z.right ++ r)) (ends-sign σ z.left z.before _)
      ∙ next-term σ f κ z.left z.before _
      ∙ pass-term t z.right z.after (operand fresh (joined f σ) κ) (joined f σ) κ (operand-opens fresh (joined f σ) κ) r h

finished : (f : Sum) → scan (sum_done f bottom) [] ≡ reads f
unfolding scan finish
finished (first l t) = refl
finished (more g σ t) = refl

-- what the grammar derives, the scan reads
pub scan-complete : (f : Sum) (s : List ℕ) → SumText f s → scan (lead bottom) s ≡ reads f
scan-complete f s y = ap (λ (x : List ℕ). scan (lead bottom) x) (sym (append-nil s)) ∙ pass-sum f s y bottom [] ends-nil ∙ finished f

-- a text has one reading
pub one-sum : (f g : Sum) (s : List ℕ) → SumText f s → SumText g s → f ≡ g
one-sum f g s y z =
    let a = scan-complete f s y in
    let b = scan-complete g s z in
    cc

pub one-reading : (a b : Reading) (s : List ℕ) → Derives s a → Derives s b → a ≡ b
one-reading (reads f) (reads g) s y z = ap reads (one-sum f g s y z)
one-reading (reads f) unreadable s y z = absurd (z f y)
one-reading unreadable (reads g) s y z = absurd (y g z)
one-reading unreadable unreadable s y z = refl
