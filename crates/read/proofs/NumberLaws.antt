-- Numbers and written powers, digit by digit.
-- Assumes nothing.
use mathlib.Core.Path.{◌≡◌, refl, sym, ap, ◌∙◌, subst}
use mathlib.Core.Bool.{Bool, true, false}
use mathlib.Core.List.{List}
use Prim.Native.Nat.{ℕ, suc, ◌+◌, ◌*◌, ◌^◌, ◌≤◌, ◌<◌}
use native.Mathlib.Nat.{pow-succ', pow-le-pow_right}
use native.Mathlib.Numerals.{add-one}
use native.Mathlib.Omega.{arith}
use borrow.Author.Tests.{lt-ltb, le-ltb, le-leb, lt-leb}
use lib.Dec.{leb}
use lib.ListN.{length, get_or, drop}
use Rattle.std.specs.Prelude.{Some, None}
use Rattle.numbers.specs.Words.{choose}
use Rattle.formula.specs.Formula.{Element, number, Power, plain, raised, Sum, reads, unreadable}
use Rattle.read.specs.Value.{constant, element_value, power_value, powers_high, element_high, power_high}
use Rattle.formula.specs.internal.Scan.{kind_of, kind_at, TermSoFar, SumSoFar, Stack, close_term, State, operand, in_number, after, caret, in_power, done, dead, step, finish, scan}
use Rattle.read.specs.internal.Places.{has_byte, digit_of, Looked, Counts, CountedTo, Counted, Raises, Exponent}
use Rattle.read.specs.internal.Values.{Stored, Raised}
use Rattle.read.specs.internal.Parts.{AllHigh, ElementRead, PowerRead, NumberRead}
use Rattle.formula.specs.declared.Kind.{Kind}
use Rattle.formula.specs.declared.Kind.TheVariants.{Blank, Digit, LetterX, LetterY, Plus, Minus, Star, Caret, Open, Close, Other}
use Rattle.read.specs.declared.Number.{Number}
use Rattle.read.specs.declared.Part.{Part}
use Rattle.formula.proofs.PlaceLaws.{same-scan, kind-inside, is-inside, scan-kind, dead-reads}
use Rattle.formula.proofs.SoundLaws.{Is, kind-is}
use Rattle.read.proofs.HighLaws.{done-high, power-high-term, or_right}
use Rattle.read.proofs.ByteLaws.{byte-there, no-caret, none-some}
use Rattle.read.proofs.ValueLaws.{both_false}

-- the kind of a digit
pub digit-kind : (k : Kind) (d : ℕ) → digit_of k ≡ Some d → k ≡ Digit d
digit-kind Blank d e = none-some e
digit-kind (Digit x) d e = ap Digit (let z : x ≡ d = cc in z)
digit-kind LetterX d e = none-some e
digit-kind LetterY d e = none-some e
digit-kind Plus d e = none-some e
digit-kind Minus d e = none-some e
digit-kind Star d e = none-some e
digit-kind Caret d e = none-some e
digit-kind Open d e = none-some e
digit-kind Close d e = none-some e
digit-kind Other d e = none-some e

digit-other : (d : ℕ) → Digit d ≡ Other → ⊥
digit-other d z = let y : ◌≡◌ {A = ℕ} 0 1 = cc in omega arith

module _ (s : List ℕ) (q k : ℕ) (e : digit_of (kind_at s q) ≡ Some k) where
  is_digit : kind_at s q ≡ Digit k
  is_digit = digit-kind (kind_at s q) k e

  pub digit-inside : q < length s
  digit-inside = is-inside s q (λ z. digit-other k (sym is_digit ∙ z))

  pub digit-nine : k ≤ 9
  digit-nine =
      let i = subst (λ (z : Kind). Is z (get_or s q 0)) (sym (kind-inside s q digit-inside) ∙ is_digit) (kind-is (get_or s q 0)) in
      omega (arith, i.1, i.2)

  pub take-digit : (st : State) → scan st (drop q s) ≡ scan (step st (Digit k)) (drop (q + 1) s)
  take-digit st = scan-kind s q st (Digit k) is_digit (digit-other k)

pub ten-step : (j : ℕ) → 10 ^ (j + 1) ≡ 10 * 10 ^ j
ten-step j = ap (λ (x : ℕ). 10 ^ x) (add-one j) ∙ pow-succ' 10 j

pub ten-small : (j : ℕ) → j ≤ 8 → 10 ^ j ≤ 100000000
ten-small j h = pow-le-pow_right {n = 10} (omega arith) h

-- one more digit, and one too many
pub counts-on : (s : List ℕ) (q : ℕ) (m : ℕ → ℕ → State) → Counts m → (j v k : ℕ) → digit_of (kind_at s q) ≡ Some k → j < 9
    → scan (m j v) (drop q s) ≡ scan (m (j + 1) (v * 10 + k)) (drop (q + 1) s)
counts-on s q m c j v k e l =
    take-digit s q k e (m j v)
    ∙ ap (λ (x : State). scan x (drop (q + 1) s)) (c j v k ∙ ap (λ (b : Bool). choose b (m (suc j) (v * 10 + k)) dead) (lt-ltb j 9 l))
    ∙ ap (λ (i : ℕ). scan (m i (v * 10 + k)) (drop (q + 1) s)) (sym (add-one j))

pub counts-over : (s : List ℕ) (q : ℕ) (m : ℕ → ℕ → State) → Counts m → (j v k : ℕ) (f : Sum) → digit_of (kind_at s q) ≡ Some k → j ≡ 9
    → scan (m j v) (drop q s) ≡ reads f → ⊥
counts-over s q m c j v k f e n r =
    dead-reads (drop (q + 1) s) f
    (ap (λ (x : State). scan x (drop (q + 1) s)) (sym (c j v k ∙ ap (λ (b : Bool). choose b (m (suc j) (v * 10 + k)) dead) (le-ltb j 9 (omega arith)))) ∙ sym (take-digit s q k e (m j v)) ∙ r)

-- no digit stands there
pub not_digit : (s : List ℕ) (q : ℕ) → digit_of (kind_at s q) ≡ None → (d : ℕ) → kind_at s q ≡ Digit d → ⊥
not_digit s q e d k = none-some (sym e ∙ ap digit_of k)

NoDigit : Kind → Type 0
NoDigit k = (d : ℕ) → k ≡ Digit d → ⊥

number_same : (k : Kind) (j v : ℕ) (u : TermSoFar) (c : SumSoFar) (κ : Stack) → NoDigit k → step (in_number j v u c κ) k ≡ step (after (number v) u c κ) k
unfolding step NoDigit
number_same Blank j v u c κ h = refl
number_same (Digit d) j v u c κ h = absurd (h d refl)
number_same LetterX j v u c κ h = refl
number_same LetterY j v u c κ h = refl
number_same Plus j v u c κ h = refl
number_same Minus j v u c κ h = refl
number_same Star j v u c κ h = refl
number_same Caret j v u c κ h = refl
number_same Open j v u c κ h = refl
number_same Close j v u c κ h = refl
number_same Other j v u c κ h = refl

power-same : (k : Kind) (j v : ℕ) (e : Element) (u : TermSoFar) (c : SumSoFar) (κ : Stack) → NoDigit k → leb v 255 ≡ true
    → step (in_power j v e u c κ) k ≡ step (done (close_term u (raised e v)) c κ) k
unfolding step NoDigit
power-same Blank j v e u c κ h l = rw l
power-same (Digit d) j v e u c κ h l = absurd (h d refl)
power-same LetterX j v e u c κ h l = rw l
power-same LetterY j v e u c κ h l = rw l
power-same Plus j v e u c κ h l = rw l
power-same Minus j v e u c κ h l = rw l
power-same Star j v e u c κ h l = rw l
power-same Caret j v e u c κ h l = rw l
power-same Open j v e u c κ h l = rw l
power-same Close j v e u c κ h l = rw l
power-same Other j v e u c κ h l = rw l

power-over : (k : Kind) (j v : ℕ) (e : Element) (u : TermSoFar) (c : SumSoFar) (κ : Stack) → NoDigit k → leb v 255 ≡ false → step (in_power j v e u c κ) k ≡ dead
unfolding step NoDigit
power-over Blank j v e u c κ h l = rw l
power-over (Digit d) j v e u c κ h l = absurd (h d refl)
power-over LetterX j v e u c κ h l = rw l
power-over LetterY j v e u c κ h l = rw l
power-over Plus j v e u c κ h l = rw l
power-over Minus j v e u c κ h l = rw l
power-over Star j v e u c κ h l = rw l
power-over Caret j v e u c κ h l = rw l
power-over Open j v e u c κ h l = rw l
power-over Close j v e u c κ h l = rw l
power-over Other j v e u c κ h l = rw l

caret-stuck : (k : Kind) (e : Element) (u : TermSoFar) (c : SumSoFar) (κ : Stack) → NoDigit k → (k ≡ Blank → ⊥) → step (caret e u c κ) k ≡ dead
unfolding step NoDigit
caret-stuck Blank e u c κ h b = absurd (b refl)
caret-stuck (Digit d) e u c κ h b = absurd (h d refl)
caret-stuck LetterX e u c κ h b = refl
caret-stuck LetterY e u c κ h b = refl
caret-stuck Plus e u c κ h b = refl
caret-stuck Minus e u c κ h b = refl
caret-stuck Star e u c κ h b = refl
caret-stuck Caret e u c κ h b = refl
caret-stuck Open e u c κ h b = refl
caret-stuck Close e u c κ h b = refl
caret-stuck Other e u c κ h b = refl

plain-same : (k : Kind) (e : Element) (u : TermSoFar) (c : SumSoFar) (κ : Stack) → (k ≡ Blank → ⊥) → (k ≡ Caret → ⊥) → step (after e u c κ) k ≡ step (done (close_term u (plain e)) c κ) k
unfolding step
plain-same Blank e u c κ b h = absurd (b refl)
plain-same (Digit d) e u c κ b h = refl
plain-same LetterX e u c κ b h = refl
plain-same LetterY e u c κ b h = refl
plain-same Plus e u c κ b h = refl
plain-same Minus e u c κ b h = refl
plain-same Star e u c κ b h = refl
plain-same Caret e u c κ b h = absurd (h refl)
plain-same Open e u c κ b h = refl
plain-same Close e u c κ b h = refl
plain-same Other e u c κ b h = refl

-- a state that fails here, and would at the end
stuck-reads : (s : List ℕ) (q : ℕ) (st : State) (f : Sum) → step st (kind_at s q) ≡ dead → finish st ≡ unreadable → scan st (drop q s) ≡ reads f → ⊥
unfolding step finish
stuck-reads s q st f d e r = dead-reads (drop q s) f (sym (same-scan s q st dead d e) ∙ r)

module _ (p n : ℕ) (s : List ℕ) (at d : ℕ) where
  pub number-value : (r : Number) (w : List ℕ) → CountedTo s at d r → Stored p n (constant p r.value) w 1 → NumberRead p n s at d (record { at = r.at; rows = 1 }) w
  unfolding step finish NoDigit
  number-value r w h k = record {
    value = r.value;
    passes = λ u c κ. h.passes (λ j v. in_number j v u c κ) (λ j v x. refl)
        ∙ same-scan s r.at (in_number h.count r.value u c κ) (after (number r.value) u c κ) (number_same (kind_at s r.at) h.count r.value u c κ (not_digit s r.at h.stops)) refl;
    later = h.later;
    fits = h.fits;
    stored = k;
  }

  pub number-none : Counted s at d None → (u : TermSoFar) (c : SumSoFar) (κ : Stack) → AllHigh p n (in_number 1 d u c κ) (drop at s)
  unfolding step
  number-none h u c κ f q = absurd (h (λ j v. in_number j v u c κ) (λ j v x. refl) f q)

module _ (s : List ℕ) (at : ℕ) (t : ℕ) (look : Looked s at t) where
  pub exponent-none : digit_of (kind_at s t) ≡ None → Exponent s at None
  unfolding step finish NoDigit
  exponent-none z g u c κ f r = stuck-reads s t (caret g u c κ) f
      (caret-stuck (kind_at s t) g u c κ (not_digit s t z) look.solid) refl (sym (look.waits (caret g u c κ) refl) ∙ r)

  module _ (d : ℕ) (e : digit_of (kind_at s t) ≡ Some d) where
    begins : (g : Element) (u : TermSoFar) (c : SumSoFar) (κ : Stack) → scan (caret g u c κ) (drop at s) ≡ scan (in_power 1 d g u c κ) (drop (t + 1) s)
    unfolding step
    begins g u c κ = look.waits (caret g u c κ) refl ∙ take-digit s t d e (caret g u c κ)

    pub exponent-many : Counted s (t + 1) d None → Exponent s at None
    unfolding step
    exponent-many k g u c κ f q = k (λ j v. in_power j v g u c κ) (λ j v x. refl) f (sym (begins g u c κ) ∙ q)

    module _ (r : Number) (k : CountedTo s (t + 1) d r) where
      pub exponent-large : 255 < r.value → Exponent s at None
      unfolding step finish NoDigit
      exponent-large l g u c κ f q = stuck-reads s r.at (in_power k.count r.value g u c κ) f
          (power-over (kind_at s r.at) k.count r.value g u c κ (not_digit s r.at k.stops) (lt-leb r.value 255 l))
          (let z = lt-leb r.value 255 l in rw z)
          (sym (begins g u c κ ∙ k.passes (λ j v. in_power j v g u c κ) (λ j v x. refl)) ∙ q)

      pub exponent-value : r.value ≤ 255 → (end : ℕ) → Looked s r.at end → Raises s at (record { value = r.value; at = end })
      unfolding step finish NoDigit
      exponent-value l end look2 =
          let z = le-leb r.value 255 l in
          let a = look.later in
          let i = k.later in
          let j = look2.later in
          record {
            passes = λ g u c κ. begins g u c κ ∙ k.passes (λ j v. in_power j v g u c κ) (λ j v x. refl)
                ∙ same-scan s r.at (in_power k.count r.value g u c κ) (done (close_term u (raised g r.value)) c κ)
                (power-same (kind_at s r.at) k.count r.value g u c κ (not_digit s r.at k.stops) z) (rw z)
                ∙ look2.waits (done (close_term u (raised g r.value)) c κ) refl;
            solid = look2.solid;
            later = omega arith;
            fits = look2.fits;
          }

-- what follows the element g, from the place after it on
pub record RaiseRead (p n : ℕ) (s : List ℕ) (at : ℕ) (g : Element) (r : Part) (w : List ℕ) : Type 0 where
  pub tree : Power
  pub passes : (u : TermSoFar) (c : SumSoFar) (κ : Stack) → scan (after g u c κ) (drop at s) ≡ scan (done (close_term u tree) c κ) (drop r.at s)
  pub later : at ≤ r.at
  pub fits : r.at ≤ length s
  pub solid : kind_at s r.at ≡ Blank → ⊥
  pub stored : Stored p n (power_value p tree) w r.rows
  pub low : power_high p n tree ≡ false

module _ (p n : ℕ) (s : List ℕ) (at : ℕ) (t : ℕ) (look : Looked s at t) (g : Element) where
  pub raise-plain : (rows : ℕ) (w : List ℕ) → has_byte s t 94 ≡ false → Stored p n (element_value p g) w rows → element_high p n g ≡ false → RaiseRead p n s at g (record { at = t; rows = rows }) w
  unfolding step finish power_value power_high
  raise-plain rows w b k l = record {
    tree = plain g;
    passes = λ u c κ. look.waits (after g u c κ) refl ∙ same-scan s t (after g u c κ) (done (close_term u (plain g)) c κ)
        (plain-same (kind_at s t) g u c κ look.solid (no-caret s t b)) refl;
    later = look.later;
    fits = look.fits;
    solid = λ y. look.solid y;
    stored = k;
    low = l;
  }

  caret-other : Caret ≡ Other → ⊥
  caret-other z = let y : ◌≡◌ {A = ℕ} 0 1 = cc in omega arith

  module _ (b : has_byte s t 94 ≡ true) where
    caret-here : kind_at s t ≡ Caret
    unfolding kind_of
    caret-here = byte-there s t 94 b

    pub caret-inside : t < length s
    caret-inside = is-inside s t (λ z. caret-other (sym caret-here ∙ z))

    to-caret : (u : TermSoFar) (c : SumSoFar) (κ : Stack) → scan (after g u c κ) (drop at s) ≡ scan (caret g u c κ) (drop (t + 1) s)
    unfolding step
    to-caret u c κ = look.waits (after g u c κ) refl ∙ scan-kind s t (after g u c κ) Caret caret-here caret-other

    pub raise-none : Exponent s (t + 1) None → (u : TermSoFar) (c : SumSoFar) (κ : Stack) → AllHigh p n (after g u c κ) (drop at s)
    raise-none x u c κ f q = absurd (x g u c κ f (sym (to-caret u c κ) ∙ q))

    module _ (r : Number) (x : Raises s (t + 1) r) where
      pub raise-high : powers_high p n (element_value p g) r.value ≡ true → (u : TermSoFar) (c : SumSoFar) (κ : Stack) → AllHigh p n (after g u c κ) (drop at s)
      unfolding power_high
      raise-high z u c κ f q =
          done-high p n (close_term u (raised g r.value)) c κ (drop r.at s) (power-high-term p n u (raised g r.value) (or_right (element_high p n g) _ z)) f
          (sym (to-caret u c κ ∙ x.passes g u c κ) ∙ q)

      pub raise-value : (count : ℕ) (w : List ℕ) → Raised p n (element_value p g) r.value w (Some count) → element_high p n g ≡ false → RaiseRead p n s at g (record { at = r.at; rows = count }) w
      unfolding power_value power_high
      raise-value count w k l =
          let a = look.later in
          let i = x.later in
          record {
            tree = raised g r.value;
            passes = λ u c κ. to-caret u c κ ∙ x.passes g u c κ;
            later = omega arith;
            fits = x.fits;
            solid = x.solid;
            stored = k.0;
            low = both_false _ _ l k.1;
          }

-- an element that was read, and what follows it
module _ (p n : ℕ) (s : List ℕ) (at : ℕ) (e : Part) (x : List ℕ) (h : ElementRead p n s at e x) where
  pub power-read : (r : Part) (w : List ℕ) → RaiseRead p n s e.at h.tree r w → PowerRead p n s at r w
  power-read r w k =
      let a = h.went in
      let b = k.later in
      record {
        tree = k.tree;
        passes = λ u c κ. h.passes u c κ ∙ k.passes u c κ;
        went = record { later = omega arith; fits = k.fits };
        solid = k.solid;
        stored = k.stored;
        low = k.low;
      }

  pub power-lost : ((u : TermSoFar) (c : SumSoFar) (κ : Stack) → AllHigh p n (after h.tree u c κ) (drop e.at s)) → (u : TermSoFar) (c : SumSoFar) (κ : Stack) → AllHigh p n (operand u c κ) (drop at s)
  power-lost k u c κ f r = k u c κ f (sym (h.passes u c κ) ∙ r)
