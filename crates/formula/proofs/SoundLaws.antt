-- What a scan reads, the grammar derives: each state of a scan tells how the bytes so far are derived, and each byte keeps that true.
-- Assumes nothing.
use mathlib.Core.Path.{◌≡◌, refl, sym, ap, ◌∙◌, subst}
use mathlib.Core.List.{List, [], ◌∷◌, ◌++◌, append_assoc, append-nil}
use mathlib.Core.Bool.{Bool, true, false}
use Prim.Native.Nat.{ℕ, suc, ◌+◌, ◌-◌, ◌*◌, ◌≤◌, ◌<◌}
use native.Mathlib.Omega.{arith}
use borrow.Author.Tests.{ltb-true, ltb-false, leb-true, eqb-true}
use lib.Dec.{leb, ltb, eqb}
use lib.ListN.{length, length-append}
use Rattle.numbers.specs.Words.{choose}
use Rattle.formula.specs.Formula.{Sign, plus, minus, none, sign, Element, number, letter_x, letter_y, bracket, Power, plain, raised, Term, one, times, Sum, reads, unreadable}
use Rattle.formula.specs.Grammar.{Blanks, no-blank, blank, Digits, no_digit, digit, decimal_from, ◌⨾◌, Only, Padded, Symbol, Numeral, NumberText, SignText, LeadText, PowerOf, ElementText, PowerText, TermText, SumText}
use Rattle.formula.specs.internal.Scan.{kind_of, TermSoFar, fresh, up_to, SumSoFar, led, joined, Stack, bottom, within, close_term, close_sum, State, lead, operand, in_number, after, caret, in_power, done, dead, on_digit, closed, operand_step, done_step, ended, step, finish, scan}
use Rattle.formula.specs.declared.Kind.{Kind}
use Rattle.formula.specs.declared.Kind.TheVariants.{Blank, Digit, LetterX, LetterY, Plus, Minus, Star, Caret, Open, Close, Other}

-- what a kind says of its byte
abbrev pub Is : Kind → ℕ → Type 0
Is Blank b = b ≡ 32
Is (Digit d) b = (48 ≤ b) × (b ≤ 57) × (d ≡ b - 48)
Is LetterX b = b ≡ 88
Is LetterY b = b ≡ 89
Is Plus b = b ≡ 43
Is Minus b = b ≡ 45
Is Star b = b ≡ 42
Is Caret b = b ≡ 94
Is Open b = b ≡ 40
Is Close b = b ≡ 41
Is Other b = Unit {0}

either : (t : Bool) (k l : Kind) (b : ℕ) → (t ≡ true → Is k b) → (t ≡ false → Is l b) → Is (choose t k l) b
either true k l b yes-is no-is = yes-is refl
either false k l b yes-is no-is = no-is refl

pub kind-is : (b : ℕ) → Is (kind_of b) b
unfolding kind_of
kind-is b =
    either (eqb b 32) Blank _ b (eqb-true b 32) (λ n1.
    either (eqb b 88) LetterX _ b (eqb-true b 88) (λ n2.
    either (eqb b 89) LetterY _ b (eqb-true b 89) (λ n3.
    either (eqb b 43) Plus _ b (eqb-true b 43) (λ n4.
    either (eqb b 45) Minus _ b (eqb-true b 45) (λ n5.
    either (eqb b 42) Star _ b (eqb-true b 42) (λ n6.
    either (eqb b 94) Caret _ b (eqb-true b 94) (λ n7.
    either (eqb b 40) Open _ b (eqb-true b 40) (λ n8.
    either (eqb b 41) Close _ b (eqb-true b 41) (λ n9.
    either (ltb b 48) Other _ b (λ h. tt) (λ lo.
    either (ltb 57 b) Other (Digit (b - 48)) b (λ h. tt) (λ hi. (ltb-false b 48 lo, ltb-false 57 b hi, refl))))))))))))

-- a byte that is none of those that are read
pub record Unread (b : ℕ) : Type 0 where
  pub blank : b ≡ 32 → ⊥
  pub x : b ≡ 88 → ⊥
  pub y : b ≡ 89 → ⊥
  pub plus : b ≡ 43 → ⊥
  pub minus : b ≡ 45 → ⊥
  pub star : b ≡ 42 → ⊥
  pub caret : b ≡ 94 → ⊥
  pub opens : b ≡ 40 → ⊥
  pub closes : b ≡ 41 → ⊥
  pub digit : (48 ≤ b) × (b ≤ 57) → ⊥

pub kind-other : (b : ℕ) → Unread b → Other ≡ kind_of b
kind-other b h = go (kind_of b) (kind-is b)
  where
    go : (k : Kind) → Is k b → Other ≡ k
    go Blank i = absurd (h.blank i)
    go (Digit d) i = absurd (h.digit (i.0, i.1))
    go LetterX i = absurd (h.x i)
    go LetterY i = absurd (h.y i)
    go Plus i = absurd (h.plus i)
    go Minus i = absurd (h.minus i)
    go Star i = absurd (h.star i)
    go Caret i = absurd (h.caret i)
    go Open i = absurd (h.opens i)
    go Close i = absurd (h.closes i)
    go Other i = refl

-- texts put together
module _ {P Q R : List ℕ → Type 0} {s : List ℕ} where
  to-left : (P ⨾ Q ⨾ R) s → ((P ⨾ Q) ⨾ R) s
  to-left y = record {
    left = y.left ++ y.after.left;
    right = y.after.right;
    before = record { left = y.left; right = y.after.left; before = y.before; after = y.after.before; whole = refl };
    after = y.after.after;
    whole = y.whole ∙ ap (λ (x : List ℕ). y.left ++ x) y.after.whole ∙ sym (append_assoc y.left y.after.left y.after.right);
  }

  to-right : ((P ⨾ Q) ⨾ R) s → (P ⨾ Q ⨾ R) s
  to-right y = record {
    left = y.before.left;
    right = y.before.right ++ y.right;
    before = y.before.before;
    after = record { left = y.before.right; right = y.right; before = y.before.after; after = y.after; whole = refl };
    whole = y.whole ∙ ap (λ (x : List ℕ). x ++ y.right) y.before.whole ∙ append_assoc y.before.left y.before.right y.right;
  }

-- the text on the right grows by w
grow : {P Q : List ℕ → Type 0} {s : List ℕ} (R : List ℕ → Type 0) (w : List ℕ) → ((x : List ℕ) → Q x → R (x ++ w)) → (P ⨾ Q) s → (P ⨾ R) (s ++ w)
grow R w h y = record {
  left = y.left;
  right = y.right ++ w;
  before = y.before;
  after = h y.right y.after;
  whole = ap (λ (x : List ℕ). x ++ w) y.whole ∙ append_assoc y.left y.right w;
}

swap : {P Q : List ℕ → Type 0} {s : List ℕ} (R : List ℕ → Type 0) → ((x : List ℕ) → Q x → R x) → (P ⨾ Q) s → (P ⨾ R) s
swap R h y = record { left = y.left; right = y.right; before = y.before; after = h y.right y.after; whole = y.whole }

-- nothing on the right, or on the left
right-nil : {P : List ℕ → Type 0} {s : List ℕ} → P s → (P ⨾ Only []) s
right-nil {s = s} y = record { left = s; right = []; before = y; after = refl; whole = sym (append-nil s) }

left-nil : {P : List ℕ → Type 0} {s : List ℕ} → P s → (Only [] ⨾ P) s
left-nil {s = s} y = record { left = []; right = s; before = refl; after = y; whole = refl }

left-none : (P : List ℕ → Type 0) {s : List ℕ} → (Only [] ⨾ P) s → P s
left-none P y = subst P (sym (y.whole ∙ ap (λ (x : List ℕ). x ++ y.right) y.before)) y.after

join-blanks : {a b : List ℕ} → Blanks a → Blanks b → Blanks (a ++ b)
join-blanks no-blank z = z
join-blanks (blank y) z = blank (join-blanks y z)

-- a text takes blanks after it
padded-blanks : {P : List ℕ → Type 0} {s b : List ℕ} → Padded P s → Blanks b → Padded P (s ++ b)
padded-blanks {P} {b = b} y z = grow (P ⨾ Blanks) b (λ x u. grow Blanks b (λ w v. join-blanks v z) u) y

element-blanks : (e : Element) (s : List ℕ) {b : List ℕ} → ElementText e s → Blanks b → ElementText e (s ++ b)
unfolding ElementText
element-blanks (number v) s y z = padded-blanks y z
element-blanks letter_x s y z = padded-blanks y z
element-blanks letter_y s y z = padded-blanks y z
element-blanks (bracket f) s {b} y z = grow (SumText f ⨾ Symbol 41) b (λ x u. grow (Symbol 41) b (λ w v. padded-blanks v z) u) y

powers-blanks : (q : Power) (s : List ℕ) {b : List ℕ} → PowerText q s → Blanks b → PowerText q (s ++ b)
unfolding PowerText
powers-blanks (plain e) s y z = element-blanks e s y z
powers-blanks (raised e n) s {b} y z =
    grow (Symbol 94 ⨾ PowerOf n) b (λ x u. grow (PowerOf n) b (λ w v. record { small = v.small; text = padded-blanks v.text z }) u) y

term-blanks : (t : Term) (s : List ℕ) {b : List ℕ} → TermText t s → Blanks b → TermText t (s ++ b)
unfolding TermText
term-blanks (one q) s y z = powers-blanks q s y z
term-blanks (times t q) s {b} y z = grow (Symbol 42 ⨾ PowerText q) b (λ x u. grow (PowerText q) b (λ w v. powers-blanks q w v z) u) y

-- how the bytes so far are derived
abbrev TermPart : TermSoFar → List ℕ → Type 0
TermPart fresh = Only []
TermPart (up_to t) = TermText t ⨾ Symbol 42

abbrev SumPart : SumSoFar → List ℕ → Type 0
SumPart (led l) = LeadText l
SumPart (joined f σ) = SumText f ⨾ SignText σ

abbrev StackPart : Stack → List ℕ → Type 0
StackPart bottom = Only []
StackPart (within u c κ) = StackPart κ ⨾ SumPart c ⨾ TermPart u ⨾ Symbol 40

record Run (j v : ℕ) (s : List ℕ) : Type 0 where
  numeral : Numeral v s
  count : length s ≡ j

abbrev Held : State → List ℕ → Type 0
Held (lead κ) = StackPart κ ⨾ Blanks
Held (operand u c κ) = StackPart κ ⨾ SumPart c ⨾ TermPart u ⨾ Blanks
Held (in_number j v u c κ) = StackPart κ ⨾ SumPart c ⨾ TermPart u ⨾ Blanks ⨾ Run j v
Held (after e u c κ) = StackPart κ ⨾ SumPart c ⨾ TermPart u ⨾ ElementText e ⨾ Blanks
Held (caret e u c κ) = StackPart κ ⨾ SumPart c ⨾ TermPart u ⨾ ElementText e ⨾ Symbol 94 ⨾ Blanks
Held (in_power j v e u c κ) = StackPart κ ⨾ SumPart c ⨾ TermPart u ⨾ ElementText e ⨾ Symbol 94 ⨾ Blanks ⨾ Run j v
Held (done t c κ) = StackPart κ ⨾ SumPart c ⨾ TermText t ⨾ Blanks
Held dead = λ s. Unit {0}

-- blanks, and a byte after them
one-blank : Blanks (32 ∷ [])
one-blank = blank no-blank

blank-more : (b : ℕ) → b ≡ 32 → {s : List ℕ} → Blanks s → Blanks (s ++ (b ∷ []))
blank-more b e {s} y = subst (λ (x : ℕ). Blanks (s ++ (x ∷ []))) (sym e) (join-blanks y one-blank)

symbol-after : (c b : ℕ) → b ≡ c → {s : List ℕ} → Blanks s → Symbol c (s ++ (b ∷ []))
symbol-after c b e {s} y = record {
  left = s;
  right = b ∷ [];
  before = y;
  after = record { left = b ∷ []; right = []; before = ap (λ (x : ℕ). x ∷ []) e; after = no-blank; whole = refl };
  whole = refl;
}

-- a symbol that ends a text, with no blank after it yet
symbol-ends : (c b : ℕ) → b ≡ c → {s : List ℕ} → Blanks s → (Symbol c ⨾ Blanks) (s ++ (b ∷ []))
symbol-ends c b e {s} y = record { left = s ++ (b ∷ []); right = []; before = symbol-after c b e y; after = no-blank; whole = sym (append-nil (s ++ (b ∷ []))) }

first_run : (b d : ℕ) → (48 ≤ b) → (b ≤ 57) → d ≡ b - 48 → {s : List ℕ} → Blanks s → (Blanks ⨾ Run 1 d) (s ++ (b ∷ []))
unfolding decimal_from
first_run b d lo hi e {s} y = record {
  left = s;
  right = b ∷ [];
  before = y;
  after = record { numeral = record { digits = digit lo hi no_digit; some = omega arith; few = omega arith; value = omega arith }; count = refl };
  whole = refl;
}

digits_more : (b : ℕ) → 48 ≤ b → b ≤ 57 → {s : List ℕ} → Digits s → Digits (s ++ (b ∷ []))
digits_more b lo hi no_digit = digit lo hi no_digit
digits_more b lo hi (digit l h y) = digit l h (digits_more b lo hi y)

decimal-more : (v b : ℕ) (s : List ℕ) → decimal_from v (s ++ (b ∷ [])) ≡ decimal_from v s * 10 + (b - 48)
unfolding decimal_from
decimal-more v b [] = refl
decimal-more v b (x ∷ s) = decimal-more (v * 10 + (x - 48)) b s

run_more : (j v b d : ℕ) → j < 9 → (48 ≤ b) → (b ≤ 57) → d ≡ b - 48 → (s : List ℕ) → Run j v s → Run (suc j) (v * 10 + d) (s ++ (b ∷ []))
run_more j v b d l lo hi e s y =
    let n = y.numeral in
    let c = y.count in
    let k = length-append s (b ∷ []) in
    record {
      numeral = record {
        digits = digits_more b lo hi n.digits;
        some = omega arith;
        few = omega arith;
        value = ap (λ (x : ℕ). x * 10 + d) n.value ∙ ap (λ (x : ℕ). decimal_from 0 s * 10 + x) e ∙ sym (decimal-more 0 b s);
      };
      count = omega arith;
    }

-- the same bytes, held as what has ended there
abbrev Inner : Stack → SumSoFar → TermSoFar → (List ℕ → Type 0) → List ℕ → Type 0
Inner κ c u P = StackPart κ ⨾ SumPart c ⨾ TermPart u ⨾ P

inner : (κ : Stack) (c : SumSoFar) (u : TermSoFar) {P : List ℕ → Type 0} {s : List ℕ} (R : List ℕ → Type 0) (w : List ℕ) → ((x : List ℕ) → P x → R (x ++ w))
    → Inner κ c u P s → Inner κ c u R (s ++ w)
inner κ c u R w h y = grow (SumPart c ⨾ TermPart u ⨾ R) w (λ x a. grow (TermPart u ⨾ R) w (λ z b. grow R w h b) a) y

inner-swap : (κ : Stack) (c : SumSoFar) (u : TermSoFar) {P : List ℕ → Type 0} {s : List ℕ} (R : List ℕ → Type 0) → ((x : List ℕ) → P x → R x)
    → Inner κ c u P s → Inner κ c u R s
inner-swap κ c u R h y = swap (SumPart c ⨾ TermPart u ⨾ R) (λ x a. swap (TermPart u ⨾ R) (λ z b. swap R h b) a) y

swap-left : {P Q : List ℕ → Type 0} {s : List ℕ} (R : List ℕ → Type 0) → ((x : List ℕ) → P x → R x) → (P ⨾ Q) s → (R ⨾ Q) s
swap-left R h y = record { left = y.left; right = y.right; before = h y.left y.before; after = y.after; whole = y.whole }

end-blanks : (P : List ℕ → Type 0) (s : List ℕ) → P s → (P ⨾ Blanks) s
end-blanks P s y = record { left = s; right = []; before = y; after = no-blank; whole = sym (append-nil s) }

lead-operand : (κ : Stack) (s : List ℕ) → Held (lead κ) s → Held (operand fresh (led none) κ) s
lead-operand κ s y = swap (Only [] ⨾ Only [] ⨾ Blanks) (λ x b. left-nil (left-nil b)) y

run-number : (j v : ℕ) (x : List ℕ) → (Blanks ⨾ Run j v) x → NumberText v x
run-number j v x y = swap (Numeral v ⨾ Blanks) (λ z r. end-blanks (Numeral v) z r.numeral) y

number-after : (j v : ℕ) (u : TermSoFar) (c : SumSoFar) (κ : Stack) (s : List ℕ) → Held (in_number j v u c κ) s → Held (after (number v) u c κ) s
unfolding ElementText
number-after j v u c κ s y = inner-swap κ c u (ElementText (number v) ⨾ Blanks) (λ x r. end-blanks (ElementText (number v)) x (run-number j v x r)) y

close-term : (u : TermSoFar) (q : Power) (s : List ℕ) → (TermPart u ⨾ PowerText q ⨾ Blanks) s → (TermText (close_term u q) ⨾ Blanks) s
unfolding TermText
close-term fresh q s y = left-none (PowerText q ⨾ Blanks) y
close-term (up_to t) q s y = swap-left (TermText (times t q)) (λ x z. to-right z) (to-left y)

close-sum : (c : SumSoFar) (t : Term) (s : List ℕ) → (SumPart c ⨾ TermText t) s → SumText (close_sum c t) s
unfolding SumText
close-sum (led l) t s y = y
close-sum (joined f σ) t s y = to-right y

after-done : (e : Element) (u : TermSoFar) (c : SumSoFar) (κ : Stack) (s : List ℕ) → Held (after e u c κ) s → Held (done (close_term u (plain e)) c κ) s
unfolding PowerText
after-done e u c κ s y =
    swap (SumPart c ⨾ TermText (close_term u (plain e)) ⨾ Blanks) (λ x a. swap (TermText (close_term u (plain e)) ⨾ Blanks) (λ z b. close-term u (plain e) z b) a) y

run-power : (j v : ℕ) (e : Element) (x : List ℕ) → v ≤ 255 → (ElementText e ⨾ Symbol 94 ⨾ Blanks ⨾ Run j v) x → PowerText (raised e v) x
unfolding PowerText
run-power j v e x l y = swap (Symbol 94 ⨾ PowerOf v) (λ z a. swap (PowerOf v) (λ w r. record { small = l; text = run-number j v w r }) a) y

power-done : (j v : ℕ) (e : Element) (u : TermSoFar) (c : SumSoFar) (κ : Stack) (s : List ℕ) → v ≤ 255 → Held (in_power j v e u c κ) s → Held (done (close_term u (raised e v)) c κ) s
power-done j v e u c κ s l y =
    swap (SumPart c ⨾ TermText (close_term u (raised e v)) ⨾ Blanks)
    (λ x a. swap (TermText (close_term u (raised e v)) ⨾ Blanks)
    (λ z b. close-term u (raised e v) z (swap (PowerText (raised e v) ⨾ Blanks) (λ w r. end-blanks (PowerText (raised e v)) w (run-power j v e w l r)) b)) a) y

-- the sum so far, closed
sum-closed : (c : SumSoFar) (t : Term) (s : List ℕ) → (SumPart c ⨾ TermText t ⨾ Blanks) s → (SumText (close_sum c t) ⨾ Blanks) s
sum-closed c t s y = swap-left (SumText (close_sum c t)) (λ x z. close-sum c t x z) (to-left y)

done-sign : (σ : Sign) (b : ℕ) (t : Term) (c : SumSoFar) (κ : Stack) (s : List ℕ) → ((x : List ℕ) → Blanks x → SignText σ (x ++ (b ∷ [])))
    → Held (done t c κ) s → Held (operand fresh (joined (close_sum c t) σ) κ) (s ++ (b ∷ []))
done-sign σ b t c κ s h y =
    let f = close_sum c t in
    grow ((SumText f ⨾ SignText σ) ⨾ Only [] ⨾ Blanks) (b ∷ [])
    (λ x a. swap (Only [] ⨾ Blanks) (λ z e. left-nil e) (end-blanks (SumText f ⨾ SignText σ) _ (grow (SignText σ) (b ∷ []) h (sum-closed c t x a)))) y

done-star : (b : ℕ) → b ≡ 42 → (t : Term) (c : SumSoFar) (κ : Stack) (s : List ℕ) → Held (done t c κ) s → Held (operand (up_to t) c κ) (s ++ (b ∷ []))
done-star b e t c κ s y =
    grow (SumPart c ⨾ (TermText t ⨾ Symbol 42) ⨾ Blanks) (b ∷ [])
    (λ x a. grow ((TermText t ⨾ Symbol 42) ⨾ Blanks) (b ∷ []) (λ z d. end-blanks (TermText t ⨾ Symbol 42) _ (grow (Symbol 42) (b ∷ []) (λ w k. symbol-after 42 b e k) d)) a) y

done-close : (b : ℕ) → b ≡ 41 → (t : Term) (c : SumSoFar) (κ : Stack) (s : List ℕ) → Held (done t c κ) s → Held (closed (close_sum c t) κ) (s ++ (b ∷ []))
unfolding ElementText
done-close b e t c bottom s y = tt
done-close b e t c (within u d κ) s y =
    let f = close_sum c t in
    let X : List ℕ → Type 0 = SumText f ⨾ Symbol 41 in
    let z = grow X (b ∷ []) (λ x a. grow (Symbol 41) (b ∷ []) (λ w k. symbol-after 41 b e k) (sum-closed c t x a)) y in
    swap (SumPart d ⨾ TermPart u ⨾ ElementText (bracket f) ⨾ Blanks)
    (λ x a. swap (TermPart u ⨾ ElementText (bracket f) ⨾ Blanks)
    (λ w k. swap (ElementText (bracket f) ⨾ Blanks) (λ v r. end-blanks (ElementText (bracket f)) v r) (to-right k)) (to-right a)) (to-right z)

done-blank : (b : ℕ) → b ≡ 32 → (t : Term) (c : SumSoFar) (κ : Stack) (s : List ℕ) → Held (done t c κ) s → Held (done t c κ) (s ++ (b ∷ []))
done-blank b e t c κ s y =
    grow (SumPart c ⨾ TermText t ⨾ Blanks) (b ∷ []) (λ x a. grow (TermText t ⨾ Blanks) (b ∷ []) (λ z d. grow Blanks (b ∷ []) (λ w k. blank-more b e k) d) a) y

after-blank : (b : ℕ) → b ≡ 32 → (e : Element) (u : TermSoFar) (c : SumSoFar) (κ : Stack) (s : List ℕ) → Held (after e u c κ) s → Held (after e u c κ) (s ++ (b ∷ []))
after-blank b q e u c κ s y = inner κ c u (ElementText e ⨾ Blanks) (b ∷ []) (λ x a. grow Blanks (b ∷ []) (λ w k. blank-more b q k) a) y

after-caret : (b : ℕ) → b ≡ 94 → (e : Element) (u : TermSoFar) (c : SumSoFar) (κ : Stack) (s : List ℕ) → Held (after e u c κ) s → Held (caret e u c κ) (s ++ (b ∷ []))
after-caret b q e u c κ s y = inner κ c u (ElementText e ⨾ Symbol 94 ⨾ Blanks) (b ∷ []) (λ x a. grow (Symbol 94 ⨾ Blanks) (b ∷ []) (λ w k. symbol-ends 94 b q k) a) y

-- what follows a term so far
done-kind : (k : Kind) (t : Term) (c : SumSoFar) (κ : Stack) (st h : State) (b : ℕ) (s : List ℕ) → Is k b → Held (done t c κ) s
    → (b ≡ 32 → Held st (s ++ (b ∷ []))) → (b ≡ 94 → Held h (s ++ (b ∷ []))) → Held (done_step t c κ st h k) (s ++ (b ∷ []))
done-kind Blank t c κ st h b s e y m n = m e
done-kind (Digit d) t c κ st h b s e y m n = tt
done-kind LetterX t c κ st h b s e y m n = tt
done-kind LetterY t c κ st h b s e y m n = tt
done-kind Plus t c κ st h b s e y m n = done-sign plus b t c κ s (λ x k. symbol-after 43 b e k) y
done-kind Minus t c κ st h b s e y m n = done-sign minus b t c κ s (λ x k. symbol-after 45 b e k) y
done-kind Star t c κ st h b s e y m n = done-star b e t c κ s y
done-kind Caret t c κ st h b s e y m n = n e
done-kind Open t c κ st h b s e y m n = tt
done-kind Close t c κ st h b s e y m n = done-close b e t c κ s y
done-kind Other t c κ st h b s e y m n = tt

operand-open : (b : ℕ) → b ≡ 40 → (u : TermSoFar) (c : SumSoFar) (κ : Stack) (s : List ℕ) → Held (operand u c κ) s → Held (lead (within u c κ)) (s ++ (b ∷ []))
operand-open b e u c κ s y = end-blanks (Inner κ c u (Symbol 40)) (s ++ (b ∷ [])) (inner κ c u (Symbol 40) (b ∷ []) (λ x k. symbol-after 40 b e k) y)

-- where an element may begin
operand-kind : (k : Kind) (u : TermSoFar) (c : SumSoFar) (κ : Stack) (st p m : State) (b : ℕ) (s : List ℕ) → Is k b → Held (operand u c κ) s
    → (b ≡ 32 → Held st (s ++ (b ∷ []))) → (b ≡ 43 → Held p (s ++ (b ∷ []))) → (b ≡ 45 → Held m (s ++ (b ∷ []))) → Held (operand_step u c κ st p m k) (s ++ (b ∷ []))
unfolding ElementText
operand-kind Blank u c κ st p m b s e y h i j = h e
operand-kind (Digit d) u c κ st p m b s e y h i j = inner κ c u (Blanks ⨾ Run 1 d) (b ∷ []) (λ x k. first_run b d e.0 e.1 e.2 k) y
operand-kind LetterX u c κ st p m b s e y h i j = inner κ c u (ElementText letter_x ⨾ Blanks) (b ∷ []) (λ x k. symbol-ends 88 b e k) y
operand-kind LetterY u c κ st p m b s e y h i j = inner κ c u (ElementText letter_y ⨾ Blanks) (b ∷ []) (λ x k. symbol-ends 89 b e k) y
operand-kind Plus u c κ st p m b s e y h i j = i e
operand-kind Minus u c κ st p m b s e y h i j = j e
operand-kind Star u c κ st p m b s e y h i j = tt
operand-kind Caret u c κ st p m b s e y h i j = tt
operand-kind Open u c κ st p m b s e y h i j = operand-open b e u c κ s y
operand-kind Close u c κ st p m b s e y h i j = tt
operand-kind Other u c κ st p m b s e y h i j = tt

-- a digit, or anything else
digit-kind : (k : Kind) (P : State → Type 0) (b : ℕ) → Is k b → (f : ℕ → State) (st : State)
    → ((d : ℕ) → 48 ≤ b → b ≤ 57 → d ≡ b - 48 → P (f d)) → P st → P (on_digit k f st)
digit-kind Blank P b e f st h y = y
digit-kind (Digit d) P b e f st h y = h d e.0 e.1 e.2
digit-kind LetterX P b e f st h y = y
digit-kind LetterY P b e f st h y = y
digit-kind Plus P b e f st h y = y
digit-kind Minus P b e f st h y = y
digit-kind Star P b e f st h y = y
digit-kind Caret P b e f st h y = y
digit-kind Open P b e f st h y = y
digit-kind Close P b e f st h y = y
digit-kind Other P b e f st h y = y

guarded : (P : State → Type 0) (t : Bool) (st : State) → (t ≡ true → P st) → P dead → P (choose t st dead)
guarded P true st h y = h refl
guarded P false st h y = y

lead-sign : (σ : Sign) (b : ℕ) (κ : Stack) (s : List ℕ) → ((x : List ℕ) → Blanks x → SignText σ (x ++ (b ∷ []))) → Held (lead κ) s → Held (operand fresh (led (sign σ)) κ) (s ++ (b ∷ []))
lead-sign σ b κ s h y = grow (SignText σ ⨾ Only [] ⨾ Blanks) (b ∷ []) (λ x k. swap (Only [] ⨾ Blanks) (λ z e. left-nil e) (end-blanks (SignText σ) _ (h x k))) y

caret-kind : (k : Kind) (e : Element) (u : TermSoFar) (c : SumSoFar) (κ : Stack) (b : ℕ) (s : List ℕ) → Is k b → Held (caret e u c κ) s → Held (step (caret e u c κ) k) (s ++ (b ∷ []))
unfolding step
caret-kind Blank e u c κ b s q y = inner κ c u (ElementText e ⨾ Symbol 94 ⨾ Blanks) (b ∷ []) (λ x a. grow (Symbol 94 ⨾ Blanks) (b ∷ []) (λ w k. grow Blanks (b ∷ []) (λ z n. blank-more b q n) k) a) y
caret-kind (Digit d) e u c κ b s q y =
    inner κ c u (ElementText e ⨾ Symbol 94 ⨾ Blanks ⨾ Run 1 d) (b ∷ [])
    (λ x a. grow (Symbol 94 ⨾ Blanks ⨾ Run 1 d) (b ∷ []) (λ w k. grow (Blanks ⨾ Run 1 d) (b ∷ []) (λ z n. first_run b d q.0 q.1 q.2 n) k) a) y
caret-kind LetterX e u c κ b s q y = tt
caret-kind LetterY e u c κ b s q y = tt
caret-kind Plus e u c κ b s q y = tt
caret-kind Minus e u c κ b s q y = tt
caret-kind Star e u c κ b s q y = tt
caret-kind Caret e u c κ b s q y = tt
caret-kind Open e u c κ b s q y = tt
caret-kind Close e u c κ b s q y = tt
caret-kind Other e u c κ b s q y = tt

-- each byte keeps it true
held-step : (st : State) (k : Kind) (b : ℕ) (s : List ℕ) → Is k b → Held st s → Held (step st k) (s ++ (b ∷ []))
unfolding step
held-step (lead κ) k b s e y =
    operand-kind k fresh (led none) κ (lead κ) (operand fresh (led (sign plus)) κ) (operand fresh (led (sign minus)) κ) b s e (lead-operand κ s y)
    (λ q. grow Blanks (b ∷ []) (λ x n. blank-more b q n) y)
    (λ q. lead-sign plus b κ s (λ x n. symbol-after 43 b q n) y)
    (λ q. lead-sign minus b κ s (λ x n. symbol-after 45 b q n) y)
held-step (operand u c κ) k b s e y = operand-kind k u c κ (operand u c κ) dead dead b s e y (λ q. inner κ c u Blanks (b ∷ []) (λ x n. blank-more b q n) y) (λ q. tt) (λ q. tt)
held-step (in_number j v u c κ) k b s e y =
    let z = number-after j v u c κ s y in
    digit-kind k (λ st. Held st (s ++ (b ∷ []))) b e (λ d. choose (ltb j 9) (in_number (suc j) (v * 10 + d) u c κ) dead) (step (after (number v) u c κ) k)
    (λ d lo hi q. guarded (λ st. Held st (s ++ (b ∷ []))) (ltb j 9) (in_number (suc j) (v * 10 + d) u c κ)
    (λ l. inner κ c u (Blanks ⨾ Run (suc j) (v * 10 + d)) (b ∷ []) (λ x a. grow (Run (suc j) (v * 10 + d)) (b ∷ []) (λ w r. run_more j v b d (ltb-true j 9 l) lo hi q w r) a) y) tt)
    (done-kind k (close_term u (plain (number v))) c κ (after (number v) u c κ) (caret (number v) u c κ) b s e (after-done (number v) u c κ s z)
    (λ q. after-blank b q (number v) u c κ s z) (λ q. after-caret b q (number v) u c κ s z))
held-step (after f u c κ) k b s e y =
    done-kind k (close_term u (plain f)) c κ (after f u c κ) (caret f u c κ) b s e (after-done f u c κ s y) (λ q. after-blank b q f u c κ s y) (λ q. after-caret b q f u c κ s y)
held-step (caret f u c κ) k b s e y = caret-kind k f u c κ b s e y
held-step (in_power j v f u c κ) k b s e y =
    let t = close_term u (raised f v) in
    digit-kind k (λ st. Held st (s ++ (b ∷ []))) b e (λ d. choose (ltb j 9) (in_power (suc j) (v * 10 + d) f u c κ) dead)
    (choose (leb v 255) (done_step t c κ (done t c κ) dead k) dead)
    (λ d lo hi q. guarded (λ st. Held st (s ++ (b ∷ []))) (ltb j 9) (in_power (suc j) (v * 10 + d) f u c κ)
    (λ l. inner κ c u (ElementText f ⨾ Symbol 94 ⨾ Blanks ⨾ Run (suc j) (v * 10 + d)) (b ∷ [])
    (λ x a. grow (Symbol 94 ⨾ Blanks ⨾ Run (suc j) (v * 10 + d)) (b ∷ [])
    (λ z n. grow (Blanks ⨾ Run (suc j) (v * 10 + d)) (b ∷ []) (λ i o. grow (Run (suc j) (v * 10 + d)) (b ∷ []) (λ w r. run_more j v b d (ltb-true j 9 l) lo hi q w r) o) n) a) y) tt)
    (guarded (λ st. Held st (s ++ (b ∷ []))) (leb v 255) (done_step t c κ (done t c κ) dead k)
    (λ l. let z = power-done j v f u c κ s (leb-true v 255 l) y in done-kind k t c κ (done t c κ) dead b s e z (λ q. done-blank b q t c κ s z) (λ q. tt)) tt)
held-step (done t c κ) k b s e y = done-kind k t c κ (done t c κ) dead b s e y (λ q. done-blank b q t c κ s y) (λ q. tt)
held-step dead k b s e y = tt

never : {A : Type 0} (f : Sum) → unreadable ≡ reads f → A
never f e = absurd (let z : ◌≡◌ {A = ℕ} 0 1 = cc in omega arith)

held-done : (t : Term) (c : SumSoFar) (κ : Stack) (f : Sum) (s : List ℕ) → Held (done t c κ) s → ended (close_sum c t) κ ≡ reads f → SumText f s
held-done t c bottom f s y e =
    let q : close_sum c t ≡ f = cc in
    let z = left-none (SumPart c ⨾ TermText t ⨾ Blanks) y in
    let w = swap (TermText t) (λ x a. subst (TermText t) (sym a.whole) (term-blanks t a.left a.before a.after)) z in
    subst (λ (g : Sum). SumText g s) q (close-sum c t s w)
held-done t c (within u d κ) f s y e = never f e

held-finish : (st : State) (f : Sum) (s : List ℕ) → Held st s → finish st ≡ reads f → SumText f s
unfolding finish
held-finish (lead κ) f s y e = never f e
held-finish (operand u c κ) f s y e = never f e
held-finish (in_number j v u c κ) f s y e = held-done (close_term u (plain (number v))) c κ f s (after-done (number v) u c κ s (number-after j v u c κ s y)) e
held-finish (after g u c κ) f s y e = held-done (close_term u (plain g)) c κ f s (after-done g u c κ s y) e
held-finish (caret g u c κ) f s y e = never f e
held-finish (in_power j v g u c κ) f s y e = go (leb v 255) refl e
  where
    go : (b : Bool) → leb v 255 ≡ b → choose b (ended (close_sum c (close_term u (raised g v))) κ) unreadable ≡ reads f → SumText f s
    go true l e = held-done (close_term u (raised g v)) c κ f s (power-done j v g u c κ s (leb-true v 255 l) y) e
    go false l e = never f e
held-finish (done t c κ) f s y e = held-done t c κ f s y e
held-finish dead f s y e = never f e

scan-held : (s : List ℕ) (st : State) (f : Sum) (x : List ℕ) → Held st x → scan st s ≡ reads f → SumText f (x ++ s)
unfolding scan
scan-held [] st f x y e = subst (SumText f) (sym (append-nil x)) (held-finish st f x y e)
scan-held (b ∷ s) st f x y e = subst (SumText f) (append_assoc x (b ∷ []) s) (scan-held s (step st (kind_of b)) f (x ++ (b ∷ [])) (held-step st (kind_of b) b x (kind-is b) y) e)

-- what the scan reads, the grammar derives
pub scan-sound : (f : Sum) (s : List ℕ) → scan (lead bottom) s ≡ reads f → SumText f s
scan-sound f s e = scan-held s (lead bottom) f [] (left-nil no-blank) e
