-- How deep the brackets of a text are is how deep those of its formula are.
-- Assumes nothing.
use mathlib.Core.Path.{◌≡◌, refl, sym, ap, ◌∙◌, subst}
use mathlib.Core.List.{List, [], ◌∷◌, ◌++◌, append_assoc, append-nil}
use Prim.Native.Nat.{ℕ, suc, ◌+◌, ◌-◌, ◌≤◌, ◌<◌, max}
use native.Mathlib.Omega.{arith}
use lib.ListN.{length, drop, drop_of_length-le}
use Rattle.formula.specs.Formula.{Sign, plus, minus, Lead, none, sign, Element, number, letter_x, letter_y, bracket, Power, plain, raised, Term, one, times, Sum, first, more, element_depth, power_depth, term_depth, sum_depth}
use Rattle.formula.specs.Grammar.{Blanks, no-blank, blank, Digits, no_digit, digit, Symbol, NumberText, SignText, LeadText, ElementText, PowerText, TermText, SumText}
use Rattle.formula.specs.internal.Scan.{kind_of, by_kind}
use Rattle.formula.specs.internal.Survey.{deepest}
use Rattle.formula.specs.declared.Kind.{Kind}
use Rattle.formula.specs.declared.Kind.TheVariants.{Blank, Digit, LetterX, LetterY, Plus, Minus, Star, Caret, Open, Close, Other}
use Rattle.formula.proofs.CompleteLaws.{spread, padded, three}
use Rattle.formula.proofs.SoundLaws.{Is, kind-is}

-- what a byte does, by its kind
turn : (k : Kind) (d m : ℕ) (s : List ℕ) → ℕ
turn k d m s =
    by_kind k (deepest d m s) (λ v. deepest d m s) (deepest d m s) (deepest d m s) (deepest d m s) (deepest d m s) (deepest d m s) (deepest d m s)
    (deepest (suc d) (max m (suc d)) s) (deepest (d - 1) m s) (deepest d m s)

turn_is : (b d m : ℕ) (s : List ℕ) → deepest d m (b ∷ s) ≡ turn (kind_of b) d m s
unfolding deepest turn
turn_is b d m s = refl

turn-other : (k : Kind) (d m : ℕ) (s : List ℕ) → (k ≡ Open → ⊥) → (k ≡ Close → ⊥) → turn k d m s ≡ deepest d m s
unfolding turn
turn-other Blank d m s h l = refl
turn-other (Digit v) d m s h l = refl
turn-other LetterX d m s h l = refl
turn-other LetterY d m s h l = refl
turn-other Plus d m s h l = refl
turn-other Minus d m s h l = refl
turn-other Star d m s h l = refl
turn-other Caret d m s h l = refl
turn-other Open d m s h l = absurd (h refl)
turn-other Close d m s h l = absurd (l refl)
turn-other Other d m s h l = refl

pub deep-other : (b d m : ℕ) (s : List ℕ) → (b ≡ 40 → ⊥) → (b ≡ 41 → ⊥) → deepest d m (b ∷ s) ≡ deepest d m s
deep-other b d m s h l =
    turn_is b d m s
    ∙ turn-other (kind_of b) d m s (λ e. h (subst (λ (k : Kind). Is k b) e (kind-is b))) (λ e. l (subst (λ (k : Kind). Is k b) e (kind-is b)))

pub deep-open : (b d m : ℕ) (s : List ℕ) → b ≡ 40 → deepest d m (b ∷ s) ≡ deepest (suc d) (max m (suc d)) s
unfolding turn kind_of
deep-open b d m s e = ap (λ (x : ℕ). deepest d m (x ∷ s)) e ∙ turn_is 40 d m s

pub deep-close : (b d m : ℕ) (s : List ℕ) → b ≡ 41 → deepest d m (b ∷ s) ≡ deepest (d - 1) m s
unfolding turn kind_of
deep-close b d m s e = ap (λ (x : ℕ). deepest d m (x ∷ s)) e ∙ turn_is 41 d m s

apart : (a b : ℕ) → (a < b) → a ≡ b → ⊥
apart a b l e = let z : ⊥ = omega arith in z

deep-blanks : {a : List ℕ} → Blanks a → (d m : ℕ) (r : List ℕ) → deepest d m (a ++ r) ≡ deepest d m r
deep-blanks no-blank d m r = refl
deep-blanks (blank {s = a} b) d m r = deep-other 32 d m (a ++ r) (λ e. apart 32 40 (omega arith) e) (λ e. apart 32 41 (omega arith) e) ∙ deep-blanks b d m r

deep-digits : {a : List ℕ} → Digits a → (d m : ℕ) (r : List ℕ) → deepest d m (a ++ r) ≡ deepest d m r
deep-digits no_digit d m r = refl
deep-digits (digit {b = b} {s = a} lo hi y) d m r = deep-other b d m (a ++ r) (λ e. apart 40 b (omega arith) (sym e)) (λ e. apart 41 b (omega arith) (sym e)) ∙ deep-digits y d m r

-- a symbol that takes the count from d and m to e and k
deep-symbol : (c : ℕ) {s : List ℕ} (d m e k : ℕ) → ((w : List ℕ) → deepest d m (c ∷ w) ≡ deepest e k w) → Symbol c s → (r : List ℕ) → deepest d m (s ++ r) ≡ deepest e k r
deep-symbol c {s} d m e k h y r =
    let w = spread c s y in
    ap (λ (x : List ℕ). deepest d m (x ++ r)) w.whole ∙ ap (λ (x : List ℕ). deepest d m x) (append_assoc w.front (c ∷ w.back) r)
    ∙ deep-blanks w.before d m (c ∷ (w.back ++ r)) ∙ h (w.back ++ r) ∙ deep-blanks w.behind e k r

neutral : (c : ℕ) {s : List ℕ} → (c ≡ 40 → ⊥) → (c ≡ 41 → ⊥) → Symbol c s → (d m : ℕ) (r : List ℕ) → deepest d m (s ++ r) ≡ deepest d m r
neutral c h l y d m r = deep-symbol c d m d m (λ w. deep-other c d m w h l) y r

deep-number : (v : ℕ) (s : List ℕ) → NumberText v s → (d m : ℕ) (r : List ℕ) → deepest d m (s ++ r) ≡ deepest d m r
deep-number v s y d m r =
    ap (λ (x : List ℕ). deepest d m x) (padded s v y r) ∙ deep-blanks y.before d m _ ∙ deep-digits y.after.before.digits d m _ ∙ deep-blanks y.after.after d m r

deep-sign : (σ : Sign) (s : List ℕ) → SignText σ s → (d m : ℕ) (r : List ℕ) → deepest d m (s ++ r) ≡ deepest d m r
deep-sign plus s y d m r = neutral 43 (λ e. apart 40 43 (omega arith) (sym e)) (λ e. apart 41 43 (omega arith) (sym e)) y d m r
deep-sign minus s y d m r = neutral 45 (λ e. apart 40 45 (omega arith) (sym e)) (λ e. apart 41 45 (omega arith) (sym e)) y d m r

deep-lead : (l : Lead) (s : List ℕ) → LeadText l s → (d m : ℕ) (r : List ℕ) → deepest d m (s ++ r) ≡ deepest d m r
deep-lead none s y d m r = ap (λ (x : List ℕ). deepest d m (x ++ r)) y
deep-lead (sign σ) s y d m r = deep-sign σ s y d m r

same-most : (d m : ℕ) (r : List ℕ) → d ≤ m → deepest d m r ≡ deepest d (max m (d + 0)) r
same-most d m r h = ap (λ (x : ℕ). deepest d x r) (let e : m ≡ max m (d + 0) = omega arith in e)

two-parts : (d m a b : ℕ) (r : List ℕ) → deepest d (max (max m (d + a)) (d + b)) r ≡ deepest d (max m (d + max a b)) r
two-parts d m a b r = ap (λ (x : ℕ). deepest d x r) (let e : max (max m (d + a)) (d + b) ≡ max m (d + max a b) = omega arith in e)

mutual
  unfolding ElementText PowerText TermText SumText element_depth power_depth term_depth sum_depth

  deep-element : (e : Element) (s : List ℕ) → ElementText e s → (d m : ℕ) (r : List ℕ) → d ≤ m → deepest d m (s ++ r) ≡ deepest d (max m (d + element_depth e)) r
  deep-element (number v) s y d m r h = deep-number v s y d m r ∙ same-most d m r h
  deep-element letter_x s y d m r h = neutral 88 (λ e. apart 40 88 (omega arith) (sym e)) (λ e. apart 41 88 (omega arith) (sym e)) y d m r ∙ same-most d m r h
  deep-element letter_y s y d m r h = neutral 89 (λ e. apart 40 89 (omega arith) (sym e)) (λ e. apart 41 89 (omega arith) (sym e)) y d m r ∙ same-most d m r h
  deep-element (bracket f) s y d m r h =
      let z = y.after in
      let k = max (max m (suc d)) (suc d + sum_depth f) in
      ap (λ (x : List ℕ). deepest d m x) (ap (λ (x : List ℕ). x ++ r) (y.whole ∙ ap (λ (x : List ℕ). y.left ++ x) z.whole) ∙ three y.left z.left z.right r)
      ∙ deep-symbol 40 d m (suc d) (max m (suc d)) (λ w. deep-open 40 d m w refl) y.before _
      ∙ deep-sum f z.left z.before (suc d) (max m (suc d)) (z.right ++ r) (omega arith)
      ∙ deep-symbol 41 (suc d) k (suc d - 1) k (λ w. deep-close 41 (suc d) k w refl) z.after r
      ∙ ap (λ (x : ℕ). deepest x k r) (let e : suc d - 1 ≡ d = omega arith in e)
      ∙ ap (λ (x : ℕ). deepest d x r) (let e : max (max m (suc d)) (suc d + sum_depth f) ≡ max m (d + suc (sum_depth f)) = omega arith in e)

  deep-power : (q : Power) (s : List ℕ) → PowerText q s → (d m : ℕ) (r : List ℕ) → d ≤ m → deepest d m (s ++ r) ≡ deepest d (max m (d + power_depth q)) r
  deep-power (plain e) s y d m r h = deep-element e s y d m r h
  deep-power (raised e n) s y d m r h =
      let z = y.after in
      ap (λ (x : List ℕ). deepest d m x) (ap (λ (x : List ℕ). x ++ r) (y.whole ∙ ap (λ (x : List ℕ). y.left ++ x) z.whole) ∙ three y.left z.left z.right r)
      ∙ deep-element e y.left y.before d m (z.left ++ (z.right ++ r)) h
      ∙ neutral 94 (λ e. apart 40 94 (omega arith) (sym e)) (λ e. apart 41 94 (omega arith) (sym e)) z.before d _ _
      ∙ deep-number n z.right z.after.text d _ r

  deep-term : (t : Term) (s : List ℕ) → TermText t s → (d m : ℕ) (r : List ℕ) → d ≤ m → deepest d m (s ++ r) ≡ deepest d (max m (d + term_depth t)) r
  deep-term (one q) s y d m r h = deep-power q s y d m r h
  deep-term (times t q) s y d m r h =
      let z = y.after in
      ap (λ (x : List ℕ). deepest d m x) (ap (λ (x : List ℕ). x ++ r) (y.whole ∙ ap (λ (x : List ℕ). y.left ++ x) z.whole) ∙ three y.left z.left z.right r)
      ∙ deep-term t y.left y.before d m (z.left ++ (z.right ++ r)) h
      ∙ neutral 42 (λ e. apart 40 42 (omega arith) (sym e)) (λ e. apart 41 42 (omega arith) (sym e)) z.before d _ _
      ∙ deep-power q z.right z.after d (max m (d + term_depth t)) r (omega arith)
      ∙ two-parts d m (term_depth t) (power_depth q) r

  deep-sum : (f : Sum) (s : List ℕ) → SumText f s → (d m : ℕ) (r : List ℕ) → d ≤ m → deepest d m (s ++ r) ≡ deepest d (max m (d + sum_depth f)) r
  deep-sum (first l t) s y d m r h =
      ap (λ (x : List ℕ). deepest d m x) (ap (λ (x : List ℕ). x ++ r) y.whole ∙ append_assoc y.left y.right r)
      ∙ deep-lead l y.left y.before d m (y.right ++ r)
      ∙ deep-term t y.right y.after d m r h
  deep-sum (more f σ t) s y d m r h =
      let z = y.after in
      ap (λ (x : List ℕ). deepest d m x) (ap (λ (x : List ℕ). x ++ r) (y.whole ∙ ap (λ (x : List ℕ). y.left ++ x) z.whole) ∙ three y.left z.left z.right r)
      ∙ deep-sum f y.left y.before d m (z.left ++ (z.right ++ r)) h
      ∙ deep-sign σ z.left z.before d _ _
      ∙ deep-term t z.right z.after d (max m (d + sum_depth f)) r (omega arith)
      ∙ two-parts d m (sum_depth f) (term_depth t) r

-- the brackets of a text are as deep as its formula's
pub depth_is : (f : Sum) (s : List ℕ) → SumText f s → deepest 0 0 s ≡ sum_depth f
unfolding deepest
depth_is f s y = ap (λ (x : List ℕ). deepest 0 0 x) (sym (append-nil s)) ∙ deep-sum f s y 0 0 [] (omega arith) ∙ (let e : max 0 (0 + sum_depth f) ≡ sum_depth f = omega arith in e)

-- past the end of a text
pub deep-end : (s : List ℕ) (i d m : ℕ) → length s ≤ i → deepest d m (drop i s) ≡ m
unfolding deepest
deep-end s i d m l = ap (λ (x : List ℕ). deepest d m x) (drop_of_length-le s l)
