-- Bytes and kinds: which byte a kind is, what may follow a term, and what stands before a sum.
-- Assumes nothing.
use mathlib.Core.Path.{◌≡◌, refl, sym, ap, ◌∙◌, subst}
use mathlib.Core.Bool.{Bool, true, false, not, cond}
use mathlib.Core.List.{List, [], ◌∷◌}
use Prim.Native.Nat.{ℕ, suc, ◌+◌, ◌-◌, ◌≤◌, ◌<◌}
use native.Mathlib.Omega.{arith}
use mathlib.Core.Logic.{⊎_elim}
use borrow.Author.Tests.{lt-ltb, le-ltb, ltb-true, eqb-true, eq-eqb}
use lib.Dec.{ltb, eqb}
use Rattle.std.specs.Prelude.{Option, Some, None}
use lib.ListN.{length, get_or, take, drop, length-drop}
use lib.Seq.{drop-drop, get_or-drop, take_all}
use Rattle.std.specs.List.{position, position_or_len}
use Rattle.std.specs.Option.{unwrap_or}
use Rattle.std.proofs.lemmas.List.Sums.{prefix_len-le-length, prefix_len_stops}
use Rattle.numbers.specs.Words.{choose}
use Rattle.numbers.proofs.WordsLaws.{lt-or-ge, true-false}
use Rattle.formula.specs.Formula.{Sign, plus, minus, none, sign, bracket, Term, Sum, first, more, reads, unreadable}
use Rattle.formula.specs.internal.Scan.{kind_of, kind_at, is_blank, TermSoFar, fresh, SumSoFar, led, joined, Stack, bottom, within, close_sum, State, lead, operand, after, done, dead, sum_done, step, finish, scan}
use Rattle.formula.specs.declared.Kind.{Kind}
use Rattle.formula.specs.declared.Kind.TheVariants.{Blank, Digit, LetterX, LetterY, Plus, Minus, Star, Caret, Open, Close, Other}
use Rattle.formula.proofs.PlaceLaws.{same-scan, blank-is, blank-byte, not-blank, kind-outside, kind-inside, is-inside, scan-kind, scan-other, scan-fails, is_other, not-other, other-is}
use Rattle.formula.proofs.CompleteLaws.{kind-digit}
use Rattle.formula.proofs.SoundLaws.{Is, kind-is}
use denote.Enum.Bare.{sameb}
use Rattle.read.specs.contracts.Sign.{the_type}
use Rattle.read.specs.declared.Sign.{Sign as Mark}
use Rattle.read.specs.declared.Sign.TheVariants.{Plus as plus-mark, Minus as minus-mark}
use Rattle.read.specs.internal.Places.{has_byte, sign_of, digit_of, sign_for, is_minus, Looked, Started}

-- a byte that is known, and its kind
pub byte-there : (s : List ℕ) (q b : ℕ) → has_byte s q b ≡ true → kind_at s q ≡ kind_of b
unfolding has_byte kind_at
byte-there s q b e = go (ltb q (length s)) e
  where
    go : (t : Bool) → choose t (eqb (get_or s q 0) b) false ≡ true → choose t (kind_of (get_or s q 0)) Other ≡ kind_of b
    go true e = ap kind_of (eqb-true (get_or s q 0) b e)
    go false e = true-false (sym e)

pub byte-not : (s : List ℕ) (q b : ℕ) → has_byte s q b ≡ false → q < length s → get_or s q 0 ≡ b → ⊥
unfolding has_byte
byte-not s q b e l h = true-false (rw (lt-ltb q (length s) l, eq-eqb (get_or s q 0) b h) at e)

pub byte_inside : (s : List ℕ) (q b : ℕ) → has_byte s q b ≡ true → q < length s
unfolding has_byte
byte_inside s q b e = go (ltb q (length s)) refl e
  where
    go : (t : Bool) → ltb q (length s) ≡ t → choose t (eqb (get_or s q 0) b) false ≡ true → q < length s
    go true l e = ltb-true q (length s) l
    go false l e = true-false (sym e)

-- the first place where no blank stands
blanks-pass : (s : List ℕ) (st : State) → step st Blank ≡ st → scan st s ≡ scan st (drop (position_or_len (λ b. not (eqb b 32)) s) s)
unfolding scan
blanks-pass [] st h = refl
blanks-pass (b ∷ s) st h = go (blanks-pass s st h) (eqb b 32) refl
  where
    go : scan st s ≡ scan st (drop (position_or_len (λ b. not (eqb b 32)) s) s) → (t : Bool) → eqb b 32 ≡ t → scan st (b ∷ s) ≡ scan st (drop (cond (not (not t)) (1 + position_or_len (λ b. not (eqb b 32)) s) 0) (b ∷ s))
    go rest true e = ap (λ (x : State). scan x s) (ap (step st) (blank-is (kind_of b) (sym (blank-byte b) ∙ e)) ∙ h) ∙ rest
        ∙ ap (λ (n : ℕ). scan st (drop n (b ∷ s))) (let z : suc (position_or_len (λ b. not (eqb b 32)) s) ≡ 1 + position_or_len (λ b. not (eqb b 32)) s = omega arith in z)
    go rest false e = refl

-- the first place where a test holds, and past the end where it holds nowhere
pub position-or : (test : ℕ → Bool) (s : List ℕ) → unwrap_or (position test s) (length s) ≡ position_or_len test s
position-or test s =
    let at = position_or_len test s in
    ⊎_elim
    (λ (l : at < length s). ap (λ (b : Bool). unwrap_or (cond b (Some at) None) (length s)) (lt-ltb at (length s) l))
    (λ (l : length s ≤ at). ap (λ (b : Bool). unwrap_or (cond b (Some at) None) (length s)) (le-ltb at (length s) l) ∙ (let z = prefix_len-le-length (λ b. not (test b)) s in omega arith))
    (lt-or-ge at (length s))

pub looked-on : (s : List ℕ) (at k : ℕ) (r : Option ℕ) → at ≤ length s
    → r ≡ position (λ b. not (eqb b 32)) (take (length s - at) (drop at s)) → k ≡ unwrap_or r (length (take (length s - at) (drop at s))) → Looked s at (at + k)
looked-on s at k r l e u = record {
  waits = λ st h. blanks-pass (drop at s) st h ∙ ap (scan st) (drop-drop first at s ∙ ap (λ (q : ℕ). drop (at + q) s) (sym found));
  later = omega arith;
  fits = let z = prefix_len-le-length (λ b. not (not (eqb b 32))) (drop at s) in let d = length-drop at s in let y = found in omega arith;
  solid = not-blank _ (⊎_elim
      (λ (i : at + k < length s). ap is_blank (kind-inside s (at + k) i) ∙ sym (blank-byte (get_or s (at + k) 0)) ∙ there i)
      (λ (o : length s ≤ at + k). ap is_blank (kind-outside s (at + k) o))
      (lt-or-ge (at + k) (length s)));
}
  where
    first : ℕ
    first = position_or_len (λ b. not (eqb b 32)) (drop at s)

    found : k ≡ first
    found =
        let whole : take (length s - at) (drop at s) ≡ drop at s = take_all _ _ (let d = length-drop at s in omega arith) in
        u ∙ ap (λ (x : Option ℕ). unwrap_or x (length (take (length s - at) (drop at s)))) e
        ∙ position-or (λ b. not (eqb b 32)) (take (length s - at) (drop at s)) ∙ ap (position_or_len (λ b. not (eqb b 32))) whole

    twice : (b : Bool) → not (not b) ≡ false → b ≡ false
    twice true h = h
    twice false h = refl

    there : at + k < length s → eqb (get_or s (at + k) 0) 32 ≡ false
    there i =
        let d = length-drop at s in
        let y = found in
        ap (λ (q : ℕ). eqb (get_or s (at + q) 0) 32) found ∙ ap (λ (b : ℕ). eqb b 32) (sym (get_or-drop at s first 0))
        ∙ twice _ (prefix_len_stops (λ b. not (not (eqb b 32))) (drop at s) 0 (omega arith))

-- the digit that a byte is
pub digit-is : (b : ℕ) → 48 ≤ b → b ≤ 57 → Some (b - 48) ≡ digit_of (kind_of b)
digit-is b l h = sym (ap digit_of (kind-digit b l h))

pub no-digit-is : (b : ℕ) → ((48 ≤ b) × (b ≤ 57) → ⊥) → None ≡ digit_of (kind_of b)
no-digit-is b h = go (kind_of b) (kind-is b)
  where
    go : (k : Kind) → Is k b → None ≡ digit_of k
    go Blank i = refl
    go (Digit d) i = absurd (h (i.0, i.1))
    go LetterX i = refl
    go LetterY i = refl
    go Plus i = refl
    go Minus i = refl
    go Star i = refl
    go Caret i = refl
    go Open i = refl
    go Close i = refl
    go Other i = refl

-- the byte of a symbol
symbol-byte : (s : List ℕ) (q b : ℕ) (k : Kind) → kind_at s q ≡ k → (k ≡ Other → ⊥) → ((x : ℕ) → Is k x → x ≡ b) → has_byte s q b ≡ false → ⊥
symbol-byte s q b k e o h f =
    let l = is-inside s q (λ z. o (sym e ∙ z)) in
    byte-not s q b f l (h (get_or s q 0) (subst (λ (z : Kind). Is z (get_or s q 0)) (sym (kind-inside s q l) ∙ e) (kind-is (get_or s q 0))))

pub no-star : (s : List ℕ) (q : ℕ) → has_byte s q 42 ≡ false → kind_at s q ≡ Star → ⊥
no-star s q f e = symbol-byte s q 42 Star e (not-other Star refl) (λ x i. i) f

pub no-close : (s : List ℕ) (q : ℕ) → has_byte s q 41 ≡ false → kind_at s q ≡ Close → ⊥
no-close s q f e = symbol-byte s q 41 Close e (not-other Close refl) (λ x i. i) f

pub no-open : (s : List ℕ) (q : ℕ) → has_byte s q 40 ≡ false → kind_at s q ≡ Open → ⊥
no-open s q f e = symbol-byte s q 40 Open e (not-other Open refl) (λ x i. i) f

pub no-x : (s : List ℕ) (q : ℕ) → has_byte s q 88 ≡ false → kind_at s q ≡ LetterX → ⊥
no-x s q f e = symbol-byte s q 88 LetterX e (not-other LetterX refl) (λ x i. i) f

pub no-y : (s : List ℕ) (q : ℕ) → has_byte s q 89 ≡ false → kind_at s q ≡ LetterY → ⊥
no-y s q f e = symbol-byte s q 89 LetterY e (not-other LetterY refl) (λ x i. i) f

pub no-caret : (s : List ℕ) (q : ℕ) → has_byte s q 94 ≡ false → kind_at s q ≡ Caret → ⊥
no-caret s q f e = symbol-byte s q 94 Caret e (not-other Caret refl) (λ x i. i) f

-- signs
pub no-sign-is : (k : Kind) → (k ≡ Plus → ⊥) → (k ≡ Minus → ⊥) → None ≡ sign_of k
no-sign-is Blank a b = refl
no-sign-is (Digit d) a b = refl
no-sign-is LetterX a b = refl
no-sign-is LetterY a b = refl
no-sign-is Plus a b = absurd (a refl)
no-sign-is Minus a b = absurd (b refl)
no-sign-is Star a b = refl
no-sign-is Caret a b = refl
no-sign-is Open a b = refl
no-sign-is Close a b = refl
no-sign-is Other a b = refl

pub no_plus : (s : List ℕ) (q : ℕ) → has_byte s q 43 ≡ false → kind_at s q ≡ Plus → ⊥
no_plus s q f e = symbol-byte s q 43 Plus e (not-other Plus refl) (λ x i. i) f

pub no_minus : (s : List ℕ) (q : ℕ) → has_byte s q 45 ≡ false → kind_at s q ≡ Minus → ⊥
no_minus s q f e = symbol-byte s q 45 Minus e (not-other Minus refl) (λ x i. i) f

pub none-some : {A B : Type 0} {x : A} → None ≡ Some x → B
none-some e = absurd (let z : ⊥ = cc in z)

-- what a sign is and does
pub record Signs (k : Kind) (m : Mark) : Type 0 where
  pub is : Sign
  pub sign-is : m ≡ sign_for is
  pub not-other : k ≡ Other → ⊥
  pub steps : (t : Term) (c : SumSoFar) (κ : Stack) → step (done t c κ) k ≡ operand fresh (joined (close_sum c t) is) κ
  pub begins : (κ : Stack) → step (lead κ) k ≡ operand fresh (led (sign is)) κ

pub signs : (k : Kind) (σ : Mark) → sign_of k ≡ Some σ → Signs k σ
unfolding step
signs Blank σ e = none-some e
signs (Digit d) σ e = none-some e
signs LetterX σ e = none-some e
signs LetterY σ e = none-some e
signs Plus σ e = record { is = plus; sign-is = (let z : σ ≡ plus-mark = cc in z); not-other = not-other Plus refl; steps = λ t c κ. refl; begins = λ κ. refl }
signs Minus σ e = record { is = minus; sign-is = (let z : σ ≡ minus-mark = cc in z); not-other = not-other Minus refl; steps = λ t c κ. refl; begins = λ κ. refl }
signs Star σ e = none-some e
signs Caret σ e = none-some e
signs Open σ e = none-some e
signs Close σ e = none-some e
signs Other σ e = none-some e

pub sign-inside : (s : List ℕ) (q : ℕ) (σ : Mark) → sign_of (kind_at s q) ≡ Some σ → q < length s
sign-inside s q σ e = is-inside s q (signs (kind_at s q) σ e).not-other

-- what cannot follow a term fails
done_stuck : (k : Kind) (t : Term) (c : SumSoFar) (κ : Stack) → (k ≡ Blank → ⊥) → (k ≡ Star → ⊥) → sign_of k ≡ None → (k ≡ Close → step (done t c κ) Close ≡ dead) → step (done t c κ) k ≡ dead
unfolding step
done_stuck Blank t c κ a b e d = absurd (a refl)
done_stuck (Digit v) t c κ a b e d = refl
done_stuck LetterX t c κ a b e d = refl
done_stuck LetterY t c κ a b e d = refl
done_stuck Plus t c κ a b e d = none-some (sym e)
done_stuck Minus t c κ a b e d = none-some (sym e)
done_stuck Star t c κ a b e d = absurd (b refl)
done_stuck Caret t c κ a b e d = refl
done_stuck Open t c κ a b e d = refl
done_stuck Close t c κ a b e d = d refl
done_stuck Other t c κ a b e d = refl

sum-stuck : (k : Kind) (g : Sum) (κ : Stack) → (k ≡ Blank → ⊥) → (k ≡ Star → ⊥) → sign_of k ≡ None → (k ≡ Close → step (sum_done g κ) Close ≡ dead) → step (sum_done g κ) k ≡ dead
sum-stuck k (first l t) κ a b e d = done_stuck k t (led l) κ a b e d
sum-stuck k (more g σ t) κ a b e d = done_stuck k t (joined g σ) κ a b e d

pub close-sum : (g : Sum) (u : TermSoFar) (c : SumSoFar) (κ : Stack) → step (sum_done g (within u c κ)) Close ≡ after (bracket g) u c κ
unfolding step
close-sum (first l t) u c κ = refl
close-sum (more g σ t) u c κ = refl

open-sum : (g : Sum) (u : TermSoFar) (c : SumSoFar) (κ : Stack) → finish (sum_done g (within u c κ)) ≡ unreadable
unfolding finish
open-sum (first l t) u c κ = refl
open-sum (more g σ t) u c κ = refl

pub never : {A : Type 0} (f : Sum) → unreadable ≡ reads f → A
never f e = absurd (let z : ◌≡◌ {A = ℕ} 0 1 = cc in omega arith)

-- where a sum ends and nothing goes on, the text has ended
sum-last : (s : List ℕ) (q : ℕ) (g : Sum) (κ : Stack) (f : Sum) → q ≤ length s → (kind_at s q ≡ Blank → ⊥) → (kind_at s q ≡ Star → ⊥) → sign_of (kind_at s q) ≡ None
    → (kind_at s q ≡ Close → step (sum_done g κ) Close ≡ dead) → scan (sum_done g κ) (drop q s) ≡ reads f → finish (sum_done g κ) ≡ reads f
sum-last s q g κ f l a b h d r = go (is_other (kind_at s q)) refl
  where
    stuck : step (sum_done g κ) (kind_at s q) ≡ dead
    stuck = sum-stuck (kind_at s q) g κ a b h d

    go : (t : Bool) → is_other (kind_at s q) ≡ t → finish (sum_done g κ) ≡ reads f
    go true o = let z = other-is (kind_at s q) o in (scan-other s q (sum_done g κ) f z (subst (λ (x : Kind). step (sum_done g κ) x ≡ dead) z stuck) l r).0
    go false o = absurd (scan-fails s q (sum_done g κ) (kind_at s q) f refl (not-other (kind_at s q) o) stuck r)

-- a sum that no bracket closes
pub unclosed : (s : List ℕ) (q : ℕ) (g : Sum) (u : TermSoFar) (c : SumSoFar) (κ : Stack) (f : Sum) → q ≤ length s → (kind_at s q ≡ Blank → ⊥) → (kind_at s q ≡ Star → ⊥) → sign_of (kind_at s q) ≡ None
    → (kind_at s q ≡ Close → ⊥) → scan (sum_done g (within u c κ)) (drop q s) ≡ reads f → ⊥
unclosed s q g u c κ f l a b h d r = never f (sym (open-sum g u c κ) ∙ sum-last s q g (within u c κ) f l a b h (λ z. absurd (d z)) r)

-- a sum in no bracket is the formula
top-close : (g : Sum) → step (sum_done g bottom) Close ≡ dead
unfolding step
top-close (first l t) = refl
top-close (more g σ t) = refl

top-finish : (g : Sum) → finish (sum_done g bottom) ≡ reads g
unfolding finish
top-finish (first l t) = refl
top-finish (more g σ t) = refl

pub whole_sum : (s : List ℕ) (q : ℕ) (g f : Sum) → q ≤ length s → (kind_at s q ≡ Blank → ⊥) → (kind_at s q ≡ Star → ⊥) → sign_of (kind_at s q) ≡ None
    → scan (sum_done g bottom) (drop q s) ≡ reads f → g ≡ f
whole_sum s q g f l a b h r = let w : reads g ≡ reads f = sym (top-finish g) ∙ sum-last s q g bottom f l a b h (λ z. top-close g) r in cc

-- what stands before a sum's first term
lead-same : (k : Kind) (κ : Stack) → (k ≡ Blank → ⊥) → sign_of k ≡ None → step (lead κ) k ≡ step (operand fresh (led none) κ) k
unfolding step
lead-same Blank κ a e = absurd (a refl)
lead-same (Digit v) κ a e = refl
lead-same LetterX κ a e = refl
lead-same LetterY κ a e = refl
lead-same Plus κ a e = none-some (sym e)
lead-same Minus κ a e = none-some (sym e)
lead-same Star κ a e = refl
lead-same Caret κ a e = refl
lead-same Open κ a e = refl
lead-same Close κ a e = refl
lead-same Other κ a e = refl

module _ (s : List ℕ) (at : ℕ) (t : ℕ) (look : Looked s at t) where
  pub unsigned : sign_of (kind_at s t) ≡ None → Started s at (record { minus = false; at = t })
  unfolding step finish
  unsigned z = record {
    leads = none;
    negative = refl;
    passes = λ κ. look.waits (lead κ) refl ∙ same-scan s t (lead κ) (operand fresh (led none) κ)
        (lead-same (kind_at s t) κ look.solid z) refl;
    later = look.later;
    fits = look.fits;
  }

  negative-is : (σ : Sign) (m : Mark) (b : Bool) → m ≡ sign_for σ → b ≡ sameb the_type m minus-mark → b ≡ is_minus (sign σ)
  negative-is plus m b e h = h ∙ ap (λ (x : Mark). sameb the_type x minus-mark) e
  negative-is minus m b e h = h ∙ ap (λ (x : Mark). sameb the_type x minus-mark) e

  pub is_signed : (m : Mark) (b : Bool) → sign_of (kind_at s t) ≡ Some m → b ≡ sameb the_type m minus-mark → Started s at (record { minus = b; at = t + 1 })
  unfolding step
  is_signed m b e h =
      let g = signs (kind_at s t) m e in
      let l = sign-inside s t m e in
      let k = look.later in
      record {
        leads = sign g.is;
        negative = negative-is g.is m b g.sign-is h;
        passes = λ κ. look.waits (lead κ) refl ∙ scan-kind s t (lead κ) (kind_at s t) refl g.not-other ∙ ap (λ (x : State). scan x (drop (t + 1) s)) (g.begins κ);
        later = omega arith;
        fits = omega arith;
      }

-- the signs of bytes
pub plus-is : (s : List ℕ) (q : ℕ) → has_byte s q 43 ≡ true → Some plus-mark ≡ sign_of (kind_at s q)
unfolding kind_of
plus-is s q e = sym (ap sign_of (byte-there s q 43 e))

pub minus-is : (s : List ℕ) (q : ℕ) → has_byte s q 45 ≡ true → Some minus-mark ≡ sign_of (kind_at s q)
unfolding kind_of
minus-is s q e = sym (ap sign_of (byte-there s q 45 e))
