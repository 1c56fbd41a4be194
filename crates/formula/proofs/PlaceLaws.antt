-- A scan from a place of a text on.
-- Assumes nothing.
use mathlib.Core.Path.{◌≡◌, refl, sym, ap, ◌∙◌}
use mathlib.Core.Bool.{Bool, true, false}
use mathlib.Core.List.{List, [], ◌∷◌}
use Prim.Native.Nat.{ℕ, ◌+◌, ◌-◌, ◌≤◌, ◌<◌}
use native.Mathlib.Numerals.{add-one}
use native.Mathlib.Omega.{arith}
use borrow.Author.Tests.{lt-ltb, le-ltb}
use lib.ListN.{length, get_or, drop, drop_of_length-le}
use lib.Seq.{drop-cons, drop-length}
use mathlib.Core.Logic.{⊎_elim}
use lib.Dec.{ltb, eqb}
use Rattle.numbers.specs.Words.{choose}
use Rattle.numbers.proofs.WordsLaws.{lt-or-ge, true-false}
use Rattle.formula.specs.Formula.{Sum, reads}
use Rattle.formula.specs.internal.Scan.{kind_of, kind_at, by_kind, State, dead, step, finish, scan, is_blank}
use Rattle.formula.specs.declared.Kind.{Kind}
use Rattle.formula.specs.declared.Kind.TheVariants.{Blank, Digit, LetterX, LetterY, Plus, Minus, Star, Caret, Open, Close, Other}

pub kind-inside : (s : List ℕ) (q : ℕ) → q < length s → kind_at s q ≡ kind_of (get_or s q 0)
unfolding kind_at
kind-inside s q l = rw (lt-ltb q (length s) l)

pub kind-outside : (s : List ℕ) (q : ℕ) → length s ≤ q → kind_at s q ≡ Other
unfolding kind_at
kind-outside s q l = rw (le-ltb q (length s) l)

-- a place at which something stands
pub is-inside : (s : List ℕ) (q : ℕ) → (kind_at s q ≡ Other → ⊥) → q < length s
is-inside s q h = ⊎_elim (λ l. l) (λ l. absurd (h (kind-outside s q l))) (lt-or-ge q (length s))

pub scan-byte : (s : List ℕ) (q : ℕ) (st : State) → q < length s → scan st (drop q s) ≡ scan (step st (kind_at s q)) (drop (q + 1) s)
unfolding scan
scan-byte s q st l =
    ap (λ (x : List ℕ). scan st x) (drop-cons s q 0 l)
    ∙ ap (λ (i : ℕ). scan (step st (kind_of (get_or s q 0))) (drop i s)) (sym (add-one q))
    ∙ ap (λ (k : Kind). scan (step st k) (drop (q + 1) s)) (sym (kind-inside s q l))

pub scan-kind : (s : List ℕ) (q : ℕ) (st : State) (k : Kind) → kind_at s q ≡ k → (k ≡ Other → ⊥) → scan st (drop q s) ≡ scan (step st k) (drop (q + 1) s)
scan-kind s q st k e h = scan-byte s q st (is-inside s q (λ o. h (sym e ∙ o))) ∙ ap (λ (x : Kind). scan (step st x) (drop (q + 1) s)) e

drop_past : (s : List ℕ) (q : ℕ) → length s ≤ q → drop q s ≡ []
drop_past s q l = drop_of_length-le s l

pub scan-end : (s : List ℕ) (q : ℕ) (st : State) → length s ≤ q → scan st (drop q s) ≡ finish st
unfolding scan
scan-end s q st l = ap (λ (x : List ℕ). scan st x) (drop_past s q l)

pub dead-reads : (s : List ℕ) (f : Sum) → scan dead s ≡ reads f → ⊥
unfolding scan step finish
dead-reads [] f e = let z : ◌≡◌ {A = ℕ} 0 1 = cc in omega arith
dead-reads (b ∷ s) f e = dead-reads s f e

-- where nothing that is read stands, a formula is read only at the end
pub scan-other : (s : List ℕ) (q : ℕ) (st : State) (f : Sum) → kind_at s q ≡ Other → step st Other ≡ dead → q ≤ length s → scan st (drop q s) ≡ reads f → (finish st ≡ reads f) × (q ≡ length s)
unfolding scan
scan-other s q st f o e l r =
    ⊎_elim
    (λ (h : q < length s). absurd (dead-reads (drop (q + 1) s) f (ap (λ (x : State). scan x (drop (q + 1) s)) (sym (ap (λ (k : Kind). step st k) o ∙ e)) ∙ sym (scan-byte s q st h) ∙ r)))
    (λ (h : length s ≤ q). let z : q ≡ length s = omega arith in (ap (λ (x : List ℕ). scan st x) (sym (ap (λ (i : ℕ). drop i s) z ∙ drop-length s)) ∙ r, z))
    (lt-or-ge q (length s))

-- a kind that makes a state fail
pub scan-fails : (s : List ℕ) (q : ℕ) (st : State) (k : Kind) (f : Sum) → kind_at s q ≡ k → (k ≡ Other → ⊥) → step st k ≡ dead → scan st (drop q s) ≡ reads f → ⊥
scan-fails s q st k f e h d r =
    dead-reads (drop (q + 1) s) f (ap (λ (x : State). scan x (drop (q + 1) s)) (sym d) ∙ sym (scan-kind s q st k e h) ∙ r)

-- a blank
pub blank-is : (k : Kind) → is_blank k ≡ true → k ≡ Blank
blank-is Blank e = refl
blank-is (Digit d) e = true-false (sym e)
blank-is LetterX e = true-false (sym e)
blank-is LetterY e = true-false (sym e)
blank-is Plus e = true-false (sym e)
blank-is Minus e = true-false (sym e)
blank-is Star e = true-false (sym e)
blank-is Caret e = true-false (sym e)
blank-is Open e = true-false (sym e)
blank-is Close e = true-false (sym e)
blank-is Other e = true-false (sym e)

pub not-blank : (k : Kind) → is_blank k ≡ false → k ≡ Blank → ⊥
not-blank k e b = true-false (sym (ap is_blank b) ∙ e)

-- the byte 32 alone is one
pub blank-byte : (b : ℕ) → eqb b 32 ≡ is_blank (kind_of b)
unfolding kind_of
blank-byte b = go (eqb b 32)
  where
    late : (t : Bool) (k l : Kind) → false ≡ is_blank k → false ≡ is_blank l → false ≡ is_blank (choose t k l)
    late true k l x y = x
    late false k l x y = y

    go : (t : Bool) → t ≡ is_blank (choose t Blank (
        choose (eqb b 88) LetterX (
        choose (eqb b 89) LetterY (
        choose (eqb b 43) Plus (
        choose (eqb b 45) Minus (
        choose (eqb b 42) Star (
        choose (eqb b 94) Caret (
        choose (eqb b 40) Open (
        choose (eqb b 41) Close (
        choose (ltb b 48) Other (
        choose (ltb 57 b) Other (Digit (b - 48)))))))))))))
    go true = refl
    go false =
        late (eqb b 88) LetterX _ refl (late (eqb b 89) LetterY _ refl (late (eqb b 43) Plus _ refl (late (eqb b 45) Minus _ refl (late (eqb b 42) Star _ refl
        (late (eqb b 94) Caret _ refl (late (eqb b 40) Open _ refl (late (eqb b 41) Close _ refl (late (ltb b 48) Other _ refl (late (ltb 57 b) Other (Digit (b - 48)) refl refl)))))))))

-- two states that go on alike from here
pub same-scan : (s : List ℕ) (q : ℕ) (st st' : State) → step st (kind_at s q) ≡ step st' (kind_at s q) → finish st ≡ finish st' → scan st (drop q s) ≡ scan st' (drop q s)
same-scan s q st st' e f =
    ⊎_elim
    (λ (l : q < length s). scan-byte s q st l ∙ ap (λ (x : State). scan x (drop (q + 1) s)) e ∙ sym (scan-byte s q st' l))
    (λ (l : length s ≤ q). scan-end s q st l ∙ f ∙ sym (scan-end s q st' l))
    (lt-or-ge q (length s))

-- a kind that is read
abbrev pub is_other : Kind → Bool
is_other k = by_kind k false (λ d. false) false false false false false false false false true

pub not-other : (k : Kind) → is_other k ≡ false → k ≡ Other → ⊥
not-other k e o = true-false (sym (ap is_other o) ∙ e)

pub other-is : (k : Kind) → is_other k ≡ true → k ≡ Other
other-is Blank e = true-false (sym e)
other-is (Digit v) e = true-false (sym e)
other-is LetterX e = true-false (sym e)
other-is LetterY e = true-false (sym e)
other-is Plus e = true-false (sym e)
other-is Minus e = true-false (sym e)
other-is Star e = true-false (sym e)
other-is Caret e = true-false (sym e)
other-is Open e = true-false (sym e)
other-is Close e = true-false (sym e)
other-is Other e = refl
