-- Digits for a list of roots, and their expansion.
-- Assumes nothing.
use mathlib.Core.Path.{◌≡◌, refl, sym, ap, ap₂, subst, ◌∙◌}
use mathlib.Core.List.{List, ◌∷◌}
use Prim.Native.Nat.{ℕ, zero, suc, ◌+◌, ◌-◌, ◌*◌, ◌%◌, ◌≤◌, ◌<◌}
use native.Mathlib.Numerals.{add-one}
use native.Mathlib.Nat.{mul_comm as mul-commₙ}
use native.Mathlib.Omega.{arith}
use lib.ListN.{length, take, drop, set, length-append, get_or-append}
use lib.Seq.{ext_get_or, get_or-drop, get_or-take, length-take-le, drop_at, drop-cons, drop-drop}
use Rattle.algebra.specs.internal.Ring.{zero-add, one-mul, zero-mul}
use Rattle.algebra.specs.internal.Series.{Series}
use Rattle.algebra.specs.internal.Poly.{const, lin, lines, newton}
use Rattle.algebra.specs.Prime.{Prime}
use Rattle.algebra.specs.internal.Fp.{Fp, rem}
use Rattle.algebra.proofs.FpLaws.{p-pos}
use Rattle.numbers.specs.Words.{word, tabulate}
use Rattle.numbers.specs.internal.Facts.{AllBelow}
use Rattle.numbers.specs.Divisor.{inverse_of}
use Rattle.numbers.proofs.WordsLaws.{length-tabulate, word-tabulate, from, from_is, length_from, from-below, take_below, append-below}
use Rattle.series.proofs.QuotientLaws.{inverse-law}
use Rattle.columns.specs.internal.Column.{horner_words, digit_words, line_times}
use Rattle.columns.proofs.ColumnLaws.{Sinking, sinking-store, sinking-all, put_from, put-from, line-below, length-line, horner-below, length-horner, length-digit, digit-below}
use Rattle.columns.proofs.SolveLaws.{pol-line, digit-divides}
use Rattle.algebra.proofs.SolutionLaws.{lines-zero, lines-suc, newton-zero, newton-suc, newton-ext, digit-step, expand-step}
use Rattle.solution.specs.internal.Table.{poly, plus, by, Expanded, Digit, Digits, before_word, next_word}

-- words of a list whose part from i on was changed
module _ (i : ℕ) (e y : List ℕ) (g : i ≤ length e) where
  n : length (take i e) ≡ i
  n = length-take-le i e g

  pub put-kept : (k : ℕ) → k < i → word (put_from i e y) k ≡ word e k
  put-kept k l = ap (λ s. word s k) (put-from i e y) ∙ get_or-append (take i e) y 0 k (omega (arith, n)) ∙ get_or-take i e k 0 l

  pub put-drop : drop i (put_from i e y) ≡ y
  put-drop = ap (drop i) (put-from i e y) ∙ drop_at (take i e) y i n

  pub put-long : length y ≡ length e - i → length (put_from i e y) ≡ length e
  put-long q = ap length (put-from i e y) ∙ length-append (take i e) y ∙ omega (arith, n)

  pub put-below : (p : ℕ) → AllBelow p e → AllBelow p y → AllBelow p (put_from i e y)
  put-below p b h = rw (put-from i e y) (append-below p (take i e) y (take_below p i e g b) h)

pub record Expanding (p : ℕ) (c q : List ℕ) (i : ℕ) (e : List ℕ) : Type 0 where
  pub long : length e ≡ length q
  pub below : AllBelow p e
  pub kept : (k : ℕ) → k < i → word e k ≡ word q k
  pub is : (pos : zero < p) →
      plus p pos (newton (Fp p pos) (poly p pos (word c)) (poly p pos (word q)) i)
      (by p pos (lines (Fp p pos) (poly p pos (word c)) i) (poly p pos (word (drop i e))))
      ≡ plus p pos (newton (Fp p pos) (poly p pos (word c)) (poly p pos (word q)) (length c))
      (by p pos (lines (Fp p pos) (poly p pos (word c)) (length c)) (poly p pos (word (drop (length c) q))))

pub expanding-step : (p : ℕ) → 1 ≤ p → (c q : List ℕ) (i : ℕ) (e y : List ℕ) → AllBelow p c → i < length c → i < length q
    → Expanding p c q (suc i) e → y ≡ line_times p (word c i) (from e i) → Expanding p c q i (put_from i e y)
expanding-step p one c q i e y bc l g h z =
    let le : i ≤ length e = let a = h.long in omega arith in
    let x : from e i ≡ word e i ∷ drop (suc i) e = from_is e i ∙ drop-cons e i 0 (let a = h.long in omega arith) in
    let z' : y ≡ line_times p (word c i) (word e i ∷ drop (suc i) e) = z ∙ ap (line_times p (word c i)) x in
    record {
      long = put-long i e y le (ap length z ∙ length-line p (word c i) (from e i) ∙ length_from e i) ∙ h.long;
      below = put-below i e y le p h.below (rw z (line-below p one (word c i) (from e i)));
      kept = λ k u. put-kept i e y le k u ∙ h.kept k (omega arith);
      is = λ pos.
          let K = Fp p pos in
          let C = poly p pos (word c) in
          let Q = poly p pos (word q) in
          ap (λ s. plus p pos (newton K C Q i) (by p pos (lines K C i) (poly p pos (word s)))) (put-drop i e y le ∙ z')
          ∙ ap (λ s. plus p pos (newton K C Q i) (by p pos (lines K C i) s)) (pol-line p pos (word c i) (bc i l) (word e i) (drop (suc i) e))
          ∙ sym (expand-step (Series K) (newton K C Q i) (const K (rem p pos (word e i))) (lines K C i) (lin K (C i)) (poly p pos (word (drop (suc i) e))))
          ∙ ap₂ (λ s t. plus p pos (plus p pos (newton K C Q i) (by p pos (const K (rem p pos s)) (lines K C i))) (by p pos t (poly p pos (word (drop (suc i) e)))))
          (h.kept i (omega arith)) (sym (lines-suc K C i))
          ∙ ap (λ s. plus p pos s (by p pos (lines K C (suc i)) (poly p pos (word (drop (suc i) e))))) (sym (newton-suc K C Q i))
          ∙ h.is pos;
    }

pub expanding-turn : (p : ℕ) → 1 ≤ p → (c q : List ℕ) (i : ℕ) (e y : List ℕ) → AllBelow p c → 0 < i → i ≤ length c → length c ≤ length q
    → Expanding p c q i e → y ≡ line_times p (word c (i - 1)) (from e (i - 1)) → Expanding p c q (i - 1) (put_from (i - 1) e y)
expanding-turn p one c q i e y bc pos l g h z =
    expanding-step p one c q (i - 1) e y bc (omega arith) (omega arith) (subst (λ x. Expanding p c q x e) (let k : i ≡ suc (i - 1) = omega arith in k) h) z

pub expanding-all : (p : ℕ) (c q e : List ℕ) (i : ℕ) → i ≡ 0 → Expanding p c q i e → Expanded p c q e
expanding-all p c q e i z h₀ =
    let h : Expanding p c q 0 e = subst (λ x. Expanding p c q x e) z h₀ in
    record {
      long = h.long;
      below = h.below;
      is = λ pos.
          let K = Fp p pos in
          let C = poly p pos (word c) in
          let Q = poly p pos (word q) in
          sym (ap₂ (λ s t. plus p pos s (by p pos t (poly p pos (word e)))) (newton-zero K C Q) (lines-zero K C) ∙ ap (plus p pos (Series K).𝟘) (one-mul (Series K) _) ∙ zero-add (Series K) _)
          ∙ h.is pos;
    }

pub digits-none : (p : ℕ) (c a e : List ℕ) → AllBelow p e → Digits p c a 0 e e
digits-none p c a e b = record {
  long = refl;
  below = b;
  is = λ pos.
      let K = Fp p pos in
      let C = poly p pos (word c) in
      let E = poly p pos (word e) in
      sym (ap₂ (λ s t. plus p pos (by p pos s (poly p pos (word a))) (by p pos t E)) (newton-zero K C E) (lines-zero K C)
      ∙ ap₂ (plus p pos) (zero-mul (Series K) _) (one-mul (Series K) _) ∙ zero-add (Series K) _);
}

pub digits_step : (p : ℕ) (c a : List ℕ) (l : ℕ) (s e y : List ℕ) → l ≤ length s → Digits p c a l s e → Digit p (word c l) a (from e l) y → Digits p c a (l + 1) s (put_from l e y)
digits_step p c a l s e y room h z =
    let le : l ≤ length e = let a = h.long in omega arith in
    let ny : length y ≡ length e - l = z.long ∙ length_from e l in
    let d : drop (suc l) (put_from l e y) ≡ drop 1 y = sym (ap (drop 1) (sym (put-drop l e y le)) ∙ drop-drop 1 l (put_from l e y) ∙ ap (λ x. drop x (put_from l e y)) (add-one l)) in
    let at : word (put_from l e y) l ≡ word y 0 = sym (ap (λ x. word x 0) (sym (put-drop l e y le)) ∙ get_or-drop l (put_from l e y) 0 0 ∙ ap (word (put_from l e y)) (let k : l + 0 ≡ l = omega arith in k)) in
    subst (λ x. Digits p c a x s (put_from l e y)) (sym (add-one l)) (record {
      long = put-long l e y le ny ∙ h.long;
      below = put-below l e y le p h.below z.below;
      is = λ pos.
          let K = Fp p pos in
          let C = poly p pos (word c) in
          let D = poly p pos (word e) in
          let D' = poly p pos (word (put_from l e y)) in
          let A = poly p pos (word a) in
          digit-step (Series K) (poly p pos (word s)) (newton K C D l) A (lines K C l) (poly p pos (word (drop l e))) (const K (rem p pos (word y 0))) (lin K (C l)) (poly p pos (word (drop 1 y)))
          (h.is pos) (ap (λ x. poly p pos (word x)) (sym (from_is e l)) ∙ z.is pos)
          ∙ ap₂ (λ u v. plus p pos (by p pos (plus p pos u (by p pos (const K (rem p pos v)) (lines K C l))) A) (by p pos (by p pos (lines K C l) (lin K (C l))) (poly p pos (word (drop 1 y)))))
          (newton-ext K C l (λ i u. ap (rem p pos) (sym (put-kept l e y le i u)))) (sym at)
          ∙ ap₂ (λ u v. plus p pos (by p pos u A) (by p pos v (poly p pos (word (drop 1 y))))) (sym (newton-suc K C D' l)) (sym (lines-suc K C l))
          ∙ ap (λ x. plus p pos (by p pos (newton K C D' (suc l)) A) (by p pos (lines K C (suc l)) (poly p pos (word x)))) (sym d);
    })

-- a copy
pub copied : (a b b' : List ℕ) → length b ≡ length a → b' ≡ tabulate (length b) (λ j. word a (j * 1 + 0)) → b' ≡ a
copied a b b' n q =
    q ∙ ext_get_or 0 _ _ (length-tabulate (length b) _ ∙ n) (λ k l.
    let g : k < length b = omega (arith, length-tabulate (length b) (λ j. word a (j * 1 + 0))) in
    word-tabulate (length b) (λ j. word a (j * 1 + 0)) k g ∙ ap (word a) (let e : k * 1 + 0 ≡ k = omega arith in e))

-- what the digit's calls are lent: a copied, Horner's scheme over it, and the digit
module _ {p : ℕ} (prime : Prime p) (c : ℕ) (a : List ℕ) (some : 1 ≤ length a) (ba : AllBelow p a) (unit : 1 ≤ word (horner_words p c a) 0) where
  pos : zero < p
  pos = p-pos prime

  pub prepare-ready : (b : List ℕ) → b ≡ a → (1 ≤ length b) × AllBelow p b × (1 ≤ word (horner_words p c b) 0)
  prepare-ready b q = rw q (some, ba, unit)

  H : List ℕ
  H = horner_words p c a

  H-below : AllBelow p H
  unfolding H
  H-below = horner-below p pos c a

  H-long : length H ≡ length a
  unfolding H
  H-long = length-horner p c a

  inverse : (word H 0 * inverse_of p (word H 0) % p ≡ 1) × (inverse_of p (word H 0) < p)
  unfolding H
  inverse = inverse-law prime (word (horner_words p c a) 0) unit (horner-below p pos c a 0 (omega (arith, length-horner p c a)))

  module _ (b h : List ℕ) (q : b ≡ a) (hq : h ≡ horner_words p c b) (w : ℕ) (wq : w ≡ inverse_of p (word (horner_words p c b) 0)) where
    h-is : h ≡ H
    unfolding H
    h-is = hq ∙ ap (horner_words p c) q

    w-is : w ≡ inverse_of p (word H 0)
    unfolding H
    w-is = wq ∙ ap (λ x. inverse_of p (word (horner_words p c x) 0)) q

    pub scratch-long : length h ≡ length a
    scratch-long = ap length h-is ∙ H-long

    pub inverse-small : w < p
    inverse-small = rw w-is inverse.1

    pub rest-long : length (from h 1) ≡ length a - 1
    rest-long = length_from h 1 ∙ ap (λ n. n - 1) scratch-long

    pub rest_below : AllBelow p (from h 1)
    rest_below = from-below p h 1 (rw h-is H-below)

    pub digit-is : (E R : List ℕ) → length a ≤ length E → R ≡ digit_words p c w (from h 1) E → Digit p c a E R
    unfolding H
    digit-is E R l r = rw r (record {
      long = length-digit p c w (from h 1) E (omega (arith, rest-long));
      below = digit-below p c w (from h 1) pos E;
      is = λ pos'. digit-divides p pos' c a w E prime.two-le l
          (ap (λ x. x * word H 0 % p) w-is ∙ ap (λ x. x % p) (mul-commₙ (inverse_of p (word H 0)) (word H 0)) ∙ inverse.0) (from h 1) (from_is h 1 ∙ ap (drop 1) h-is);
    })

-- Y · e + q · b, from the last word down
pub next-turn : (p q : ℕ) (b s e : List ℕ) (j : ℕ) → Sinking (next_word p q b s) s e j → 1 < j → j ≤ length s
    → (word e (j - 1 - 1) + q * word b (j - 1)) % p ≡ next_word p q b s (j - 1)
unfolding next_word
next-turn p q b s e j w pos h =
    ap₂ (λ x y. (x + q * word b y) % p) (w.kept (j - 1 - 1) (omega arith)) k
    ∙ sym (ap (λ y. (before_word s y + q * word b y) % p) k)
  where
    k : j - 1 ≡ suc (j - 1 - 1)
    k = omega arith

pub next_last : (p q : ℕ) (b s e : List ℕ) (j v : ℕ) → Sinking (next_word p q b s) s e j → 1 ≤ length s → j ≡ 1 → v ≡ q * word b 0 % p → set e 0 v ≡ tabulate (length s) (next_word p q b s)
unfolding next_word
next_last p q b s e j v w h k z =
    sinking-all _ s (set e 0 v) 0 (sinking-store (next_word p q b s) s e 1 v (subst (Sinking (next_word p q b s) s e) k w) (omega arith) h (z ∙ ap (λ x. x % p) (let y : q * word b 0 ≡ 0 + q * word b 0 = omega arith in y))) refl
