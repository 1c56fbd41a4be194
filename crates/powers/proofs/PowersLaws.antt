-- The powers of the roots by repeated division.
--   value-starts, value-turn   Horner's scheme from the top, one word at a time
--   divided-none, divided-step   one division more
-- Assumes nothing.
use Prim.Native.Nat.{ℕ, zero, suc, ◌+◌, ◌-◌, ◌*◌, ◌%◌, ◌≤◌, ◌<◌}
use native.Mathlib.Nat.{mod-eq_of_lt}
use native.Mathlib.Omega.{arith}
use mathlib.Core.Path.{◌≡◌, refl, sym, ◌∙◌, ap, subst}
use mathlib.Core.List.{List, ◌++◌}
use lib.ListN.{length, take, drop, length-append, length-drop}
use lib.Seq.{get_or-drop, get_or-append-add, length-take-le, drop-append-add}
use Rattle.algebra.specs.internal.Ring.{CommRing, ring, zero-add}
use Rattle.algebra.proofs.RingLaws.{pow-zero-mul, pow-suc-mul}
use Rattle.algebra.specs.internal.Series.{Series}
use Rattle.algebra.specs.internal.Poly.{const, lin, lin_pow}
use Rattle.algebra.proofs.PolyLaws.{const-zero}
use Rattle.algebra.specs.internal.Fp.{Fp, rem}
use Rattle.algebra.proofs.BridgeLaws.{rem-zero}
use Rattle.numbers.specs.Words.{word}
use Rattle.numbers.specs.internal.Facts.{AllBelow}
use Rattle.numbers.proofs.WordsLaws.{word-tabulate, from, from_is, drop-below, take_below, append-below}
use Rattle.columns.specs.internal.Column.{horner_word, horner_words}
use Rattle.columns.proofs.ColumnLaws.{horner-word-suc, horner-word-none, horner-words-at, horner-below, length-horner, put_from, put-from}
use Rattle.columns.proofs.SolveLaws.{pol-div}
use Rattle.powers.specs.internal.Powers.{over_field, Divided}

pub value-starts : (p c : ℕ) (e : List ℕ) → 0 ≡ horner_word p c (length e - length e) (word e) (length e)
value-starts p c e = sym (ap (λ n. horner_word p c n (word e) (length e)) (let z : length e - length e ≡ 0 = omega arith in z) ∙ horner-word-none p c (word e) (length e))

pub value-turn : (p c : ℕ) (e : List ℕ) (j sum : ℕ) → 0 < j → j ≤ length e → sum ≡ horner_word p c (length e - j) (word e) j
    → (word e (j - 1) + c * sum) % p ≡ horner_word p c (length e - (j - 1)) (word e) (j - 1)
value-turn p c e zero sum l g h = absurd (let z : ⊥ = omega arith in z)
value-turn p c e (suc j) sum l g h =
    subst (λ k. (word e k + c * sum) % p ≡ horner_word p c (length e - k) (word e) k) (let z : j ≡ suc j - 1 = omega arith in z)
    (ap (λ x. (word e j + c * x) % p) h ∙ sym (horner-word-suc p c (length e - suc j) (word e) j)
    ∙ ap (λ n. horner_word p c n (word e) j) (let z : suc (length e - suc j) ≡ length e - j = omega arith in z))

-- the last word stays
pub horner-last : (p c : ℕ) (x : List ℕ) → AllBelow p x → (t : ℕ) → suc t ≡ length x → word (horner_words p c x) t ≡ word x t
unfolding horner_words
horner-last p c x b t e =
    word-tabulate (length x) _ t (omega arith) ∙ ap (λ n. horner_word p c n (word x) t) (let z : length x - t ≡ suc zero = omega arith in z)
    ∙ horner-word-suc p c zero (word x) t ∙ ap (λ y. (word x t + c * y) % p) (horner-word-none p c (word x) (suc t))
    ∙ ap (λ y. y % p) (let z : word x t + c * 0 ≡ word x t = omega arith in z) ∙ mod-eq_of_lt (b t (omega arith))

module _ {S : Type 0} (𝓢 : CommRing S) where
  open 𝓢 use {mul as ◌*ₛ◌}

  infixl 70 ◌*ₛ◌
  swap : (a b c : S) → a *ₛ (b *ₛ c) ≡ b *ₛ (a *ₛ c)
  swap a b c = simp ring

pub divided-none : (p c at : ℕ) (e : List ℕ) → at < length e → AllBelow p e → Divided p c at e at e
divided-none p c at e l b = record {
  long = refl;
  low = omega arith;
  high = l;
  below = b;
  top = refl;
  product = λ pos.
      let R = Series (Fp p pos) in
      sym (ap (λ m. R.mul (lin_pow (Fp p pos) (rem p pos c) m) (over_field p pos (drop at e))) (let z : at - at ≡ zero = omega arith in z)
      ∙ pow-zero-mul R (lin (Fp p pos) (rem p pos c)) (over_field p pos (drop at e)));
}

module _ (p c at : ℕ) (old : List ℕ) (a : ℕ) (e : List ℕ) (h : Divided p c at old a e) where
  pub rest-long : length (from e a) ≡ length old - a
  rest-long = ap length (from_is e a) ∙ length-drop a e ∙ ap (λ n. n - a) h.long

  module _ (more : suc a < length old) (v : horner_word p c (length (from e a)) (word (from e a)) 0 ≡ 0) (y : List ℕ) (q : y ≡ horner_words p c (from e a)) where
    abbrev x : List ℕ
    x = drop a e

    y-is : y ≡ horner_words p c x
    y-is = q ∙ ap (horner_words p c) (from_is e a)

    y-long : length y ≡ length old - a
    y-long = ap length q ∙ length-horner p c (from e a) ∙ rest-long

    front : length (take a e) ≡ a
    front = let n = h.long in length-take-le a e (omega arith)

    new_is : put_from a e y ≡ take a e ++ y
    new_is = put-from a e y

    new-long : length (put_from a e y) ≡ length old
    new-long = let n = y-long in let m = front in ap length new_is ∙ length-append (take a e) y ∙ (let z : length (take a e) + length y ≡ length old = omega arith in z)

    new-drop : drop (a + 1) (put_from a e y) ≡ drop 1 y
    new-drop = ap (drop (a + 1)) new_is ∙ ap (λ n. drop (n + 1) (take a e ++ y)) (sym front) ∙ drop-append-add (take a e) y 1

    new-top : word (put_from a e y) (length old - 1) ≡ word old (length old - 1)
    new-top =
        let t = length old - 1 - a in
        let n = h.long in
        let m = front in
        let i : length old - 1 ≡ length (take a e) + t = omega arith in
        let k : a + t ≡ length old - 1 = omega arith in
        let s : suc t ≡ length x = omega (arith, length-drop a e) in
        ap (λ z. word z (length old - 1)) new_is ∙ ap (word (take a e ++ y)) i ∙ get_or-append-add (take a e) y t 0
        ∙ ap (λ z. word z t) y-is ∙ horner-last p c x (drop-below p a e h.below) t s ∙ get_or-drop a e t 0 ∙ ap (word e) k ∙ h.top

    value_none : (pos : zero < p) → rem p pos (word (horner_words p c x) 0) ≡ (Fp p pos).𝟘
    value_none pos =
        let w : horner_word p c (length x) (word x) 0 ≡ 0 = subst (λ s. horner_word p c (length s) (word s) 0 ≡ 0) (from_is e a) v in
        ap (rem p pos) (horner-words-at p c pos x 0 ∙ w) ∙ rem-zero p pos

    pub divided-step : 1 ≤ p → Divided p c at old (a + 1) (put_from a e y)
    divided-step one = record {
      long = new-long;
      low = let z = h.low in omega arith;
      high = omega arith;
      below = let n = h.long in subst (AllBelow p) (sym new_is) (append-below p (take a e) y (take_below p a e (omega arith) h.below) (subst (AllBelow p) (sym y-is) (horner-below p one c x)));
      top = new-top;
      product = λ pos.
          let K = Fp p pos in
          let R = Series K in
          let L = lin K (rem p pos c) in
          let P = lin_pow K (rem p pos c) (a - at) in
          let r = over_field p pos (drop 1 y) in
          let d : over_field p pos x ≡ R.mul L r =
          pol-div p pos c x ∙ ap (λ z. R.add (const K z) (R.mul L (over_field p pos (drop 1 (horner_words p c x))))) (value_none pos)
          ∙ ap (λ z. R.add z (R.mul L (over_field p pos (drop 1 (horner_words p c x))))) (const-zero K)
          ∙ zero-add R _ ∙ ap (λ z. R.mul L (over_field p pos (drop 1 z))) (sym y-is) in
          let m : a + 1 - at ≡ suc (a - at) = let z = h.low in omega arith in
          h.product pos ∙ ap (R.mul P) d ∙ swap R P L r ∙ sym (pow-suc-mul R L (a - at) r)
          ∙ ap (λ n. R.mul (lin_pow K (rem p pos c) n) r) (sym m) ∙ ap (λ z. R.mul (lin_pow K (rem p pos c) (a + 1 - at)) (over_field p pos z)) (sym new-drop);
    }
