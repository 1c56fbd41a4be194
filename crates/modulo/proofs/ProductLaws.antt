-- Products and powers modulo f.
--   Multiplying ..     the product so far: the coefficients of a from i on, times b
--   multiplying-none, multiplying-step    the loop that adds it up
--   room-long, room-empty    the array in which sums are added up
--   modulus-at         the modulus by the number of words that its remainders have
--   sums-long          what is the same as something modulo f has as many words as f asks for
--   sums-fit, sums-lent, lent-long, lent-reduce    the sums in the array, reduced modulo p, are the remainder
--   modulus-two        p is 2 or more
--   line-below, line-product    Y + c as words, and times a polynomial
--   remainder-same     what is the same modulo f has the same remainder
--   product-same       a product of remainders is the product of what they are the remainders of
--   digit-none, digit-one    squared, and times Y + c where the digit is 1
--   one_below, line-is       the words 1, 0, 0, ..: what is multiplied by them stays
--   Powering ..        the power by the digits of n down to that of `bit`, a power of 2
--   powering-none, powering-step    the loop over the digits
-- Assumes nothing.
use mathlib.Core.Path.{◌≡◌, refl, sym, ap, ap₂, subst, ◌∙◌, fun_ext}
use mathlib.Core.List.{List, [], ◌∷◌, ◌++◌}
use mathlib.Core.Logic.{⊎_elim}
use Prim.Native.Nat.{ℕ, zero, suc, ◌+◌, ◌-◌, ◌*◌, ◌/◌, ◌%◌, ◌≤◌, ◌<◌, Fin}
use native.Mathlib.Nat.{mod-lt, div-eq_of_lt, div-div-eq-div-mul, div-add-mod'}
use native.Mathlib.Omega.{arith}
use lib.ListN.{length, take, drop, length-append, length-drop, get_or-eq_default}
use lib.Seq.{get_or-drop, take_at, length-take-le}
use Rattle.algebra.specs.internal.Ring.{CommRing, ring, mul-one, one-mul, zero-mul, pow}
use Rattle.algebra.specs.internal.Series.{Series}
use Rattle.algebra.specs.internal.Poly.{const, lin, SameModulo}
use Rattle.algebra.specs.internal.Fp.{Fp, rem}
use Rattle.algebra.proofs.RingLaws.{neg-neg, pow-zero, pow-first, pow-add}
use Rattle.algebra.proofs.SeriesLaws.{zero-at, one_at}
use Rattle.algebra.proofs.PolyLaws.{lin-coeff-zero, lin-coeff-suc, Poly, poly-lin, poly-pow, poly-mul, head_tail}
use Rattle.algebra.proofs.FpLaws.{rem-mod}
use Rattle.algebra.proofs.BridgeLaws.{rem-zero, rem-one}
use Rattle.algebra.proofs.Modulo.{modulo-refl, modulo-trans, modulo-add, modulo-mul}
use Rattle.numbers.specs.Words.{word, first_large, tabulate}
use Rattle.numbers.specs.Limits.{largest_degree}
use Rattle.numbers.specs.internal.Facts.{AllBelow}
use Rattle.numbers.proofs.WordsLaws.{lt-or-ge, length-tabulate, word-tabulate, tabulate-below, none-large, take_below}
use Rattle.series.proofs.SeriesLaws.{word_below}
use Rattle.columns.specs.internal.Column.{first_only}
use Rattle.columns.proofs.SolveLaws.{below-pol}
use Rattle.powers.specs.internal.Powers.{over_field}
use Rattle.modulo.specs.internal.Modulo.{turned, two_to, PowerOfTwo, ModulusOf, Congruent, Remainder, words_of, times, power, plus}
use Rattle.modulo.proofs.TurnLaws.{two_products, turned-long, turned-bound, turned-modulo}

pub modulus-at : {p d : ℕ} {f : List ℕ} → ModulusOf p f (length f - 1) → length f ≡ d + 1 → ModulusOf p f d
modulus-at {p} {d} {f} m e = subst (ModulusOf p f) (let z : length f - 1 ≡ d = omega arith in z) m

-- over ring variables
module _ {S : Type 0} (𝓢 : CommRing S) where
  open 𝓢 use {add as ◌⊹◌, mul as ◌·◌}

  infixl 65 ◌⊹◌
  infixl 70 ◌·◌
  horner-identity : (x l t b : S) → (x ⊹ l · t) · b ≡ l · (t · b) ⊹ x · b
  horner-identity x l t b = simp ring

abbrev pol-poly : (p : ℕ) (pos : zero < p) (e : List ℕ) → Poly (Fp p pos) (over_field p pos e)
pol-poly p pos e = (length e, below-pol p pos e)

pub record Multiplying (p : ℕ) (f a b : List ℕ) (i : ℕ) (e : List ℕ) : Type 0 where
  pub long : length e ≡ length b
  pub bound : AllBelow (1 + (length a - i) * two_products) e
  pub same : (pos : zero < p) → SameModulo (Fp p pos) (over_field p pos f) ((Series (Fp p pos)).mul (over_field p pos (drop i a)) (over_field p pos b)) (over_field p pos e)

pub multiplying-none : (p : ℕ) (f a b e : List ℕ) → length e ≡ length b → AllBelow 1 e → Multiplying p f a b (length a) e
multiplying-none p f a b e l z = record {
  long = l;
  bound = λ k g. let y = z k g in omega arith;
  same = λ pos.
      let K = Fp p pos in
      modulo-refl K (over_field p pos f)
      (ap (λ x. (Series K).mul x (over_field p pos b)) (fun_ext (λ j. below-pol p pos (drop (length a) a) j (omega (arith, length-drop (length a) a)) ∙ sym (zero-at K j)))
      ∙ zero-mul (Series K) _
      ∙ fun_ext (λ j. zero-at K j ∙ sym (rem-zero p pos) ∙ ap (rem p pos) (let y = word_below 1 e (omega arith) z j in let w : 0 ≡ word e j = omega arith in w)));
}

module _ (p : ℕ) (f a b : List ℕ) (i : ℕ) (e : List ℕ) (h : Multiplying p f a b i e) (low : 0 < i) (high : i ≤ length a) where
  pub multiplying-step : ModulusOf p f (length e) → AllBelow p a → AllBelow p b → (e' : List ℕ) → e' ≡ turned p f (word a (i - 1)) b e → Multiplying p f a b (i - 1) e'
  multiplying-step m a_below b_below e' q =
      let n = h.long in
      record {
        long = ap length q ∙ turned-long p f (word a (i - 1)) b e ∙ n;
        bound = subst (λ x. AllBelow x e') size
            (subst (AllBelow (1 + (length a - i) * two_products + two_products)) (sym q)
            (turned-bound p f (word a (i - 1)) b e (1 + (length a - i) * two_products) m (a_below (i - 1) (omega arith)) (sym n) b_below h.bound (omega arith)));
        same = λ pos.
            let K = Fp p pos in
            let S = Series K in
            let F = over_field p pos f in
            let B = over_field p pos b in
            let T = over_field p pos (drop i a) in
            let x = const K (rem p pos (word a (i - 1))) in
            let L = lin K K.𝟘 in
            modulo-trans K F (modulo-refl K F (ap (λ y. S.mul y B) (split pos) ∙ horner-identity S x L T B))
            (modulo-trans K F
            (modulo-add K F (modulo-mul K F (pol-poly p pos f) (poly-lin K K.𝟘) (pol-poly p pos e) (modulo-refl K F refl) (h.same pos)) (modulo-refl K F refl))
            (modulo-trans K F (turned-modulo p pos f (word a (i - 1)) b e m (sym n)) (modulo-refl K F (ap (over_field p pos) (sym q)))));
      }
    where
      size : 1 + (length a - i) * two_products + two_products ≡ 1 + (length a - (i - 1)) * two_products
      size = omega arith

      split : (pos : zero < p) → let K = Fp p pos in
          over_field p pos (drop (i - 1) a) ≡ (Series K).add (const K (rem p pos (word a (i - 1)))) ((Series K).mul (lin K K.𝟘) (over_field p pos (drop i a)))
      split pos =
          let K = Fp p pos in
          sym (head_tail K (over_field p pos (drop (i - 1) a)))
          ∙ ap₂ (λ y t. (Series K).add (const K (rem p pos y)) ((Series K).mul (lin K K.𝟘) t))
          (get_or-drop (i - 1) a 0 0 ∙ ap (word a) (let z : i - 1 + 0 ≡ i - 1 = omega arith in z))
          (fun_ext (λ j. ap (rem p pos) (get_or-drop (i - 1) a (suc j) 0 ∙ ap (word a) (let z : i - 1 + suc j ≡ i + j = omega arith in z) ∙ sym (get_or-drop i a j 0))))

remainder-reduce : (p : ℕ) (f : List ℕ) (g : (pos : zero < p) → ℕ → Fin p) (e out : List ℕ) → 1 ≤ p → Congruent p f g e
    → out ≡ tabulate (length e) (λ j. word e j % p) → Remainder p f g out
remainder-reduce p f g e out one h q = record {
  below = subst (AllBelow p) (sym q) (tabulate-below p (length e) _ (λ k l. mod-lt (word e k) one));
  congruent = record {
    long = h.long ∙ ap (λ n. n + 1) (sym long);
    same = λ pos. modulo-trans (Fp p pos) (over_field p pos f) (h.same pos) (modulo-refl (Fp p pos) (over_field p pos f) (fun_ext (at pos)));
  };
}
  where
    long : length out ≡ length e
    long = ap length q ∙ length-tabulate (length e) _

    at : (pos : zero < p) (j : ℕ) → over_field p pos e j ≡ over_field p pos out j
    at pos j =
        ⊎_elim (λ (l : j < length e). sym (ap (λ x. rem p pos (word x j)) q ∙ ap (rem p pos) (word-tabulate (length e) _ j l) ∙ rem-mod p pos (word e j)))
        (λ (l : length e ≤ j). below-pol p pos e j l ∙ sym (below-pol p pos out j (omega (arith, long)))) (lt-or-ge j (length e))

-- the array that sums are added up in, where it begins
abbrev pub room : List ℕ
room = 0 ∷ 0 ∷ 0 ∷ 0 ∷ 0 ∷ 0 ∷ 0 ∷ 0 ∷ 0 ∷ 0 ∷ 0 ∷ 0 ∷ 0 ∷ 0 ∷ 0 ∷ 0 ∷ 0 ∷ 0 ∷ 0 ∷ 0 ∷ 0 ∷ 0 ∷ 0 ∷ 0 ∷ 0 ∷ 0 ∷ 0 ∷ 0 ∷ 0 ∷ 0 ∷ 0 ∷ 0 ∷ []

pub room-long : (d : ℕ) → d ≤ largest_degree → length (take d room) ≡ d
room-long d few = length-take-le d room few

pub room-empty : (d : ℕ) → d ≤ largest_degree → AllBelow 1 (take d room)
unfolding first_large
room-empty d few = take_below 1 d room few (none-large 1 room (let e : first_large 1 room ≡ 32 = refl in omega arith))

-- the sums as they are lent again
module _ {p d : ℕ} {f : List ℕ} {g : (pos : zero < p) → ℕ → Fin p} {e : List ℕ} (m : ModulusOf p f d) (h : Congruent p f g e) where
  pub sums-long : length e ≡ d
  sums-long = omega (arith, m.long, h.long)

  pub sums-fit : d ≤ length (e ++ drop d room)
  sums-fit = omega (arith, length-append e (drop d room), sums-long)

  pub sums-lent : take d (e ++ drop d room) ≡ e
  sums-lent = take_at e (drop d room) d sums-long

  pub lent-long : length (take d (e ++ drop d room)) ≡ d
  lent-long = ap length sums-lent ∙ sums-long

  pub lent-reduce : (out : List ℕ) → out ≡ tabulate d (λ j. word (take d (e ++ drop d room)) j % p) → Remainder p f g out
  lent-reduce out q =
      remainder-reduce p f g e out m.positive h (q ∙ ap₂ (λ n (l : List ℕ). tabulate n (λ j. word l j % p)) (sym sums-long) sums-lent)

pub modulus-two : {p d : ℕ} {f : List ℕ} → ModulusOf p f d → 1 < p
modulus-two {d} m = omega (arith, m.below d (let n = m.long in omega arith), m.top)

-- the words of Y + c
line-words : (p c : ℕ) (pos : zero < p) (j : ℕ) → over_field p pos (c ∷ 1 ∷ []) j ≡ plus p c pos j
line-words p c pos zero = let K = Fp p pos in sym (lin-coeff-zero K _ ∙ neg-neg K _)
line-words p c pos (suc zero) = let K = Fp p pos in rem-one p pos ∙ sym (lin-coeff-suc K _ zero ∙ ap (λ y. y zero) (one_at K))
line-words p c pos (suc (suc j)) = let K = Fp p pos in rem-zero p pos ∙ sym (lin-coeff-suc K _ (suc j) ∙ ap (λ y. y (suc j)) (one_at K))

pub line-below : (p c : ℕ) → 1 < p → c < p → AllBelow p (c ∷ 1 ∷ [])
line-below p c two l zero _ = l
line-below p c two l (suc zero) _ = two
line-below p c two l (suc (suc k)) g = absurd (let z : ⊥ = omega arith in z)

pub line-product : (p : ℕ) (f : List ℕ) (c : ℕ) (s e : List ℕ) → Congruent p f (times p (words_of p (c ∷ 1 ∷ [])) (words_of p s)) e → Congruent p f (times p (plus p c) (words_of p s)) e
line-product p f c s e h = record {
  long = h.long;
  same = λ pos. subst (λ l. SameModulo (Fp p pos) (over_field p pos f) ((Series (Fp p pos)).mul l (over_field p pos s)) (over_field p pos e)) (fun_ext (line-words p c pos)) (h.same pos);
}

module _ (p : ℕ) (f : List ℕ) where
  pub remainder-same : (g g'' : (pos : zero < p) → ℕ → Fin p) (e : List ℕ) → ((pos : zero < p) → SameModulo (Fp p pos) (over_field p pos f) (g'' pos) (g pos))
      → Remainder p f g e → Remainder p f g'' e
  remainder-same g g'' e same h = record {
    below = h.below;
    congruent = record { long = h.congruent.long; same = λ pos. modulo-trans (Fp p pos) (over_field p pos f) (same pos) (h.congruent.same pos) };
  }

  pub product-same : (pos : zero < p) (g h : ℕ → Fin p) (e d : List ℕ) → SameModulo (Fp p pos) (over_field p pos f) g (over_field p pos e)
      → SameModulo (Fp p pos) (over_field p pos f) h (over_field p pos d)
      → SameModulo (Fp p pos) (over_field p pos f) ((Series (Fp p pos)).mul g h) ((Series (Fp p pos)).mul (over_field p pos e) (over_field p pos d))
  product-same pos g h e d = modulo-mul (Fp p pos) (over_field p pos f) (pol-poly p pos f) (pol-poly p pos e) (pol-poly p pos d)

  pub digit-none : (c one : ℕ) (s out : List ℕ) → one ≡ 0 → Remainder p f (times p (words_of p s) (words_of p s)) out
      → Remainder p f (times p (power p (plus p c) one) (times p (words_of p s) (words_of p s))) out
  digit-none c one s out z =
      remainder-same (times p (words_of p s) (words_of p s)) (times p (power p (plus p c) one) (times p (words_of p s) (words_of p s))) out
      (λ pos. let S = Series (Fp p pos) in
      modulo-refl (Fp p pos) (over_field p pos f)
      (ap (λ x. S.mul x (times p (words_of p s) (words_of p s) pos)) (ap (pow S (plus p c pos)) z ∙ pow-zero S (plus p c pos)) ∙ one-mul S _))

  pub digit-one : (c one : ℕ) (s e out : List ℕ) → one ≡ 1 → Remainder p f (times p (words_of p s) (words_of p s)) e → Remainder p f (times p (plus p c) (words_of p e)) out
      → Remainder p f (times p (power p (plus p c) one) (times p (words_of p s) (words_of p s))) out
  digit-one c one s e out z h =
      remainder-same (times p (plus p c) (words_of p e)) (times p (power p (plus p c) one) (times p (words_of p s) (words_of p s))) out
      (λ pos. let K = Fp p pos in let S = Series K in let F = over_field p pos f in
      modulo-trans K F (modulo-refl K F (ap (λ x. S.mul x (times p (words_of p s) (words_of p s) pos)) (ap (pow S (plus p c pos)) z ∙ pow-first S (plus p c pos))))
      (modulo-mul K F (pol-poly p pos f) (poly-lin K _) (pol-poly p pos e) (modulo-refl K F refl) (h.congruent.same pos)))

-- the words 1, 0, 0, ..
module _ (p : ℕ) (d : ℕ) (some : 1 ≤ d) where
  late : (j : ℕ) → word (tabulate d (first_only 1)) (suc j) ≡ 0
  late j =
      ⊎_elim (λ (g : suc j < d). word-tabulate d (first_only 1) (suc j) g)
      (λ (g : d ≤ suc j). get_or-eq_default (tabulate d (first_only 1)) 0 (omega (arith, length-tabulate d (first_only 1)))) (lt-or-ge (suc j) d)

  one-words : (pos : zero < p) → over_field p pos (tabulate d (first_only 1)) ≡ (Series (Fp p pos)).𝟙
  one-words pos =
      fun_ext (elim [ zero ↦ ap (rem p pos) (word-tabulate d (first_only 1) 0 some) ∙ rem-one p pos | suc j ↦ ap (rem p pos) (late j) ∙ rem-zero p pos ])
      ∙ sym (one_at (Fp p pos))

  pub one_below : (out : List ℕ) → 2 ≤ p → out ≡ tabulate d (first_only 1) → AllBelow p out
  one_below out two q = subst (AllBelow p) (sym q) (tabulate-below p d (first_only 1) (λ k _. low k))
    where
      low : (k : ℕ) → first_only 1 k < p
      low zero = two
      low (suc k) = omega arith

  pub line-is : (f e out : List ℕ) (g : (pos : zero < p) → ℕ → Fin p) → e ≡ tabulate d (first_only 1) → Remainder p f (times p g (words_of p e)) out → Remainder p f g out
  line-is f e out g q =
      remainder-same p f (times p g (words_of p e)) g out
      (λ pos. let S = Series (Fp p pos) in
      modulo-refl (Fp p pos) (over_field p pos f) (sym (ap (S.mul (g pos)) (ap (over_field p pos) q ∙ one-words pos) ∙ mul-one S (g pos))))

pub record Powering (p : ℕ) (f : List ℕ) (c n bit : ℕ) (out : List ℕ) : Type 0 where
  pub two : PowerOfTwo bit
  pub remainder : Remainder p f (power p (plus p c) (n / bit)) out

module _ (p : ℕ) (f : List ℕ) (c n : ℕ) where
  pub powering-none : (bit : ℕ) (out : List ℕ) (d : ℕ) → PowerOfTwo bit → n < bit → 2 ≤ p → 1 ≤ d → length f ≡ d + 1 → out ≡ tabulate d (first_only 1) → Powering p f c n bit out
  powering-none bit out d b above two some l q = record {
    two = b;
    remainder = record {
      below = one_below p d some out two q;
      congruent = record {
        long = l ∙ ap (λ n. n + 1) (sym (ap length q ∙ length-tabulate d _));
        same = λ pos. modulo-refl (Fp p pos) (over_field p pos f)
            (ap (pow (Series (Fp p pos)) (plus p c pos)) (div-eq_of_lt above) ∙ pow-zero (Series (Fp p pos)) (plus p c pos)
            ∙ sym (ap (over_field p pos) q ∙ one-words p d some pos));
      };
    };
  }

  module _ (bit : ℕ) (out : List ℕ) (h : Powering p f c n bit out) (more : 1 < bit) where
    -- the next place
    half : (i : ℕ) → bit ≡ two_to i → PowerOfTwo (bit / 2) × (bit ≡ bit / 2 * 2)
    unfolding two_to
    half zero e = absurd (let z : ⊥ = omega arith in z)
    half (suc k) e = ((k, omega arith), omega arith)

    digits : n / (bit / 2) ≡ n / (bit / 2) % 2 + (n / bit + n / bit)
    digits =
        let e : n / (bit / 2) / 2 ≡ n / bit = div-div-eq-div-mul n (bit / 2) 2 ∙ ap (λ b. n / b) (sym (half h.two.0 h.two.1).1) in
        let s = div-add-mod' (n / (bit / 2)) 2 in
        omega arith

    pub powering-step : (out' : List ℕ) → Remainder p f (times p (power p (plus p c) (n / (bit / 2) % 2)) (times p (words_of p out) (words_of p out))) out'
        → Powering p f c n (bit / 2) out'
    powering-step out' r =
        record {
          two = (half h.two.0 h.two.1).0;
          remainder = remainder-same p f _ (power p (plus p c) (n / (bit / 2))) out' (λ pos.
              let K = Fp p pos in
              let S = Series K in
              let F = over_field p pos f in
              let L = plus p c pos in
              let m = n / bit in
              let d = n / (bit / 2) % 2 in
              let O = over_field p pos out in
              modulo-trans K F (modulo-refl K F (ap (pow S L) digits ∙ pow-add S L d (m + m) ∙ ap (S.mul (pow S L d)) (pow-add S L m m)))
              (modulo-mul K F (pol-poly p pos f) (poly-pow K (poly-lin K _) d) (poly-mul K {a = O} {b = O} (pol-poly p pos out) (pol-poly p pos out))
              (modulo-refl K F refl)
              (product-same p f pos _ _ out out (h.remainder.congruent.same pos) (h.remainder.congruent.same pos)))) r;
        }
