-- The quotient is what its name says: modulo a prime, quotient p n f g is the one series of n words whose product with g is f.
-- Assumes nothing.
use mathlib.Core.Path.{◌≡◌, sym, ap, ◌∙◌}
use mathlib.Core.List.{List}
use Prim.Native.Nat.{ℕ, zero, ◌+◌, ◌-◌, ◌*◌, ◌%◌, ◌≤◌, ◌<◌, Fin}
use native.Mathlib.Nat.{mod-eq_of_lt, mod-lt, sub-zero, pos_of_ne-zero, mul_comm as mul-commₙ}
use native.Mathlib.Numerals.{add-one}
use native.Mathlib.Omega.{arith}
use lib.ListN.{length}
use lib.Seq.{ext_get_or}
use Rattle.algebra.specs.Sums.{sum_to}
use Rattle.algebra.proofs.SumsLaws.{sum_to-front}
use Rattle.algebra.specs.internal.Ring.{CommRing, ring, one-mul}
use Rattle.algebra.proofs.RingLaws.{minus}
use Rattle.algebra.specs.internal.Series.{conv-comm}
use Rattle.algebra.specs.Prime.{Prime}
use Rattle.algebra.specs.internal.Fp.{Fp, rem}
use Rattle.algebra.proofs.FpLaws.{Fp-field, p-pos, rem-add, rem-mul, rem-mod, rem-val}
use Rattle.algebra.proofs.BridgeLaws.{rem-eq, same-rem, rem-zero, rem-one, sub-rem, conv-rem}
use Rattle.numbers.specs.Words.{word}
use Rattle.numbers.specs.internal.Facts.{AllBelow}
use Rattle.numbers.specs.Divisor.{inverse_of}
use Rattle.numbers.proofs.DivisorLaws.{inverse-is}
use Rattle.series.specs.Series.{product_column, quotient_column, quotient}
use Rattle.series.proofs.SeriesLaws.{word_below, length-quotient, word-quotient, columns-agree}

-- the product of series is commutative
pub product-comm : (p : ℕ) → 1 ≤ p → (g h : List ℕ) (t : ℕ) → product_column p g h t ≡ product_column p h g t
unfolding product_column
product-comm p pos g h t =
    rw add-one
    ((rem-eq p pos _ _).0
    (conv-rem p pos (word g) (word h) t ∙ conv-comm (Fp p pos) (λ i. rem p pos (word g i)) (λ i. rem p pos (word h i)) t ∙ sym (conv-rem p pos (word h) (word g) t)))

-- a column of the product with g, its summand with g_0 taken off
product-front : (p : ℕ) → 1 ≤ p → (h g : List ℕ) (t : ℕ)
    → product_column p h g t ≡ (word g 0 * word h t + sum_to t (λ i. word g (i + 1) * word h (t - (i + 1)))) % p
unfolding product_column
product-front p pos h g t =
    product-comm p pos h g t
    ∙ rw add-one (ap (λ (x : ℕ). x % p) (sum_to-front t (λ i. word g i * word h (t - i))
    ∙ simp (add-one, sub-zero)))

-- in a ring: where a has the inverse i, a · x + s = v has the one solution x = (v − s) · i
module _ {R : Type 0} (𝓡 : CommRing R) where
  open 𝓡 use {𝟙, add as ◌⊕◌, mul as ◌⊛◌, neg}

  infixl 65 ◌⊕◌
  infixl 70 ◌⊛◌
  solves : (a i s v : R) → a ⊛ i ≡ 𝟙 → a ⊛ ((v ⊕ neg s) ⊛ i) ⊕ s ≡ v
  solves a i s v e =
      let r : a ⊛ ((v ⊕ neg s) ⊛ i) ≡ a ⊛ i ⊛ (v ⊕ neg s) = simp (ring, 𝓡) in
      rw (r, e, one-mul 𝓡 (v ⊕ neg s)) (simp (ring, minus, 𝓡))

  solved : (a i s v x : R) → a ⊛ i ≡ 𝟙 → a ⊛ x ⊕ s ≡ v → x ≡ (v ⊕ neg s) ⊛ i
  solved a i s v x e h =
      let r : (a ⊛ x ⊕ s ⊕ neg s) ⊛ i ≡ a ⊛ i ⊛ x = simp (ring, minus, 𝓡) in
      sym (rw (← h) (r ∙ ap (λ y. y ⊛ x) e ∙ one-mul 𝓡 x))

module _ {p : ℕ} (prime : Prime p) where
  abbrev pos : zero < p
  pos = p-pos prime

  abbrev K : CommRing (Fin p)
  K = Fp p pos

  abbrev q : ℕ → Fin p
  q = rem p pos

  -- the inverse modulo p, found by search, is one
  pub inverse-law : (a : ℕ) → 1 ≤ a → a < p → (a * inverse_of p a % p ≡ 1) × (inverse_of p a < p)
  inverse-law a lo hi =
      let (x, e) = (Fp-field prime).inverse (q a) (λ z. let w : a ≡ 0 = same-rem p pos hi pos (z ∙ sym (rem-zero p pos)) in omega arith) in
      let one : a * x.0 % p ≡ 1 =
      (rem-eq p pos (a * x.0) 1).0 (sym (rem-mul p pos a x.0) ∙ ap (K.mul (q a)) (rem-val p pos x) ∙ e ∙ sym (rem-one p pos)) ∙ mod-eq_of_lt prime.two-le in
      let is : inverse_of p a ≡ x.0 = inverse-is p a x.0 x.1 (ap (λ (j : ℕ). j % p) (mul-commₙ x.0 a) ∙ one) in
      rw is (one, x.1)

  -- what quotient_column computes of v, s and the inverse i, in F_p
  column-rem : (v s i : ℕ) → q ((v + (p - s % p)) * i % p) ≡ K.mul (K.add (q v) (K.neg (q s))) (q i)
  column-rem v s i =
      rem-mod p pos ((v + (p - s % p)) * i) ∙ sym (rem-mul p pos (v + (p - s % p)) i) ∙ ap (λ y. K.mul y (q i)) (sub-rem p pos v s)

  -- and what a column of the product with g is
  front-rem : (a x s : ℕ) → q (a * x + s) ≡ K.add (K.mul (q a) (q x)) (q s)
  front-rem a x s = sym (rem-add p pos (a * x) s) ∙ ap (λ y. K.add y (q s)) (sym (rem-mul p pos a x))

  module _ (f g : List ℕ) (f-below : AllBelow p f) (g-below : AllBelow p g) (unit : word g 0 ≡ 0 → ⊥) where
    inverse-rem : K.mul (q (word g 0)) (q (inverse_of p (word g 0))) ≡ K.𝟙
    inverse-rem =
        let l = inverse-law (word g 0) (pos_of_ne-zero unit) (word_below p g pos g-below 0) in
        rem-mul p pos (word g 0) (inverse_of p (word g 0)) ∙ (rem-eq p pos _ 1).1 (l.0 ∙ sym (mod-eq_of_lt prime.two-le)) ∙ rem-one p pos

    -- a list whose words are the columns over itself has the product f with g
    column-product : (h : List ℕ) (t : ℕ) → word h t ≡ quotient_column p f g h t → product_column p h g t ≡ word f t
    unfolding quotient_column
    column-product h t e =
        let a = word g 0 in
        let s = sum_to t (λ i. word g (i + 1) * word h (t - (i + 1))) in
        product-front p pos h g t
        ∙ (rem-eq p pos (a * word h t + s) (word f t)).0
        (front-rem a (word h t) s
        ∙ ap (λ x. K.add (K.mul (q a) x) (q s)) (ap q e ∙ column-rem (word f t) s (inverse_of p a))
        ∙ solves K (q a) (q (inverse_of p a)) (q s) (q (word f t)) inverse-rem)
        ∙ mod-eq_of_lt (word_below p f pos f-below t)

    -- and the other way round
    product-column : (h : List ℕ) (t : ℕ) → AllBelow p h → product_column p h g t ≡ word f t → word h t ≡ quotient_column p f g h t
    unfolding quotient_column
    product-column h t b e =
        let a = word g 0 in
        let s = sum_to t (λ i. word g (i + 1) * word h (t - (i + 1))) in
        same-rem p pos (word_below p h pos b t) (mod-lt _ pos)
        (solved K (q a) (q (inverse_of p a)) (q s) (q (word f t)) (q (word h t)) inverse-rem
        (sym (front-rem a (word h t) s) ∙ sym (rem-mod p pos (a * word h t + s)) ∙ ap q (sym (product-front p pos h g t) ∙ e))
        ∙ sym (column-rem (word f t) s (inverse_of p a)))

    -- the product of f / g with g is f
    pub quotient-product : (n t : ℕ) → t < n → product_column p (quotient p n f g) g t ≡ word f t
    quotient-product n t l = column-product (quotient p n f g) t (word-quotient p n f g t l)

    -- and f / g is the only series with this product
    pub quotient-unique : (n : ℕ) (h : List ℕ) → length h ≡ n → AllBelow p h → ((t : ℕ) → t < n → product_column p h g t ≡ word f t) → h ≡ quotient p n f g
    quotient-unique n h long b e =
        ext_get_or 0 h (quotient p n f g) (long ∙ sym (length-quotient p n f g))
        (λ t l. columns-agree p f g h (quotient p n f g) n (λ i u. product-column h i b (e i u)) (word-quotient p n f g) t (omega arith))
