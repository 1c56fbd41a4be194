-- The split: each polynomial E is (Y − c)^m · B + P · A for exactly one pair (P, B) with deg P < m, where A(c) is a unit.
--   split k A w m E         the pair, found by m divisions by Y − c; w is the inverse of A(c), k a degree bound of A
--   IsSplit .. m E P B      (P, B) is such a pair, and B keeps the degree bound of A
-- Assumes nothing.
use Prim.Native.Nat.{ℕ, zero, suc, ◌+◌ as ◌+ₙ◌}
use native.Mathlib.Omega.{arith}
use mathlib.Core.Path.{◌≡◌, sym, ◌∙◌, ap, ap₂}
use Rattle.algebra.specs.internal.Ring.{CommRing, ring, units, add_assoc, add-zero, zero-add, mul_assoc, mul-one, zero-mul, neg-add, add-cancel-right}
use Rattle.algebra.proofs.RingLaws.{minus, eq-of-sub, expand, pow-zero, pow-suc}
use Rattle.algebra.specs.internal.Series.{Series}
use Rattle.algebra.specs.internal.Poly.{const, lin, lin_pow}
use Rattle.algebra.proofs.PolyLaws.{const-const, const-zero, Below, Poly, below-zero, below-add, below-neg, below-const, below_more, below-𝟘, below-lin-mul, below-scale, poly-add, poly-neg, poly-mul, poly-pow, poly-lin, eval, quot, div, quot_below, div-unique-poly, lin_pow-cancel, product_value, product-poly}

-- the identities behind it, over ring variables
module _ {S : Type 0} (𝓢 : CommRing S) where
  open 𝓢 use {𝟘, 𝟙, add as ◌+◌, mul as ◌*◌, neg}

  infixl 65 ◌+◌
  infixl 70 ◌*◌
  combine : (l lm a'' p α a' p'' a q ε e : S) → a ≡ α + l * a' → p * α ≡ ε → lm * a'' + p'' * a ≡ q + neg (p * a') → e ≡ ε + l * q
      → l * lm * a'' + (p + l * p'') * a ≡ e
  combine l lm a'' p α a' p'' a q ε e ha hα ih he =
      ap (λ x. l * lm * a'' + x) (expand 𝓢 p α l a' p'' a ha)
      ∙ (simp ring)
      ∙ ap₂ (λ x y. x + l * (y + p * a')) hα ih
      ∙ (simp (add_assoc, neg-add, add-zero))
      ∙ sym he

  undo : (w x α : S) → α * w ≡ 𝟙 → w * x * α ≡ x
  undo w x α u = (simp ring) ∙ ap (λ y. x * y) u ∙ mul-one 𝓢 x

  move : (lm a₁ a₂ p p' a : S) → lm * a₁ + p * a ≡ lm * a₂ + p' * a → (p + neg p') * a ≡ lm * (a₂ + neg a₁)
  move lm a₁ a₂ p p' a e = add-cancel-right 𝓢 (p' * a + lm * a₁) ((simp (ring, minus)) ∙ e ∙ simp (ring, minus))

module _ {R : Type 0} (𝓡 : CommRing R) (c : R) where
  open 𝓡 use {𝟘, 𝟙, add as ◌+◌, mul as ◌*◌, neg}
  open Series 𝓡 use {𝟘 as 𝟘ₛ, 𝟙 as 𝟙ₛ, add as ◌⊕◌, mul as ◌⊛◌, neg as ⊖}

  infixl 65 ◌+◌
  infixl 70 ◌*◌
  infixl 65 ◌⊕◌
  infixl 70 ◌⊛◌
  abbrev L : ℕ → R
  L = lin 𝓡 c

  abbrev K : R → ℕ → R
  K = const 𝓡

  unfoldable pub split : (k : ℕ) (A : ℕ → R) (w : R) → ℕ → (ℕ → R) → record { low : ℕ → R; high : ℕ → R }
  split k A w zero E = record { low = 𝟘ₛ; high = E }
  split k A w (suc m) E =
      let n = suc m +ₙ k in
      let p = w * eval 𝓡 c n E in
      let s = split k A w m (quot 𝓡 c n E ⊕ ⊖ (K p ⊛ quot 𝓡 c k A)) in
      record { low = K p ⊕ L ⊛ s.low; high = s.high }

  module _ (k : ℕ) (A : ℕ → R) (bA : Below 𝓡 k A) where
    abbrev α : R
    α = eval 𝓡 c k A

    abbrev A' : ℕ → R
    A' = quot 𝓡 c k A

    -- A(c) is a unit
    module _ (w : R) (unit : α * w ≡ 𝟙) where
      unit-cancel : (r : R) → r * α ≡ 𝟘 → r ≡ 𝟘
      unit-cancel r e = cc (mul-one 𝓡 r, unit, mul_assoc 𝓡 r α w, zero-mul 𝓡 w)

      step : (r : R) (q g : ℕ → R) → Poly 𝓡 q → Poly 𝓡 g → (K r ⊕ L ⊛ q) ⊛ A ≡ L ⊛ g → (r ≡ 𝟘) × (q ⊛ A ≡ g)
      step r q g hq hg e =
          let u = div-unique-poly 𝓡 c (r * α) 𝟘 (K r ⊛ A' ⊕ q ⊛ A) g
          (product-poly 𝓡 c k A bA r q hq) hg
          (sym (product_value 𝓡 c k A bA r q) ∙ e ∙ simp (const-zero, zero-add)) in
          let r0 : r ≡ 𝟘 = unit-cancel r u.0 in
          (r0, simp (r0, const-zero, units) at u.1)

      -- b of degree below m such that L^m divides b A is 0
      pub coprime : (m : ℕ) (b e : ℕ → R) → Below 𝓡 m b → Poly 𝓡 e → b ⊛ A ≡ lin_pow 𝓡 c m ⊛ e → b ≡ 𝟘ₛ
      coprime zero b e h he eq = below-zero 𝓡 h
      coprime (suc m) b e h he eq =
          let r = eval 𝓡 c (suc m) b in
          let q = quot 𝓡 c (suc m) b in
          let d : b ≡ K r ⊕ L ⊛ q = div 𝓡 c (suc m) b h in
          let bq : Below 𝓡 m q = quot_below 𝓡 c (suc m) m b h in
          let s = step r q (lin_pow 𝓡 c m ⊛ e) (m, bq) (poly-mul 𝓡 (poly-pow 𝓡 (poly-lin 𝓡 c) m) he)
          (ap (λ x. x ⊛ A) (sym d) ∙ eq ∙ simp (pow-suc, mul_assoc)) in
          d ∙ simp (s.0, coprime m q e bq he s.1, const-zero, units)

      -- the two parts are determined
      pub split-unique : (m : ℕ) (P P' B B' : ℕ → R) → Below 𝓡 m P → Below 𝓡 m P' → Poly 𝓡 B → Poly 𝓡 B'
          → lin_pow 𝓡 c m ⊛ B ⊕ P ⊛ A ≡ lin_pow 𝓡 c m ⊛ B' ⊕ P' ⊛ A → (P ≡ P') × (B ≡ B')
      split-unique m P P' B B' hP hP' hB hB' e =
          let d : P ≡ P' = eq-of-sub (Series 𝓡) (coprime m (P ⊕ ⊖ P') (B' ⊕ ⊖ B) (below-add 𝓡 hP (below-neg 𝓡 hP')) (poly-add 𝓡 hB' (poly-neg 𝓡 hB))
          (move (Series 𝓡) (lin_pow 𝓡 c m) B B' P P' A e)) in
          (d, lin_pow-cancel 𝓡 c m B B' hB hB' (add-cancel-right (Series 𝓡) (P' ⊛ A) (ap (λ x. lin_pow 𝓡 c m ⊛ B ⊕ x ⊛ A) (sym d) ∙ e)))

      pub record IsSplit (m : ℕ) (E P B : ℕ → R) : Type 0 where
        pub low : Below 𝓡 m P
        pub high : Below 𝓡 k B
        pub sum : lin_pow 𝓡 c m ⊛ B ⊕ P ⊛ A ≡ E

      pub split-is : (m : ℕ) (E : ℕ → R) → Below 𝓡 (m +ₙ k) E → IsSplit m E (split k A w m E).low (split k A w m E).high
      unfolding split
      split-is zero E h = record { low = below-𝟘 𝓡; high = λ j l. h j (omega arith); sum = simp (pow-zero, units) }
      split-is (suc m) E h =
          let n = suc m +ₙ k in
          let p = w * eval 𝓡 c n E in
          let q = quot 𝓡 c n E in
          let s = split-is m (q ⊕ ⊖ (K p ⊛ A'))
          (below-add 𝓡 (quot_below 𝓡 c n (m +ₙ k) E (λ j l. h j (omega arith)))
          (below-neg 𝓡 (below-scale 𝓡 p (below_more 𝓡 (omega arith) (quot_below 𝓡 c k k A (below_more 𝓡 (omega arith) bA)))))) in
          record {
            low = below-add 𝓡 (below_more 𝓡 (omega arith) (below-const 𝓡 p)) (below-lin-mul 𝓡 c s.low);
            high = s.high;
            sum = rw pow-suc (combine (Series 𝓡) L (lin_pow 𝓡 c m) _ (K p) (K α) A' _ A q (K (eval 𝓡 c n E)) E (div 𝓡 c k A bA)
                (const-const 𝓡 p α ∙ ap K (undo 𝓡 w (eval 𝓡 c n E) α unit)) s.sum (div 𝓡 c n E h));
          }
