-- How often Y − c divides a polynomial: the multiplicity and the cofactor are determined, and over a ring with decided equality they exist.
--   Order n b    b as (Y − c)^order · cofactor, where the cofactor is not 0 at c; n is a degree bound
-- Assumes nothing.
use Prim.Native.Nat.{ℕ, zero, suc, ◌+◌ as ◌+ₙ◌}
use native.Mathlib.Omega.{arith}
use mathlib.Core.Path.{◌≡◌, refl, sym, ◌∙◌, ap}
use mathlib.Core.Logic.{◌≢◌}
use Rattle.algebra.specs.internal.Ring.{CommRing, zero-add, mul_assoc, one-mul, mul-zero, zero-mul}
use Rattle.algebra.proofs.RingLaws.{IsField, pow-zero, pow-suc, pow-zero-mul, pow-suc-mul}
use Rattle.algebra.specs.internal.Series.{Series}
use Rattle.algebra.specs.internal.Poly.{lin, lin_pow}
use Rattle.algebra.proofs.PolyLaws.{const-zero, Below, Poly, below-zero, below_more, poly-mul, poly-pow, poly-lin, eval, quot, div, quot_below, quot-poly, div-unique-poly, lin-cancel, eval-bound}

module _ {R : Type 0} (𝓡 : CommRing R) (c : R) where
  open 𝓡 use {𝟘, 𝟙, mul as ◌*◌}
  open Series 𝓡 use {𝟘 as 𝟘ₛ, mul as ◌⊛◌}

  infixl 70 ◌*◌
  infixl 70 ◌⊛◌
  abbrev L : ℕ → R
  L = lin 𝓡 c

  -- what is a unit at c is not divisible by Y − c
  not-divisible : 𝟘 ≢ 𝟙 → (k : ℕ) (A : ℕ → R) → Below 𝓡 k A → (w : R) → eval 𝓡 c k A * w ≡ 𝟙 → (g : ℕ → R) → Poly 𝓡 g → A ≡ L ⊛ g → ⊥
  not-divisible ne k A bA w unit g hg e =
      let r0 = (div-unique-poly 𝓡 c (eval 𝓡 c k A) 𝟘 (quot 𝓡 c k A) g (quot-poly 𝓡 c k A (k, bA)) hg (sym (div 𝓡 c k A bA) ∙ e ∙ simp (const-zero, zero-add))).0 in
      ne (cc (zero-mul 𝓡 w))

  -- two ways to write f as (Y − c)^m · A with A(c) a unit are one
  pub multiplicity : 𝟘 ≢ 𝟙 → (m m' k : ℕ) (A A' : ℕ → R) → Below 𝓡 k A → Below 𝓡 k A' → (w w' : R) → eval 𝓡 c k A * w ≡ 𝟙 → eval 𝓡 c k A' * w' ≡ 𝟙
      → lin_pow 𝓡 c m ⊛ A ≡ lin_pow 𝓡 c m' ⊛ A' → (m ≡ m') × (A ≡ A')
  multiplicity ne zero zero k A A' h h' w w' u u' e = (refl, simp (pow-zero, one-mul) at e)
  multiplicity ne zero (suc m') k A A' h h' w w' u u' e =
      absurd (not-divisible ne k A h w u (lin_pow 𝓡 c m' ⊛ A') (poly-mul 𝓡 (poly-pow 𝓡 (poly-lin 𝓡 c) m') (k, h')) (simp (pow-zero, pow-suc, mul_assoc, one-mul) at e))
  multiplicity ne (suc m) zero k A A' h h' w w' u u' e =
      absurd (not-divisible ne k A' h' w' u' (lin_pow 𝓡 c m ⊛ A) (poly-mul 𝓡 (poly-pow 𝓡 (poly-lin 𝓡 c) m) (k, h)) (simp (pow-zero, pow-suc, mul_assoc, one-mul) at (sym e)))
  multiplicity ne (suc m) (suc m') k A A' h h' w w' u u' e =
      let r = multiplicity ne m m' k A A' h h' w w' u u'
      (lin-cancel 𝓡 c _ _ (poly-mul 𝓡 (poly-pow 𝓡 (poly-lin 𝓡 c) m) (k, h)) (poly-mul 𝓡 (poly-pow 𝓡 (poly-lin 𝓡 c) m') (k, h')) (simp (pow-suc, mul_assoc) at e)) in
      (ap suc r.0, r.1)

  -- over a field, where each of the two has its own degree bound
  module _ (field : IsField 𝓡) where
    pub multiplicity-field : (m m' k k' : ℕ) (A A' : ℕ → R) → Below 𝓡 k A → Below 𝓡 k' A' → eval 𝓡 c k A ≢ 𝟘 → eval 𝓡 c k' A' ≢ 𝟘
        → lin_pow 𝓡 c m ⊛ A ≡ lin_pow 𝓡 c m' ⊛ A' → (m ≡ m') × (A ≡ A')
    multiplicity-field m m' k k' A A' h h' ne ne' e =
        let n = k +ₙ k' in
        let g : Below 𝓡 n A = below_more 𝓡 (omega arith) h in
        let g'' : Below 𝓡 n A' = below_more 𝓡 (omega arith) h' in
        let (w, u) = field.inverse (eval 𝓡 c n A) (λ z. ne (eval-bound 𝓡 c k n A h g ∙ z)) in
        let (w', u') = field.inverse (eval 𝓡 c n A') (λ z. ne' (eval-bound 𝓡 c k' n A' h' g'' ∙ z)) in
        multiplicity field.nontrivial m m' n A A' g g'' w w' u u' e

  -- over a ring with decided equality a polynomial that is not 0 has a multiplicity
  pub record Order (n : ℕ) (b : ℕ → R) : Type 0 where
    pub order : ℕ
    pub cofactor : ℕ → R
    pub bound : Below 𝓡 n cofactor
    pub value : eval 𝓡 c n cofactor ≢ 𝟘
    pub product : b ≡ lin_pow 𝓡 c order ⊛ cofactor

  order-more : (n : ℕ) (b q : ℕ → R) → b ≡ L ⊛ q → Order n q → Order (suc n) b
  order-more n b q d o =
      let g : Below 𝓡 (suc n) o.cofactor = below_more 𝓡 (omega arith) o.bound in
      record {
        order = suc o.order;
        cofactor = o.cofactor;
        bound = g;
        value = λ e. o.value (eval-bound 𝓡 c n (suc n) o.cofactor o.bound g ∙ e);
        product = d ∙ ap (λ x. L ⊛ x) o.product ∙ sym (pow-suc-mul (Series 𝓡) L o.order o.cofactor);
      }

  order-step : (n : ℕ) (b : ℕ → R) → Below 𝓡 (suc n) b → b ≢ 𝟘ₛ → ((q : ℕ → R) → Below 𝓡 n q → q ≢ 𝟘ₛ → Order n q) → Dec (eval 𝓡 c (suc n) b ≡ 𝟘) → Order (suc n) b
  order-step n b h ne rec (no z) = record { order = zero; cofactor = b; bound = h; value = z; product = sym (pow-zero-mul (Series 𝓡) L b) }
  order-step n b h ne rec (yes z) =
      let q = quot 𝓡 c (suc n) b in
      let d : b ≡ L ⊛ q = div 𝓡 c (suc n) b h ∙ simp (z, const-zero, zero-add) in
      order-more n b q d (rec q (quot_below 𝓡 c (suc n) n b h) (λ e. ne (d ∙ ap (λ x. L ⊛ x) e ∙ mul-zero (Series 𝓡) L)))

  pub order-exists : Discrete R → (n : ℕ) (b : ℕ → R) → Below 𝓡 n b → b ≢ 𝟘ₛ → Order n b
  order-exists dec zero b h ne = absurd (ne (below-zero 𝓡 h))
  order-exists dec (suc n) b h ne = order-step n b h ne (order-exists dec n) (dec (eval 𝓡 c (suc n) b) 𝟘)

  pub order-unique : IsField 𝓡 → (n n' : ℕ) (b : ℕ → R) (o : Order n b) (o' : Order n' b) → (o.order ≡ o'.order) × (o.cofactor ≡ o'.cofactor)
  order-unique field n n' b o o' =
      multiplicity-field field o.order o'.order n n' o.cofactor o'.cofactor o.bound o'.bound o.value o'.value (sym o.product ∙ o'.product)
