-- Sameness modulo a polynomial f, and what splitting says of the powers of Y^p − Y modulo f.
--   modulo-refl, modulo-sym, modulo-trans, modulo-add, modulo-neg, modulo-mul    it is an equivalence, and goes through sums, opposites and products
--   modulo-none       a multiple of a monic f that has a lower degree is 0
--   product-divides   a product of powers of lines, with the powers' sum D, divides (Y^p − Y)^D
--   split-test        so where f splits, the remainder of (Y^p − Y)^n modulo f is 0 for every n from D on
-- That f divides a is said as: a is the same as 0. Assumes nothing.
use Prim.Native.Nat.{ℕ, zero, suc, ◌+◌ as ◌+ₙ◌, ◌-◌, ◌≤◌, Fin}
use native.Mathlib.Omega.{arith}
use mathlib.Core.Path.{◌≡◌, refl, sym, ◌∙◌, ap, ap₂, subst}
use Rattle.algebra.specs.Sums.{sum_to}
use Rattle.algebra.specs.Prime.{Prime}
use Rattle.algebra.specs.internal.Ring.{CommRing, ring, add-zero, zero-add, mul-one, zero-mul, pow, prod}
use Rattle.algebra.specs.internal.Series.{Series}
use Rattle.algebra.specs.internal.Poly.{lin, lin_pow, SameModulo}
use Rattle.algebra.specs.internal.Fp.{Fp}
use Rattle.algebra.proofs.SumsLaws.{sum_to-zero, sum_to-front}
use Rattle.algebra.proofs.RingLaws.{minus, pow-zero, pow-suc, pow-add, prod-zero, prod-suc}
use Rattle.algebra.proofs.PolyLaws.{one-const, Below, Poly, below-zero, below-𝟘, below_last, top-mul, poly-add, poly-neg, poly-mul, poly-const, poly-pow}
use Rattle.algebra.proofs.FpLaws.{p-pos}
use Rattle.algebra.proofs.Fermat.{frob, frob-poly, line-divides}

-- the identities, over ring variables
module _ {S : Type 0} (𝓢 : CommRing S) where
  open 𝓢 use {𝟘, add as ◌+◌, mul as ◌*◌, neg}

  infixl 65 ◌+◌
  infixl 70 ◌*◌
  sym-identity : (b h f : S) → b ≡ b + h * f + neg h * f
  sym-identity b h f = simp (ring, minus)

  trans-identity : (c k h f : S) → c + k * f + h * f ≡ c + (k + h) * f
  trans-identity c k h f = simp ring

  add-identity : (b h c k f : S) → b + h * f + (c + k * f) ≡ b + c + (h + k) * f
  add-identity b h c k f = simp ring

  neg-identity : (b h f : S) → neg (b + h * f) ≡ neg b + neg h * f
  neg-identity b h f = simp (ring, minus)

  mul-identity : (b h c k f : S) → (b + h * f) * (c + k * f) ≡ b * c + (b * k + h * c + h * k * f) * f
  mul-identity b h c k f = simp ring

  divides-identity : (h f k g : S) → (𝟘 + h * f) * (𝟘 + k * g) ≡ 𝟘 + h * k * (f * g)
  divides-identity h f k g = simp (ring, minus)

  times-identity : (a h f : S) → a * (𝟘 + h * f) ≡ 𝟘 + a * h * f
  times-identity a h f = simp (ring, minus)

module _ {R : Type 0} (𝓡 : CommRing R) where
  open 𝓡 use {𝟘, 𝟙, mul as ◌*◌}
  open Series 𝓡 use {𝟘 as 𝟘ₛ, 𝟙 as 𝟙ₛ, add as ◌⊕◌, mul as ◌⊛◌, neg as ⊖}

  infixl 70 ◌*◌
  infixl 65 ◌⊕◌
  infixl 70 ◌⊛◌
  module _ (f : ℕ → R) where
    pub modulo-refl : {a b : ℕ → R} → a ≡ b → SameModulo 𝓡 f a b
    modulo-refl {b = b} e = record { quotient = 𝟘ₛ; bounded = (zero, below-𝟘 𝓡); same = e ∙ sym (ap (λ x. b ⊕ x) (zero-mul (Series 𝓡) f) ∙ add-zero (Series 𝓡) b) }

    pub modulo-sym : {a b : ℕ → R} → SameModulo 𝓡 f a b → SameModulo 𝓡 f b a
    modulo-sym {b = b} h = record {
      quotient = ⊖ h.quotient;
      bounded = poly-neg 𝓡 h.bounded;
      same = sym-identity (Series 𝓡) b h.quotient f ∙ ap (λ x. x ⊕ ⊖ h.quotient ⊛ f) (sym h.same);
    }

    pub modulo-trans : {a b c : ℕ → R} → SameModulo 𝓡 f a b → SameModulo 𝓡 f b c → SameModulo 𝓡 f a c
    modulo-trans {c = c} h g = record {
      quotient = g.quotient ⊕ h.quotient;
      bounded = poly-add 𝓡 g.bounded h.bounded;
      same = h.same ∙ ap (λ x. x ⊕ h.quotient ⊛ f) g.same ∙ trans-identity (Series 𝓡) c g.quotient h.quotient f;
    }

    pub modulo-add : {a b a' b' : ℕ → R} → SameModulo 𝓡 f a b → SameModulo 𝓡 f a' b' → SameModulo 𝓡 f (a ⊕ a') (b ⊕ b')
    modulo-add {b = b} {b' = b'} h g = record {
      quotient = h.quotient ⊕ g.quotient;
      bounded = poly-add 𝓡 h.bounded g.bounded;
      same = ap₂ ◌⊕◌ h.same g.same ∙ add-identity (Series 𝓡) b h.quotient b' g.quotient f;
    }

    pub modulo-neg : {a b : ℕ → R} → SameModulo 𝓡 f a b → SameModulo 𝓡 f (⊖ a) (⊖ b)
    modulo-neg {b = b} h = record {
      quotient = ⊖ h.quotient;
      bounded = poly-neg 𝓡 h.bounded;
      same = ap ⊖ h.same ∙ neg-identity (Series 𝓡) b h.quotient f;
    }

    pub modulo-mul : Poly 𝓡 f → {a b a' b' : ℕ → R} → Poly 𝓡 b → Poly 𝓡 b' → SameModulo 𝓡 f a b → SameModulo 𝓡 f a' b' → SameModulo 𝓡 f (a ⊛ a') (b ⊛ b')
    modulo-mul pf {b = b} {b' = b'} pb pb' h g = record {
      quotient = b ⊛ g.quotient ⊕ h.quotient ⊛ b' ⊕ h.quotient ⊛ g.quotient ⊛ f;
      bounded = poly-add 𝓡 (poly-add 𝓡 (poly-mul 𝓡 pb g.bounded) (poly-mul 𝓡 h.bounded pb')) (poly-mul 𝓡 (poly-mul 𝓡 h.bounded g.bounded) pf);
      same = ap₂ ◌⊛◌ h.same g.same ∙ mul-identity (Series 𝓡) b h.quotient b' g.quotient f;
    }

  -- a polynomial times a monic one of degree D has a degree below D only where it is 0
  factor-none : (D n : ℕ) (f h : ℕ → R) → Below 𝓡 (suc D) f → f D ≡ 𝟙 → Below 𝓡 n h → Below 𝓡 D (h ⊛ f) → h ≡ 𝟘ₛ
  factor-none D zero f h bf one bh b = below-zero 𝓡 bh
  factor-none D (suc n) f h bf one bh b =
      factor-none D n f h bf one (below_last 𝓡 bh
      (sym (mul-one 𝓡 (h n)) ∙ ap (λ x. h n * x) (sym one) ∙ sym (top-mul 𝓡 n D (n +ₙ D) h f refl bh bf) ∙ b (n +ₙ D) (omega arith))) b

  pub modulo-none : (D : ℕ) (f r : ℕ → R) → Below 𝓡 (suc D) f → f D ≡ 𝟙 → Below 𝓡 D r → SameModulo 𝓡 f r 𝟘ₛ → r ≡ 𝟘ₛ
  modulo-none D f r bf one br m =
      let e : r ≡ m.quotient ⊛ f = m.same ∙ zero-add (Series 𝓡) _ in
      e ∙ ap (λ x. x ⊛ f) (factor-none D m.bounded.0 f m.quotient bf one m.bounded.1 (subst (Below 𝓡 D) e br)) ∙ zero-mul (Series 𝓡) f

  divides-one : (f a : ℕ → R) → f ≡ 𝟙ₛ → a ≡ 𝟙ₛ → SameModulo 𝓡 f a 𝟘ₛ
  divides-one f a e e' = record {
    quotient = 𝟙ₛ;
    bounded = subst (Poly 𝓡) (sym (one-const 𝓡)) (poly-const 𝓡 𝟙);
    same = e' ∙ sym (zero-add (Series 𝓡) (𝟙ₛ ⊛ f) ∙ ap (λ x. 𝟙ₛ ⊛ x) e ∙ mul-one (Series 𝓡) 𝟙ₛ);
  }

  divides-mul : (f g : ℕ → R) {a b : ℕ → R} → SameModulo 𝓡 f a 𝟘ₛ → SameModulo 𝓡 g b 𝟘ₛ → SameModulo 𝓡 (f ⊛ g) (a ⊛ b) 𝟘ₛ
  divides-mul f g m n = record {
    quotient = m.quotient ⊛ n.quotient;
    bounded = poly-mul 𝓡 m.bounded n.bounded;
    same = ap₂ ◌⊛◌ m.same n.same ∙ divides-identity (Series 𝓡) m.quotient f n.quotient g;
  }

  -- a polynomial that every Y − c divides
  module _ (Q : ℕ → R) (pQ : Poly 𝓡 Q) (line : (c : R) → SameModulo 𝓡 (lin 𝓡 c) Q 𝟘ₛ) where
    power_divides : (c : R) (m : ℕ) → SameModulo 𝓡 (lin_pow 𝓡 c m) (pow (Series 𝓡) Q m) 𝟘ₛ
    power_divides c zero = divides-one _ _ (pow-zero (Series 𝓡) (lin 𝓡 c)) (pow-zero (Series 𝓡) Q)
    power_divides c (suc m) = rw (pow-suc (Series 𝓡) (lin 𝓡 c) m, pow-suc (Series 𝓡) Q m) (divides-mul (lin 𝓡 c) (lin_pow 𝓡 c m) (line c) (power_divides c m))

    product-divides : (r : ℕ) (c : ℕ → R) (m : ℕ → ℕ) → SameModulo 𝓡 (prod (Series 𝓡) r (λ i. lin_pow 𝓡 (c i) (m i))) (pow (Series 𝓡) Q (sum_to r m)) 𝟘ₛ
    product-divides zero c m = divides-one _ _ (prod-zero (Series 𝓡) (λ i. lin_pow 𝓡 (c i) (m i))) (ap (pow (Series 𝓡) Q) (sum_to-zero m) ∙ pow-zero (Series 𝓡) Q)
    product-divides (suc r) c m =
        rw (prod-suc (Series 𝓡) r (λ i. lin_pow 𝓡 (c i) (m i)), sum_to-front r m, pow-add (Series 𝓡) Q (m zero) (sum_to r (λ i. m (suc i))))
        (divides-mul _ _ (power_divides (c zero) (m zero)) (product-divides r (λ i. c (suc i)) (λ i. m (suc i))))

    -- what divides a power divides every higher one
    higher-divides : (f : ℕ → R) (d n : ℕ) → d ≤ n → SameModulo 𝓡 f (pow (Series 𝓡) Q d) 𝟘ₛ → SameModulo 𝓡 f (pow (Series 𝓡) Q n) 𝟘ₛ
    higher-divides f d n l m =
        let R = pow (Series 𝓡) Q (n - d) in
        record {
          quotient = R ⊛ m.quotient;
          bounded = poly-mul 𝓡 (poly-pow 𝓡 pQ (n - d)) m.bounded;
          same = ap (pow (Series 𝓡) Q) (let z : n ≡ n - d +ₙ d = omega arith in z) ∙ pow-add (Series 𝓡) Q (n - d) d
              ∙ ap (λ x. R ⊛ x) m.same ∙ times-identity (Series 𝓡) R m.quotient f;
        }

    -- where f splits, the remainder of Q^n is 0
    split-none : (D r n : ℕ) (c : ℕ → R) (m : ℕ → ℕ) (f w : ℕ → R) → f ≡ prod (Series 𝓡) r (λ i. lin_pow 𝓡 (c i) (m i)) → sum_to r m ≤ n
        → Below 𝓡 (suc D) f → f D ≡ 𝟙 → Below 𝓡 D w → SameModulo 𝓡 f (pow (Series 𝓡) Q n) w → w ≡ 𝟘ₛ
    split-none D r n c m f w e l bf one bw same =
        modulo-none D f w bf one bw (modulo-trans f (modulo-sym f same)
        (higher-divides f (sum_to r m) n l (subst (λ x. SameModulo 𝓡 x (pow (Series 𝓡) Q (sum_to r m)) 𝟘ₛ) (sym e) (product-divides r c m))))

-- in F_p
pub split-test : {p : ℕ} (prime : Prime p) (D r n : ℕ) (c : ℕ → Fin p) (m : ℕ → ℕ) (f w : ℕ → Fin p)
    → f ≡ prod (Series (Fp p (p-pos prime))) r (λ i. lin_pow (Fp p (p-pos prime)) (c i) (m i)) → sum_to r m ≤ n
    → Below (Fp p (p-pos prime)) (suc D) f → f D ≡ (Fp p (p-pos prime)).𝟙 → Below (Fp p (p-pos prime)) D w
    → SameModulo (Fp p (p-pos prime)) f (pow (Series (Fp p (p-pos prime))) (frob prime) n) w → w ≡ (Series (Fp p (p-pos prime))).𝟘
split-test {p} prime = split-none (Fp p (p-pos prime)) (frob prime) (frob-poly prime) (line-divides prime)
