-- Polynomials over a commutative ring: the power series that are 0 from some index on. Division by Y − c, values, degrees.
--   Below n a      a has degree below n: its coefficients are 0 from index n on
--   Poly a         a has some degree bound
--   horner c n b   Horner's scheme at c over n coefficients: index t holds what the coefficients of b from t on come to
--   eval c n b     the value at c: index 0 of Horner's scheme
--   quot c n b     the quotient by Y − c: the rest of Horner's scheme
--   Root x a       a is 0 at x, whatever bound of its degree is taken
--   NonRoot x a    a is not 0 at x, whatever bound of its degree is taken
-- Assumes nothing.
use Prim.Native.Nat.{ℕ, zero, suc, ◌+◌ as ◌+ₙ◌, ◌≤◌, zero-le, suc-le-suc}
use native.Mathlib.Nat.{le_of_suc-le-suc, not-suc-le-zero, eq-or-lt_of_le}
use native.Mathlib.Omega.{arith}
use mathlib.Core.Path.{◌≡◌, refl, sym, ◌∙◌, ap, ap₂, subst, fun_ext}
use mathlib.Core.Logic.{◌≢◌, ⊎_elim}
use Rattle.algebra.specs.internal.Ring.{CommRing, ring, units, add_assoc, add_left_comm, add-zero, zero-add, mul_assoc, mul_left_comm, one-mul, mul-zero, zero-mul, mul-add, add-neg, neg-add, add-cancel-left, add-cancel-right, pow}
use Rattle.algebra.proofs.RingLaws.{IsField, no-zero-divisor, minus, expand, neg_unique, neg-zero, pow-zero, pow-suc, pow-zero-mul, pow-suc-mul}
use Rattle.algebra.specs.internal.Series.{tail, cons, Series}
use Rattle.algebra.proofs.SeriesLaws.{sum, sum-zero, sum-suc, sum-scale, add_at, neg-at, zero-at, one_at, mul-at-zero, mul-at-suc}
use Rattle.algebra.specs.internal.Poly.{const, lin, lin_pow}

module _ {R : Type 0} (𝓡 : CommRing R) where
  open 𝓡 use {𝟘, 𝟙, add as ◌+◌, mul as ◌*◌, neg}
  open Series 𝓡 use {𝟘 as 𝟘ₛ, 𝟙 as 𝟙ₛ, add as ◌⊕◌, mul as ◌⊛◌, neg as ⊖}

  infixl 65 ◌+◌
  infixl 70 ◌*◌
  infixl 65 ◌⊕◌
  infixl 70 ◌⊛◌
  pub const-coeff-zero : (x : R) → const 𝓡 x zero ≡ x
  unfolding const
  const-coeff-zero x = refl

  pub const-coeff-suc : (x : R) (t : ℕ) → const 𝓡 x (suc t) ≡ 𝟘
  unfolding const
  const-coeff-suc x t = zero-at 𝓡 t

  pub lin-coeff-zero : (c : R) → lin 𝓡 c zero ≡ neg c
  unfolding lin
  lin-coeff-zero c = refl

  pub lin-coeff-suc : (c : R) (t : ℕ) → lin 𝓡 c (suc t) ≡ 𝟙ₛ t
  unfolding lin
  lin-coeff-suc c t = refl

  -- products with Y − c and with a constant
  pub lin-mul-zero : (c : R) (q : ℕ → R) → (lin 𝓡 c ⊛ q) zero ≡ neg c * q zero
  unfolding lin
  lin-mul-zero c q = mul-at-zero 𝓡 (lin 𝓡 c) q

  pub lin-mul-suc : (c : R) (q : ℕ → R) (t : ℕ) → (lin 𝓡 c ⊛ q) (suc t) ≡ neg c * q (suc t) + q t
  unfolding lin
  lin-mul-suc c q t = rw (mul-at-suc 𝓡 (lin 𝓡 c) q t, one-mul (Series 𝓡) q)

  pub const-mul : (x : R) (q : ℕ → R) (t : ℕ) → (const 𝓡 x ⊛ q) t ≡ x * q t
  unfolding const
  const-mul x q zero = mul-at-zero 𝓡 (const 𝓡 x) q
  const-mul x q (suc t) = rw (mul-at-suc 𝓡 (const 𝓡 x) q t, zero-mul (Series 𝓡) q, zero-at 𝓡 t, add-zero 𝓡 (x * q (suc t)))

  pub const-const : (x y : R) → const 𝓡 x ⊛ const 𝓡 y ≡ const 𝓡 (x * y)
  const-const x y = fun_ext (elim [ zero ↦ simp (const-mul, const-coeff-zero) | suc t ↦ simp (const-mul, const-coeff-suc, mul-zero, 𝓡) ])

  pub const-zero : const 𝓡 𝟘 ≡ 𝟘ₛ
  const-zero = fun_ext (elim [ zero ↦ simp (const-coeff-zero, zero-at) | suc t ↦ simp (const-coeff-suc, zero-at) ])

  pub const-add : (x y : R) → const 𝓡 (x + y) ≡ const 𝓡 x ⊕ const 𝓡 y
  const-add x y = fun_ext (elim [ zero ↦ simp (add_at, const-coeff-zero) | suc t ↦ simp (add_at, const-coeff-suc, add-zero, 𝓡) ])

  pub one-const : 𝟙ₛ ≡ const 𝓡 𝟙
  unfolding Series const
  one-const = refl

  abbrev pub Below : ℕ → (ℕ → R) → Type 0
  Below n a = (j : ℕ) → n ≤ j → a j ≡ 𝟘

  -- degree bounds
  pub below-zero : {a : ℕ → R} → Below zero a → a ≡ 𝟘ₛ
  below-zero h = fun_ext (λ t. h t zero-le ∙ sym (zero-at 𝓡 t))

  pub below_more : {n k : ℕ} {a : ℕ → R} → n ≤ k → Below n a → Below k a
  below_more l h j g = h j (omega arith)

  pub below_last : {n : ℕ} {a : ℕ → R} → Below (suc n) a → a n ≡ 𝟘 → Below n a
  below_last {n} {a} h e j l = ⊎_elim (λ (z : n ≡ j). ap a (sym z) ∙ e) (h j) (eq-or-lt_of_le l)

  pub below-tail : {n : ℕ} {a : ℕ → R} → Below (suc n) a → Below n (tail a)
  below-tail h j l = h (suc j) (suc-le-suc l)

  pub below-cons : {n : ℕ} {a : ℕ → R} (x : R) → Below n a → Below (suc n) (cons x a)
  below-cons x h zero l = absurd (not-suc-le-zero l)
  below-cons x h (suc j) l = h j (le_of_suc-le-suc l)

  pub below-𝟘 : Below zero 𝟘ₛ
  below-𝟘 j l = zero-at 𝓡 j

  pub below-const : (x : R) → Below 1 (const 𝓡 x)
  unfolding const
  below-const x = below-cons x below-𝟘

  pub below-add : {n : ℕ} {a b : ℕ → R} → Below n a → Below n b → Below n (a ⊕ b)
  below-add {a = a} {b = b} h g j l = simp (add_at, h j l, g j l, units, 𝓡)

  pub below-neg : {n : ℕ} {a : ℕ → R} → Below n a → Below n (⊖ a)
  below-neg h j l = simp (neg-at, h j l, neg-zero, 𝓡)

  pub below-scale : {n : ℕ} {a : ℕ → R} (x : R) → Below n a → Below n (const 𝓡 x ⊛ a)
  below-scale x h j l = simp (const-mul, h j l, mul-zero, 𝓡)

  pub below_one : Below 1 𝟙ₛ
  below_one = rw one-const (below-const 𝟙)

  pub below-lin : (c : R) → Below 2 (lin 𝓡 c)
  unfolding lin
  below-lin c = below-cons (neg c) below_one

  -- the degree of a product is at most the sum of the degrees: three ways to count it
  pub below-low : (n k : ℕ) (a b : ℕ → R) → Below n a → Below (suc k) b → Below (n +ₙ k) (a ⊛ b)
  below-low zero k a b h g j l = rw (below-zero h, zero-mul (Series 𝓡) b) (zero-at 𝓡 j)
  below-low (suc n) k a b h g zero l = absurd (let z : ⊥ = omega arith in z)
  below-low (suc n) k a b h g (suc j) l =
      simp (mul-at-suc, g (suc j) (omega arith), below-low n k (tail a) b (below-tail h) g j (omega arith), units, 𝓡)

  pub below-tight : (n k : ℕ) (a b : ℕ → R) → Below (suc n) a → Below (suc k) b → Below (suc (n +ₙ k)) (a ⊛ b)
  below-tight n k a b h g = below_more (omega arith) (below-low (suc n) k a b h g)

  pub below-mul : (n k : ℕ) (a b : ℕ → R) → Below n a → Below k b → Below (n +ₙ k) (a ⊛ b)
  below-mul n k a b h g = below-low n k a b h (below_more (omega arith) g)

  -- the leading coefficient of a product
  pub top-mul : (n k j : ℕ) (a b : ℕ → R) → j ≡ n +ₙ k → Below (suc n) a → Below (suc k) b → (a ⊛ b) j ≡ a n * b k
  top-mul zero k zero a b e h g = let z : k ≡ zero = omega arith in mul-at-zero 𝓡 a b ∙ ap (λ x. a zero * b x) (sym z)
  top-mul zero k (suc j) a b e h g =
      let z : k ≡ suc j = omega arith in
      rw (mul-at-suc 𝓡 a b j, below-zero (below-tail h), zero-mul (Series 𝓡) b, zero-at 𝓡 j, add-zero 𝓡 (a zero * b (suc j))) (ap (λ x. a zero * b x) (sym z))
  top-mul (suc n) k zero a b e h g = absurd (let z : ⊥ = omega arith in z)
  top-mul (suc n) k (suc j) a b e h g =
      rw (mul-at-suc 𝓡 a b j, g (suc j) (omega arith), top-mul n k j (tail a) b (omega arith) (below-tail h) g) (simp (units, 𝓡))

  module _ (c : R) where
    unfoldable pub horner : ℕ → (ℕ → R) → ℕ → R
    horner zero b t = 𝟘
    horner (suc n) b t = b t + c * horner n b (suc t)

    pub horner-zero : (b : ℕ → R) (t : ℕ) → horner zero b t ≡ 𝟘
    unfolding horner
    horner-zero b t = refl

    pub horner-suc : (n : ℕ) (b : ℕ → R) (t : ℕ) → horner (suc n) b t ≡ b t + c * horner n b (suc t)
    unfolding horner
    horner-suc n b t = refl

    abbrev pub eval : ℕ → (ℕ → R) → R
    eval n b = horner n b zero

    abbrev pub quot : ℕ → (ℕ → R) → ℕ → R
    quot n b = tail (horner n b)

    horner-tail : (n : ℕ) (b : ℕ → R) (t : ℕ) → horner n b (suc t) ≡ horner n (tail b) t
    horner-tail zero b t = simp horner-zero
    horner-tail (suc n) b t = simp (horner-suc, horner-tail n b (suc t))

    pub eval-suc : (n : ℕ) (b : ℕ → R) → eval (suc n) b ≡ b zero + c * eval n (tail b)
    eval-suc n b = horner-suc n b zero ∙ ap (λ x. b zero + c * x) (horner-tail n b zero)

    horner-add : (n : ℕ) (a b : ℕ → R) (t : ℕ) → horner n (a ⊕ b) t ≡ horner n a t + horner n b t
    horner-add zero a b t = simp (horner-zero, units, 𝓡)
    horner-add (suc n) a b t = simp (horner-suc, add_at, horner-add n a b (suc t), mul-add, add_assoc, add_left_comm, 𝓡)

    pub eval_add : (n : ℕ) (a b : ℕ → R) → eval n (a ⊕ b) ≡ eval n a + eval n b
    eval_add n a b = horner-add n a b zero

    horner-none : (n : ℕ) (t : ℕ) → horner n 𝟘ₛ t ≡ 𝟘
    horner-none zero t = horner-zero 𝟘ₛ t
    horner-none (suc n) t = simp (horner-suc, zero-at, horner-none n (suc t), units, 𝓡)

    pub eval-neg : (n : ℕ) (a : ℕ → R) → eval n (⊖ a) ≡ neg (eval n a)
    eval-neg n a = sym (neg_unique 𝓡 (sym (eval_add n a (⊖ a)) ∙ ap (eval n) (add-neg (Series 𝓡) a) ∙ horner-none n zero))

    pub eval-const : (n : ℕ) (x : R) → eval (suc n) (const 𝓡 x) ≡ x
    unfolding const
    eval-const n x = eval-suc n (const 𝓡 x) ∙ ap (λ y. x + c * y) (horner-none n zero) ∙ simp (units, 𝓡)

    -- Horner's scheme is the sum of b j · c^j, of j from 0 to n
    pub eval-sum : (n : ℕ) (b : ℕ → R) → eval (suc n) b ≡ sum 𝓡 (λ j. b j * pow 𝓡 c j) n
    eval-sum zero b = rw horner-suc (simp (horner-zero, sum-zero, pow-zero, units, 𝓡))
    eval-sum (suc n) b =
        rw (eval-suc (suc n) b, eval-sum n (tail b), ← sum-scale 𝓡 c (λ j. tail b j * pow 𝓡 c j) n, sum-suc 𝓡 (λ j. b j * pow 𝓡 c j) n)
        (simp (pow-zero, pow-suc, units, mul_left_comm, 𝓡))

    horner-below : (k n : ℕ) (b : ℕ → R) → Below n b → Below n (horner k b)
    horner-below zero n b h t l = horner-zero b t
    horner-below (suc k) n b h t l = simp (horner-suc, h t l, horner-below k n b h (suc t) (omega arith), units, 𝓡)

    pub quot_below : (k n : ℕ) (b : ℕ → R) → Below (suc n) b → Below n (quot k b)
    quot_below k n b h = below-tail (horner-below k (suc n) b h)

    -- one more coefficient changes nothing
    horner-more : (n : ℕ) (b : ℕ → R) (t : ℕ) → Below (t +ₙ n) b → horner (suc n) b t ≡ horner n b t
    horner-more zero b t h = rw horner-suc (simp (horner-zero, h t (omega arith), units, 𝓡))
    horner-more (suc n) b t h = rw (horner-suc (suc n) b t, horner-more n b (suc t) (λ j l. h j (omega arith)), horner-suc n b t)

    horner-step : (n : ℕ) (b : ℕ → R) → Below n b → (t : ℕ) → horner n b t ≡ b t + c * horner n b (suc t)
    horner-step n b h t = sym (horner-more n b t (λ j l. h j (omega arith))) ∙ horner-suc n b t

    -- division by Y − c, with the value at c as the remainder
    pub div : (n : ℕ) (b : ℕ → R) → Below n b → b ≡ const 𝓡 (eval n b) ⊕ lin 𝓡 c ⊛ quot n b
    unfolding const
    div n b h = fun_ext (elim [
      | zero ↦ simp (add_at, lin-mul-zero) (rw (horner-step n b h zero) (simp (minus, add_assoc, 𝓡)))
      | suc t ↦ simp (add_at, lin-mul-suc, zero-at) (rw (horner-step n b h (suc t)) (simp (ring, minus, 𝓡)))
    ])

    same-from-top : (n : ℕ) (g g'' : ℕ → R) → Below n g → Below n g'' →
        ((t : ℕ) → neg c * g (suc t) + g t ≡ neg c * g'' (suc t) + g'' t) → (t : ℕ) → g t ≡ g'' t
    same-from-top zero g g'' h h' e t = h t zero-le ∙ sym (h' t zero-le)
    same-from-top (suc n) g g'' h h' e t =
        add-cancel-left 𝓡 (neg c * g (suc t))
        (e t ∙ ap (λ x. neg c * x + g'' t) (sym (same-from-top n (tail g) (tail g'') (below-tail h) (below-tail h') (λ i. e (suc i)) t)))

    -- remainder and quotient are the only ones
    pub div-unique : (n : ℕ) (r r' : R) (g g'' : ℕ → R) → Below n g → Below n g'' →
        const 𝓡 r ⊕ lin 𝓡 c ⊛ g ≡ const 𝓡 r' ⊕ lin 𝓡 c ⊛ g'' → (r ≡ r') × (g ≡ g'')
    unfolding const
    div-unique n r r' g g'' h h' e =
        let same : (t : ℕ) → g t ≡ g'' t = same-from-top n g g'' h h' (λ t. simp (add_at, lin-mul-suc, zero-at, units) at (ap (λ a. a (suc t)) e)) in
        (add-cancel-right 𝓡 (neg c * g zero) (rw (same zero) (simp (add_at, lin-mul-zero, same zero) at (ap (λ a. a zero) e))), fun_ext same)

    pub below-lin-mul : {n : ℕ} {a : ℕ → R} → Below n a → Below (suc n) (lin 𝓡 c ⊛ a)
    below-lin-mul h zero l = absurd (not-suc-le-zero l)
    below-lin-mul h (suc j) l = simp (lin-mul-suc, h j (omega arith), h (suc j) (omega arith), units, 𝓡)

    -- (Y − c)^m is monic of degree m
    pub below-lin_pow : (m : ℕ) → Below (suc m) (lin_pow 𝓡 c m)
    below-lin_pow zero = rw (pow-zero (Series 𝓡) (lin 𝓡 c)) below_one
    below-lin_pow (suc m) = rw (pow-suc (Series 𝓡) (lin 𝓡 c) m) (below-lin-mul (below-lin_pow m))

    pub lin_pow-top : (m : ℕ) → lin_pow 𝓡 c m m ≡ 𝟙
    lin_pow-top zero = ap (λ x. x zero) (pow-zero (Series 𝓡) (lin 𝓡 c) ∙ one_at 𝓡)
    lin_pow-top (suc m) =
        ap (λ x. x (suc m)) (pow-suc (Series 𝓡) (lin 𝓡 c) m) ∙ lin-mul-suc c (lin_pow 𝓡 c m) m
        ∙ rw (below-lin_pow m (suc m) (omega arith), lin_pow-top m) (simp (units, 𝓡))

  abbrev pub Poly : (ℕ → R) → Type 0
  Poly a = (n : ℕ) × Below n a

  pub poly-add : {a b : ℕ → R} → Poly a → Poly b → Poly (a ⊕ b)
  poly-add h g = (h.0 +ₙ g.0, below-add (below_more (omega arith) h.1) (below_more (omega arith) g.1))

  pub poly-neg : {a : ℕ → R} → Poly a → Poly (⊖ a)
  poly-neg h = (h.0, below-neg h.1)

  pub poly-mul : {a b : ℕ → R} → Poly a → Poly b → Poly (a ⊛ b)
  poly-mul {a} {b} h g = (h.0 +ₙ g.0, below-mul h.0 g.0 a b h.1 g.1)

  pub poly-const : (x : R) → Poly (const 𝓡 x)
  poly-const x = (1, below-const x)

  pub poly-lin : (c : R) → Poly (lin 𝓡 c)
  poly-lin c = (2, below-lin c)

  pub poly-pow : {a : ℕ → R} → Poly a → (m : ℕ) → Poly (pow (Series 𝓡) a m)
  poly-pow h zero = rw (pow-zero (Series 𝓡), one-const) (poly-const 𝟙)
  poly-pow h (suc m) = rw pow-suc (poly-mul h (poly-pow h m))

  module _ (c : R) where
    pub quot-poly : (n : ℕ) (b : ℕ → R) → Poly b → Poly (quot c n b)
    quot-poly n b h = (h.0, below_more (omega arith) (quot_below c n h.0 b (below_more (omega arith) h.1)))

    pub div-unique-poly : (r r' : R) (g g'' : ℕ → R) → Poly g → Poly g'' →
        const 𝓡 r ⊕ lin 𝓡 c ⊛ g ≡ const 𝓡 r' ⊕ lin 𝓡 c ⊛ g'' → (r ≡ r') × (g ≡ g'')
    div-unique-poly r r' g g'' h h' =
        div-unique c (h.0 +ₙ h'.0) r r' g g'' (below_more (omega arith) h.1) (below_more (omega arith) h'.1)

    -- Y − c is cancelled
    pub lin-cancel : (g g'' : ℕ → R) → Poly g → Poly g'' → lin 𝓡 c ⊛ g ≡ lin 𝓡 c ⊛ g'' → g ≡ g''
    lin-cancel g g'' h h' e = (div-unique-poly 𝟘 𝟘 g g'' h h' (ap (λ a. const 𝓡 𝟘 ⊕ a) e)).1

    pub lin_pow-cancel : (m : ℕ) (g g'' : ℕ → R) → Poly g → Poly g'' → lin_pow 𝓡 c m ⊛ g ≡ lin_pow 𝓡 c m ⊛ g'' → g ≡ g''
    lin_pow-cancel zero g g'' h h' e = simp (pow-zero, one-mul) at e
    lin_pow-cancel (suc m) g g'' h h' e =
        lin_pow-cancel m g g'' h h' (lin-cancel _ _ (poly-mul (poly-pow (poly-lin c) m) h) (poly-mul (poly-pow (poly-lin c) m) h')
        (simp (pow-suc, mul_assoc) at e))

    -- the value does not depend on the bound
    pub eval-bound : (n k : ℕ) (b : ℕ → R) → Below n b → Below k b → eval c n b ≡ eval c k b
    eval-bound n k b h g =
        (div-unique-poly (eval c n b) (eval c k b) (quot c n b) (quot c k b) (quot-poly n b (n, h)) (quot-poly k b (k, g)) (sym (div c n b h) ∙ div c k b g)).0

    -- the factor Y − c has degree 1
    pub below-lin-inv : (n : ℕ) (a : ℕ → R) → Poly a → Below (suc n) (lin 𝓡 c ⊛ a) → Below n a
    below-lin-inv n a ha h =
        let b = lin 𝓡 c ⊛ a in
        let q : quot c (suc n) b ≡ a = (div-unique-poly (eval c (suc n) b) 𝟘 (quot c (suc n) b) a (quot-poly (suc n) b (suc n, h)) ha
        (sym (div c (suc n) b h) ∙ simp (const-zero, zero-add))).1 in
        subst (Below n) q (quot_below c (suc n) n b h)

    pub below-lin_pow-inv : (m n : ℕ) (a : ℕ → R) → Poly a → Below (m +ₙ n) (lin_pow 𝓡 c m ⊛ a) → Below n a
    below-lin_pow-inv zero n a ha h = subst (Below n) (pow-zero-mul (Series 𝓡) (lin 𝓡 c) a) (below_more (omega arith) h)
    below-lin_pow-inv (suc m) n a ha h =
        below-lin_pow-inv m n a ha
        (below-lin-inv (m +ₙ n) _ (poly-mul (poly-pow (poly-lin c) m) ha)
        (subst (Below (suc (m +ₙ n))) (pow-suc-mul (Series 𝓡) (lin 𝓡 c) m a) (below_more (omega arith) h)))

    -- the value of a product is the product of the values
    module _ (k : ℕ) (a : ℕ → R) (ha : Below k a) where
      -- (r + (Y − c) q) a = r a(c) + (Y − c)(r a' + q a), where a' is the quotient of a
      pub product_value : (r : R) (q : ℕ → R) → (const 𝓡 r ⊕ lin 𝓡 c ⊛ q) ⊛ a ≡ const 𝓡 (r * eval c k a) ⊕ lin 𝓡 c ⊛ (const 𝓡 r ⊛ quot c k a ⊕ q ⊛ a)
      product_value r q = rw (← const-const r (eval c k a)) (expand (Series 𝓡) (const 𝓡 r) (const 𝓡 (eval c k a)) (lin 𝓡 c) (quot c k a) q a (div c k a ha))

      pub product-poly : (r : R) (q : ℕ → R) → Poly q → Poly (const 𝓡 r ⊛ quot c k a ⊕ q ⊛ a)
      product-poly r q hq = poly-add (poly-mul (poly-const r) (quot-poly k a (k, ha))) (poly-mul hq (k, ha))

      pub eval_mul : (n l : ℕ) (b : ℕ → R) → Below n b → Below l (b ⊛ a) → eval c l (b ⊛ a) ≡ eval c n b * eval c k a
      eval_mul n l b h g =
          let q = quot c n b in
          let r = eval c n b in
          (div-unique-poly _ (r * eval c k a) (quot c l (b ⊛ a)) (const 𝓡 r ⊛ quot c k a ⊕ q ⊛ a) (quot-poly l (b ⊛ a) (l, g)) (product-poly r q (quot-poly n b (n, h)))
          (sym (div c l (b ⊛ a) g) ∙ ap (λ x. x ⊛ a) (div c n b h) ∙ product_value r q)).0

  pub eval-lin : (x c : R) → eval x 2 (lin 𝓡 c) ≡ neg c + x
  unfolding lin
  eval-lin x c = eval-suc x 1 (lin 𝓡 c) ∙ ap (λ y. neg c + x * y) (ap (eval x 1) one-const ∙ eval-const x zero 𝟙) ∙ simp (units, 𝓡)

  pub eval-lin_pow : (x c : R) (m : ℕ) → eval x (suc m) (lin_pow 𝓡 c m) ≡ pow 𝓡 (neg c + x) m
  eval-lin_pow x c zero = ap (eval x 1) (pow-zero (Series 𝓡) (lin 𝓡 c) ∙ one-const) ∙ eval-const x zero 𝟙 ∙ sym (pow-zero 𝓡 (neg c + x))
  eval-lin_pow x c (suc m) =
      ap (eval x (suc (suc m))) (pow-suc (Series 𝓡) (lin 𝓡 c) m)
      ∙ eval_mul x (suc m) (lin_pow 𝓡 c m) (below-lin_pow c m) 2 (suc (suc m)) (lin 𝓡 c) (below-lin c) (below-lin-mul c (below-lin_pow c m))
      ∙ ap₂ ◌*◌ (eval-lin x c) (eval-lin_pow x c m) ∙ sym (pow-suc 𝓡 (neg c + x) m)

  abbrev pub Root : R → (ℕ → R) → Type 0
  Root x a = (n : ℕ) → Below n a → eval x n a ≡ 𝟘

  abbrev pub NonRoot : R → (ℕ → R) → Type 0
  NonRoot x a = (n : ℕ) → Below n a → eval x n a ≢ 𝟘

  -- roots of linear factors, of products and of powers
  pub root-lin : (c : R) → Root c (lin 𝓡 c)
  root-lin c n h = eval-bound c n 2 (lin 𝓡 c) h (below-lin c) ∙ eval-lin c c ∙ neg-add 𝓡 c

  pub root-mul : (x : R) (a b : ℕ → R) → Poly a → Poly b → Root x a → Root x (a ⊛ b)
  root-mul x a b ha hb h n g = eval_mul x hb.0 b hb.1 ha.0 n a ha.1 g ∙ ap (λ y. y * eval x hb.0 b) (h ha.0 ha.1) ∙ zero-mul 𝓡 _

  pub root-lin_pow : (c : R) (m : ℕ) → 1 ≤ m → Root c (lin_pow 𝓡 c m)
  root-lin_pow c zero l = absurd (not-suc-le-zero l)
  root-lin_pow c (suc m) l = rw (pow-suc (Series 𝓡) (lin 𝓡 c) m) (root-mul c (lin 𝓡 c) _ (poly-lin c) (poly-pow (poly-lin c) m) (root-lin c))

  pub nonroot-one : 𝟘 ≢ 𝟙 → (x : R) → NonRoot x 𝟙ₛ
  nonroot-one ne x n h e = ne (sym e ∙ eval-bound x n 1 𝟙ₛ h below_one ∙ ap (eval x 1) one-const ∙ eval-const x zero 𝟙)

  pub nonroot-lin : (x c : R) → x ≢ c → NonRoot x (lin 𝓡 c)
  nonroot-lin x c ne n h e =
      ne (add-cancel-left 𝓡 (neg c) (sym (eval-lin x c) ∙ sym (eval-bound x n 2 (lin 𝓡 c) h (below-lin c)) ∙ e ∙ sym (neg-add 𝓡 c)))

  module _ (field : IsField 𝓡) where
    pub nonroot-mul : (x : R) (a b : ℕ → R) → Poly a → Poly b → NonRoot x a → NonRoot x b → NonRoot x (a ⊛ b)
    nonroot-mul x a b ha hb h g n l e =
        g hb.0 hb.1 (no-zero-divisor 𝓡 field _ _ (h ha.0 ha.1) (sym (eval_mul x hb.0 b hb.1 ha.0 n a ha.1 l) ∙ e))

    pub nonroot-lin_pow : (x c : R) → x ≢ c → (m : ℕ) → NonRoot x (lin_pow 𝓡 c m)
    nonroot-lin_pow x c ne zero = rw (pow-zero (Series 𝓡) (lin 𝓡 c)) (nonroot-one field.nontrivial x)
    nonroot-lin_pow x c ne (suc m) =
        rw (pow-suc (Series 𝓡) (lin 𝓡 c) m)
        (nonroot-mul x (lin 𝓡 c) _ (poly-lin c) (poly-pow (poly-lin c) m) (nonroot-lin x c ne) (nonroot-lin_pow x c ne m))

-- powers of Y: the root 0
module _ {R : Type 0} (𝓡 : CommRing R) where
  open 𝓡 use {𝟘, add as ◌+◌, mul as ◌*◌, neg}
  open Series 𝓡 use {add as ◌⊕◌, mul as ◌⊛◌}

  infixl 65 ◌+◌
  infixl 70 ◌*◌
  infixl 65 ◌⊕◌
  infixl 70 ◌⊛◌
  pub y-mul-zero : (q : ℕ → R) → (lin 𝓡 𝟘 ⊛ q) zero ≡ 𝟘
  y-mul-zero q = lin-mul-zero 𝓡 𝟘 q ∙ simp (minus, 𝓡)

  pub y-mul-suc : (q : ℕ → R) (t : ℕ) → (lin 𝓡 𝟘 ⊛ q) (suc t) ≡ q t
  y-mul-suc q t = lin-mul-suc 𝓡 𝟘 q t ∙ simp (minus, 𝓡)

  -- a polynomial from its first coefficient and the others
  pub head_tail : (a : ℕ → R) → const 𝓡 (a zero) ⊕ lin 𝓡 𝟘 ⊛ tail a ≡ a
  head_tail a = fun_ext (elim [ zero ↦ simp (add_at, const-coeff-zero, y-mul-zero, minus, 𝓡) | suc t ↦ simp (add_at, const-coeff-suc, y-mul-suc, minus, 𝓡) ])

  -- Y^d · a has the coefficients of a, moved up by d
  pub y_pow-high : (d : ℕ) (a : ℕ → R) (j : ℕ) → (lin_pow 𝓡 𝟘 d ⊛ a) (d +ₙ j) ≡ a j
  y_pow-high zero a j = ap (λ x. x (zero +ₙ j)) (pow-zero-mul (Series 𝓡) (lin 𝓡 𝟘) a) ∙ ap a (let z : zero +ₙ j ≡ j = omega arith in z)
  y_pow-high (suc d) a j =
      ap (λ x. x (suc d +ₙ j)) (pow-suc-mul (Series 𝓡) (lin 𝓡 𝟘) d a)
      ∙ ap (lin 𝓡 𝟘 ⊛ (lin_pow 𝓡 𝟘 d ⊛ a)) (let z : suc d +ₙ j ≡ suc (d +ₙ j) = omega arith in z)
      ∙ y-mul-suc _ (d +ₙ j) ∙ y_pow-high d a j

  pub y_pow-low : (d : ℕ) (a : ℕ → R) (j : ℕ) → suc j ≤ d → (lin_pow 𝓡 𝟘 d ⊛ a) j ≡ 𝟘
  y_pow-low zero a j l = absurd (not-suc-le-zero l)
  y_pow-low (suc d) a zero l = ap (λ x. x zero) (pow-suc-mul (Series 𝓡) (lin 𝓡 𝟘) d a) ∙ y-mul-zero _
  y_pow-low (suc d) a (suc j) l = ap (λ x. x (suc j)) (pow-suc-mul (Series 𝓡) (lin 𝓡 𝟘) d a) ∙ y-mul-suc _ j ∙ y_pow-low d a j (le_of_suc-le-suc l)

  -- the value at 0 is the first coefficient
  pub eval-zero : (k : ℕ) (a : ℕ → R) → eval 𝓡 𝟘 (suc k) a ≡ a zero
  eval-zero k a = horner-suc 𝓡 𝟘 k a zero ∙ simp (units, 𝓡)
