-- Power series over a commutative ring: the laws of their ring.
--   mid a b t   coefficient t + 1 of the product without a 0 · b (t + 1) and a (t + 1) · b 0
--   sum f t     f 0 + .. + f t
-- Assumes nothing.
use Prim.Native.Nat.{ℕ, zero, suc, ◌-◌, ◌≤◌, ◌<◌}
use native.Mathlib.Nat.{suc-sub-suc, sub-zero}
use native.Mathlib.Omega.{arith}
use mathlib.Core.Path.{◌≡◌, refl, sym, ◌∙◌, ap, ap₂}
use Rattle.algebra.specs.internal.Ring.{CommRing, add_assoc, add_comm, add_left_comm, add-zero, mul-add, prod}
use Rattle.algebra.specs.internal.Series.{tail, cons, conv, conv-zero, conv-suc, conv-suc-right, Series}
use Rattle.algebra.proofs.RingLaws.{prod-zero, prod-suc}

module _ {R : Type 0} (𝓡 : CommRing R) where
  open 𝓡 use {𝟘, 𝟙, add as ◌+◌, mul as ◌*◌, neg}

  infixl 65 ◌+◌
  infixl 70 ◌*◌
  -- the coefficient t of a product looks at no coefficient past t
  pub conv-ext : (t : ℕ) {a a' b b' : ℕ → R} → ((i : ℕ) → i ≤ t → a i ≡ a' i) → ((i : ℕ) → i ≤ t → b i ≡ b' i) → conv 𝓡 a b t ≡ conv 𝓡 a' b' t
  conv-ext zero {a} {a'} {b} {b'} h g = rw (conv-zero 𝓡 a b, conv-zero 𝓡 a' b', h zero (omega arith), g zero (omega arith))
  conv-ext (suc t) {a} {a'} {b} {b'} h g =
      rw (
        conv-suc 𝓡 a b t,
        conv-suc 𝓡 a' b' t,
        h zero (omega arith),
        g (suc t) (omega arith),
        conv-ext t {a = tail a} {a' = tail a'} (λ i l. h (suc i) (omega arith)) (λ i l. g i (omega arith)),
      )

  unfoldable pub mid : (ℕ → R) → (ℕ → R) → ℕ → R
  mid a b zero = 𝟘
  mid a b (suc t) = conv 𝓡 (tail a) (tail b) t

  pub conv-mid : (a b : ℕ → R) (t : ℕ) → conv 𝓡 a b (suc t) ≡ a zero * b (suc t) + a (suc t) * b zero + mid a b t
  unfolding mid
  conv-mid a b zero = rw (conv-suc 𝓡 a b zero, conv-zero 𝓡 (tail a) b, add-zero 𝓡 _)
  conv-mid a b (suc t) = rw (conv-suc 𝓡 a b (suc t), conv-suc-right 𝓡 (tail a) b t) (simp (add_assoc, add_comm, 𝓡))

  pub mid-ext : (t : ℕ) {a a' b b' : ℕ → R} → ((i : ℕ) → i ≤ t → a i ≡ a' i) → ((i : ℕ) → i ≤ t → b i ≡ b' i) → mid a b t ≡ mid a' b' t
  unfolding mid
  mid-ext zero h g = refl
  mid-ext (suc t) h g = conv-ext t (λ i l. h (suc i) (omega arith)) (λ i l. g (suc i) (omega arith))

  unfoldable pub sum : (ℕ → R) → ℕ → R
  sum f zero = f zero
  sum f (suc t) = f zero + sum (tail f) t

  pub sum-zero : (f : ℕ → R) → sum f zero ≡ f zero
  unfolding sum
  sum-zero f = refl

  pub sum-suc : (f : ℕ → R) (t : ℕ) → sum f (suc t) ≡ f zero + sum (λ i. f (suc i)) t
  unfolding sum
  sum-suc f t = refl

  -- the last summand taken off
  pub sum-last : (f : ℕ → R) (t : ℕ) → sum f (suc t) ≡ sum f t + f (suc t)
  sum-last f zero = rw (sum-suc f zero, sum-zero f, sum-zero (λ i. f (suc i)))
  sum-last f (suc t) = rw (sum-suc f (suc t), sum-last (λ i. f (suc i)) t, sum-suc f t) (simp (add_assoc, 𝓡))

  pub sum-ext : (t : ℕ) {f g : ℕ → R} → ((i : ℕ) → i ≤ t → f i ≡ g i) → sum f t ≡ sum g t
  sum-ext zero {f} {g} h = sum-zero f ∙ h zero (omega arith) ∙ sym (sum-zero g)
  sum-ext (suc t) {f} {g} h = sum-suc f t ∙ ap₂ ◌+◌ (h zero (omega arith)) (sum-ext t (λ i l. h (suc i) (omega arith))) ∙ sym (sum-suc g t)

  pub sum-add : (f g : ℕ → R) (t : ℕ) → sum (λ i. f i + g i) t ≡ sum f t + sum g t
  sum-add f g zero = simp sum-zero
  sum-add f g (suc t) = simp (sum-suc, sum-add (λ i. f (suc i)) (λ i. g (suc i)) t, add_assoc, add_left_comm, 𝓡)

  pub sum-scale : (x : R) (f : ℕ → R) (t : ℕ) → sum (λ i. x * f i) t ≡ x * sum f t
  sum-scale x f zero = simp sum-zero
  sum-scale x f (suc t) = simp (sum-suc, sum-scale x (λ i. f (suc i)) t, mul-add, 𝓡)

  -- double sums may be exchanged
  pub sum-swap : (f : ℕ → ℕ → R) (t j : ℕ) → sum (λ s. sum (f s) j) t ≡ sum (λ i. sum (λ s. f s i) t) j
  sum-swap f zero j = sum-zero (λ s. sum (f s) j) ∙ sum-ext j (λ i l. sym (sum-zero (λ s. f s i)))
  sum-swap f (suc t) j =
      sum-suc (λ s. sum (f s) j) t ∙ ap (λ x. sum (f zero) j + x) (sum-swap (λ s. f (suc s)) t j) ∙ sym (sum-add (f zero) (λ i. sum (λ s. f (suc s) i) t) j)
      ∙ sum-ext j (λ i l. sym (sum-suc (λ s. f s i) t))

  -- a coefficient of a product is a plain sum
  pub conv-sum : (a b : ℕ → R) (t : ℕ) → conv 𝓡 a b t ≡ sum (λ i. a i * b (t - i)) t
  unfolding conv sum
  conv-sum a b zero = refl
  conv-sum a b (suc t) = simp (conv-suc, conv-sum (tail a) b t, sum-suc, suc-sub-suc, sub-zero)

-- coefficients of sums, opposites and products in the ring
module _ {R : Type 0} (𝓡 : CommRing R) where
  open 𝓡 use {𝟘, 𝟙, add as ◌+◌, mul as ◌*◌, neg}
  open Series 𝓡 use {𝟘 as 𝟘ₛ, 𝟙 as 𝟙ₛ, add as ◌⊕◌, mul as ◌⊛◌, neg as ⊖}

  infixl 65 ◌+◌
  infixl 70 ◌*◌
  infixl 65 ◌⊕◌
  infixl 70 ◌⊛◌
  pub add_at : (a b : ℕ → R) (t : ℕ) → (a ⊕ b) t ≡ a t + b t
  unfolding Series
  add_at a b t = refl

  pub neg-at : (a : ℕ → R) (t : ℕ) → (⊖ a) t ≡ neg (a t)
  unfolding Series
  neg-at a t = refl

  pub zero-at : (t : ℕ) → 𝟘ₛ t ≡ 𝟘
  unfolding Series
  zero-at t = refl

  pub one_at : 𝟙ₛ ≡ cons 𝟙 (λ _. 𝟘)
  unfolding Series
  one_at = refl

  pub mul_at : (a b : ℕ → R) (t : ℕ) → (a ⊛ b) t ≡ conv 𝓡 a b t
  unfolding Series
  mul_at a b t = refl

  pub mul-at-zero : (a b : ℕ → R) → (a ⊛ b) zero ≡ a zero * b zero
  mul-at-zero a b = mul_at a b zero ∙ conv-zero 𝓡 a b

  pub mul-at-suc : (a b : ℕ → R) (t : ℕ) → (a ⊛ b) (suc t) ≡ a zero * b (suc t) + (tail a ⊛ b) t
  unfolding Series
  mul-at-suc = conv-suc 𝓡

  pub tail-add : (a b : ℕ → R) → tail (a ⊕ b) ≡ tail a ⊕ tail b
  unfolding Series
  tail-add a b = refl

  pub mul-at-sum : (a b : ℕ → R) (t : ℕ) → (a ⊛ b) t ≡ sum 𝓡 (λ i. a i * b (t - i)) t
  mul-at-sum a b t = mul_at a b t ∙ conv-sum 𝓡 a b t

  pub sum-at : (f : ℕ → ℕ → R) (t j : ℕ) → sum (Series 𝓡) f t j ≡ sum 𝓡 (λ i. f i j) t
  sum-at f zero j = rw (sum-zero (Series 𝓡) f, sum-zero 𝓡 (λ i. f i j))
  sum-at f (suc t) j = rw (sum-suc (Series 𝓡) f t, add_at (f zero) (sum (Series 𝓡) (λ i. f (suc i)) t) j, sum-at (λ i. f (suc i)) t j, sum-suc 𝓡 (λ i. f i j) t)

  -- products of series that agree below n agree there
  pub mul-agree : (n : ℕ) {a a' b b' : ℕ → R} → ((t : ℕ) → t < n → a t ≡ a' t) → ((t : ℕ) → t < n → b t ≡ b' t) → (t : ℕ) → t < n → (a ⊛ b) t ≡ (a' ⊛ b') t
  mul-agree n {a} {a'} {b} {b'} h g t l =
      mul_at a b t ∙ conv-ext 𝓡 t (λ i u. h i (omega arith)) (λ i u. g i (omega arith)) ∙ sym (mul_at a' b' t)

  pub prod-agree : (r n : ℕ) {F F' : ℕ → ℕ → R} → ((i : ℕ) → i < r → (t : ℕ) → t < n → F i t ≡ F' i t) → (t : ℕ) → t < n → prod (Series 𝓡) r F t ≡ prod (Series 𝓡) r F' t
  prod-agree zero n {F} {F'} h t l = ap (λ x. x t) (prod-zero (Series 𝓡) F ∙ sym (prod-zero (Series 𝓡) F'))
  prod-agree (suc r) n {F} {F'} h t l =
      ap (λ x. x t) (prod-suc (Series 𝓡) r F)
      ∙ mul-agree n (h zero (omega arith)) (prod-agree r n (λ i u. h (suc i) (omega arith))) t l
      ∙ ap (λ x. x t) (sym (prod-suc (Series 𝓡) r F'))

  -- the first coefficient of a product
  pub prod-at-zero : (r : ℕ) (F : ℕ → ℕ → R) → prod (Series 𝓡) r F zero ≡ prod 𝓡 r (λ i. F i zero)
  prod-at-zero zero F = ap (λ x. x zero) (prod-zero (Series 𝓡) F ∙ one_at) ∙ sym (prod-zero 𝓡 (λ i. F i zero))
  prod-at-zero (suc r) F =
      ap (λ x. x zero) (prod-suc (Series 𝓡) r F) ∙ mul-at-zero (F zero) (prod (Series 𝓡) r (λ i. F (suc i)))
      ∙ ap (λ x. F zero zero * x) (prod-at-zero r (λ i. F (suc i))) ∙ sym (prod-suc 𝓡 r (λ i. F i zero))
