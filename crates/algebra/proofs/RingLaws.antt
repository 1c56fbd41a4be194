-- Commutative rings and fields: the laws that follow.
--   prod_from i n F    F i · F (i + 1) · .. · F (n − 1)
--   IsField           0 ≠ 1, and whatever is not 0 has an inverse
-- `simp (ring, minus)` proves an identity of moderate size, opposites included. Assumes nothing.
use Prim.Native.Nat.{ℕ, zero, suc, ◌+◌ as ◌+ₙ◌, ◌-◌, ◌<◌}
use native.Mathlib.Nat.{sub-zero, suc-add, zero-add as zeroₙ-add}
use native.Mathlib.Omega.{arith}
use mathlib.Core.Path.{◌≡◌, refl, sym, ◌∙◌, ap, ap₂}
use mathlib.Core.Logic.{◌≢◌}
use Rattle.algebra.specs.internal.Ring.{CommRing, add_assoc, add-zero, add-neg, mul_assoc, mul_comm, mul-one, mul-add, neg-add, one-mul, add-mul, add_left_comm, add-neg-add, neg-add-add, add-cancel-right, mul-zero, zero-mul, pow, prod, ring, units}

module _ {R : Type 0} (𝓡 : CommRing R) where
  open 𝓡 use {𝟘, 𝟙, add as ◌+◌, mul as ◌*◌, neg}

  infixl 65 ◌+◌
  infixl 70 ◌*◌
  -- the opposite is the only one
  pub neg_unique : {a b : R} → a + b ≡ 𝟘 → neg a ≡ b
  neg_unique {a} {b} h = cc (neg-add-add 𝓡 a b, add-zero 𝓡 (neg a))

  pub neg-zero : neg 𝟘 ≡ 𝟘
  neg-zero = neg_unique (add-zero 𝓡 𝟘)

  pub neg-neg : (a : R) → neg (neg a) ≡ a
  neg-neg a = neg_unique (neg-add 𝓡 a)

  pub neg-mul : (a b : R) → neg a * b ≡ neg (a * b)
  neg-mul a b = sym (neg_unique (cc (add-mul 𝓡 a (neg a) b, add-neg 𝓡 a, zero-mul 𝓡 b)))

  pub mul-neg : (a b : R) → a * neg b ≡ neg (a * b)
  mul-neg a b = sym (neg_unique (cc (mul-add 𝓡 a b (neg b), add-neg 𝓡 b, mul-zero 𝓡 a)))

  pub eq-of-sub : {a b : R} → a + neg b ≡ 𝟘 → a ≡ b
  eq-of-sub {a} {b} h = add-cancel-right 𝓡 (neg b) (h ∙ sym (add-neg 𝓡 b))

  pub neg_sum : (a b : R) → neg (a + b) ≡ neg a + neg b
  neg_sum a b = neg_unique (simp (add_assoc, add_left_comm 𝓡 b (neg a) (neg b), add-neg, add-zero))

  -- a and its opposite, up to five summands apart
  pub cancel1 : (a b : R) → a + (b + neg a) ≡ b
  cancel1 a b = add_left_comm 𝓡 a b (neg a) ∙ ap (λ x. b + x) (add-neg 𝓡 a) ∙ add-zero 𝓡 b

  pub cancel1' : (a b z : R) → a + (b + (neg a + z)) ≡ b + z
  cancel1' a b z = add_left_comm 𝓡 a b (neg a + z) ∙ ap (λ x. b + x) (add-neg-add 𝓡 a z)

  pub cancel2 : (a b c : R) → a + (b + (c + neg a)) ≡ b + c
  cancel2 a b c = add_left_comm 𝓡 a b (c + neg a) ∙ ap (λ x. b + x) (cancel1 a c)

  pub cancel2' : (a b c z : R) → a + (b + (c + (neg a + z))) ≡ b + (c + z)
  cancel2' a b c z = add_left_comm 𝓡 a b (c + (neg a + z)) ∙ ap (λ x. b + x) (cancel1' a c z)

  pub cancel3 : (a b c d : R) → a + (b + (c + (d + neg a))) ≡ b + (c + d)
  cancel3 a b c d = add_left_comm 𝓡 a b (c + (d + neg a)) ∙ ap (λ x. b + x) (cancel2 a c d)

  pub cancel3' : (a b c d z : R) → a + (b + (c + (d + (neg a + z)))) ≡ b + (c + (d + z))
  cancel3' a b c d z = add_left_comm 𝓡 a b (c + (d + (neg a + z))) ∙ ap (λ x. b + x) (cancel2' a c d z)

  pub cancel4 : (a b c d e : R) → a + (b + (c + (d + (e + neg a)))) ≡ b + (c + (d + e))
  cancel4 a b c d e = add_left_comm 𝓡 a b (c + (d + (e + neg a))) ∙ ap (λ x. b + x) (cancel3 a c d e)

  pub cancel4' : (a b c d e z : R) → a + (b + (c + (d + (e + (neg a + z))))) ≡ b + (c + (d + (e + z)))
  cancel4' a b c d e z = add_left_comm 𝓡 a b (c + (d + (e + (neg a + z)))) ∙ ap (λ x. b + x) (cancel3' a c d e z)

  pub cancel5 : (a b c d e f : R) → a + (b + (c + (d + (e + (f + neg a))))) ≡ b + (c + (d + (e + f)))
  cancel5 a b c d e f = add_left_comm 𝓡 a b (c + (d + (e + (f + neg a)))) ∙ ap (λ x. b + x) (cancel4 a c d e f)

  pub cancel5' : (a b c d e f z : R) → a + (b + (c + (d + (e + (f + (neg a + z)))))) ≡ b + (c + (d + (e + (f + z))))
  cancel5' a b c d e f z = add_left_comm 𝓡 a b (c + (d + (e + (f + (neg a + z))))) ∙ ap (λ x. b + x) (cancel4' a c d e f z)

  pub pow-zero : (a : R) → pow 𝓡 a zero ≡ 𝟙
  unfolding pow
  pow-zero a = refl

  pub pow-suc : (a : R) (m : ℕ) → pow 𝓡 a (suc m) ≡ a * pow 𝓡 a m
  unfolding pow
  pow-suc a m = refl

  pub pow-first : (a : R) → pow 𝓡 a 1 ≡ a
  pow-first a = pow-suc a zero ∙ ap (λ x. a * x) (pow-zero a) ∙ mul-one 𝓡 a

  pub pow-one : (m : ℕ) → pow 𝓡 𝟙 m ≡ 𝟙
  pow-one zero = pow-zero 𝟙
  pow-one (suc m) = pow-suc 𝟙 m ∙ one-mul 𝓡 (pow 𝓡 𝟙 m) ∙ pow-one m

  pub pow-none : (m : ℕ) → 0 < m → pow 𝓡 𝟘 m ≡ 𝟘
  pow-none zero l = elim l [ ]
  pow-none (suc m) l = pow-suc 𝟘 m ∙ zero-mul 𝓡 (pow 𝓡 𝟘 m)

  pub pow-zero-mul : (a b : R) → pow 𝓡 a zero * b ≡ b
  pow-zero-mul a b = simp (pow-zero, one-mul)

  pub pow-suc-mul : (a : R) (m : ℕ) (b : R) → pow 𝓡 a (suc m) * b ≡ a * (pow 𝓡 a m * b)
  pow-suc-mul a m b = simp (pow-suc, mul_assoc)

  pub pow-add : (a : R) (m n : ℕ) → pow 𝓡 a (m +ₙ n) ≡ pow 𝓡 a m * pow 𝓡 a n
  pow-add a zero n = ap (pow 𝓡 a) (zeroₙ-add n) ∙ sym (pow-zero-mul a (pow 𝓡 a n))
  pow-add a (suc m) n =
      ap (pow 𝓡 a) (suc-add m n) ∙ pow-suc a (m +ₙ n) ∙ ap (λ x. a * x) (pow-add a m n) ∙ sym (pow-suc-mul a m (pow 𝓡 a n))

  pub prod-zero : (F : ℕ → R) → prod 𝓡 zero F ≡ 𝟙
  unfolding prod
  prod-zero F = refl

  pub prod-suc : (n : ℕ) (F : ℕ → R) → prod 𝓡 (suc n) F ≡ F zero * prod 𝓡 n (λ i. F (suc i))
  unfolding prod
  prod-suc n F = refl

  pub prod-ext : (n : ℕ) {F G : ℕ → R} → ((i : ℕ) → i < n → F i ≡ G i) → prod 𝓡 n F ≡ prod 𝓡 n G
  prod-ext zero {F} {G} h = prod-zero F ∙ sym (prod-zero G)
  prod-ext (suc n) {F} {G} h =
      prod-suc n F ∙ ap₂ ◌*◌ (h zero (omega arith)) (prod-ext n (λ i l. h (suc i) (omega arith))) ∙ sym (prod-suc n G)

  pub prod-append : (n m : ℕ) (F : ℕ → R) → prod 𝓡 (n +ₙ m) F ≡ prod 𝓡 n F * prod 𝓡 m (λ i. F (n +ₙ i))
  prod-append zero m F =
      ap (λ x. prod 𝓡 x F) (zeroₙ-add m) ∙ sym (one-mul 𝓡 (prod 𝓡 m F)) ∙ ap₂ ◌*◌ (sym (prod-zero F)) (prod-ext m (λ i l. ap F (sym (zeroₙ-add i))))
  prod-append (suc n) m F =
      ap (λ x. prod 𝓡 x F) (suc-add n m) ∙ prod-suc (n +ₙ m) F
      ∙ ap (λ x. F zero * x) (prod-append n m (λ i. F (suc i))) ∙ sym (mul_assoc 𝓡 (F zero) (prod 𝓡 n (λ i. F (suc i))) (prod 𝓡 m (λ i. F (suc (n +ₙ i)))))
      ∙ ap₂ ◌*◌ (sym (prod-suc n F)) (prod-ext m (λ i l. ap F (sym (suc-add n i))))

  abbrev pub prod_from : ℕ → ℕ → (ℕ → R) → R
  prod_from i n F = prod 𝓡 (n - i) (λ l. F (i +ₙ l))

  pub prod_from-zero : (n : ℕ) (F : ℕ → R) → prod_from zero n F ≡ prod 𝓡 n F
  prod_from-zero n F = simp (sub-zero, zeroₙ-add)

  -- the first factor taken off
  pub prod_from-suc : (i n : ℕ) (F : ℕ → R) → i < n → prod_from i n F ≡ F i * prod_from (suc i) n F
  prod_from-suc i n F l =
      let e : n - i ≡ suc (n - suc i) = omega arith in
      let e₀ : i +ₙ zero ≡ i = omega arith in
      ap (λ x. prod 𝓡 x (λ l. F (i +ₙ l))) e ∙ prod-suc (n - suc i) (λ l. F (i +ₙ l))
      ∙ ap₂ ◌*◌ (ap F e₀) (prod-ext (n - suc i) (λ l _. ap F (let e₁ : i +ₙ suc l ≡ suc i +ₙ l = omega arith in e₁)))

pub record IsField {R : Type 0} (𝓡 : CommRing R) : Type 0 where
  pub nontrivial : 𝓡.𝟘 ≢ 𝓡.𝟙
  pub inverse : (a : R) → a ≢ 𝓡.𝟘 → (b : R) × (𝓡.mul a b ≡ 𝓡.𝟙)

module _ {R : Type 0} (𝓡 : CommRing R) (field : IsField 𝓡) where
  open 𝓡 use {𝟘, 𝟙, mul as ◌*◌}

  infixl 70 ◌*◌
  pub no-zero-divisor : (a b : R) → a ≢ 𝟘 → a * b ≡ 𝟘 → b ≡ 𝟘
  no-zero-divisor a b ne e =
      let (w, u) = field.inverse a ne in
      cc (u, one-mul 𝓡 b, mul_comm 𝓡 a w, mul_assoc 𝓡 w a b, mul-zero 𝓡 w)

-- opposites are moved inwards to single products, and cancelled where both stand within five summands of one another
pub ruleset minus = (units, neg_sum, neg-mul, mul-neg, neg-neg, neg-zero, add-neg, neg-add, add-neg-add, neg-add-add, cancel1, cancel1', cancel2, cancel2', cancel3, cancel3', cancel4, cancel4', cancel5, cancel5')

-- division with remainder goes through products: a = α + l a' makes (r + l q) a = r α + l (r a' + q a)
module _ {R : Type 0} (𝓡 : CommRing R) where
  open 𝓡 use {add as ◌+◌, mul as ◌*◌}

  infixl 65 ◌+◌
  infixl 70 ◌*◌
  pub expand : (r α l a' q a : R) → a ≡ α + l * a' → (r + l * q) * a ≡ r * α + l * (r * a' + q * a)
  expand r α l a' q a e = add-mul 𝓡 r (l * q) a ∙ ap (λ x. r * x + l * q * a) e ∙ simp ring
