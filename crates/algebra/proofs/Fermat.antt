-- Fermat's little theorem in F_p, by derivatives. N k is k times 1, in any ring.
--   der a          the derivative: its coefficient k is k + 1 times that of Y^(k + 1)
--   der-power      that of (Y − c)^(n + 1) is n + 1 times (Y − c)^n
--   still-const    a polynomial of degree below p with the derivative 0 is constant, where 1, .., p − 1 can be divided by
--   next_power     so (1 + x)^p = 1 + x^p, where p times 1 is 0
--   fermat         x^p = x
--   frob           Y^p − Y
--   line-divides   Y − c divides it
-- Assumes nothing.
use Prim.Native.Nat.{ℕ, zero, suc, ◌+◌ as ◌+ₙ◌, ◌-◌, ◌<◌, Fin}
use native.Mathlib.Nat.{mod-eq_of_lt, mod_self}
use native.Mathlib.Decide.{dec_lt}
use native.Mathlib.Omega.{arith}
use mathlib.Core.Path.{◌≡◌, sym, ◌∙◌, ap, ap₂, fun_ext}
use Rattle.algebra.specs.Prime.{Prime}
use Rattle.algebra.specs.internal.Ring.{CommRing, ring, units, add_assoc, add-neg, add-zero, zero-add, mul-add, zero-mul, mul-zero, mul_comm, mul_left_comm, add-cancel-right, pow}
use Rattle.algebra.specs.internal.Series.{Series}
use Rattle.algebra.specs.internal.Poly.{const, lin, lin_pow, SameModulo}
use Rattle.algebra.specs.internal.Fp.{Fp, rem}
use Rattle.algebra.proofs.RingLaws.{minus, no-zero-divisor, neg-zero, neg-neg, mul-neg, pow-zero, pow-suc, pow-one, pow-none}
use Rattle.algebra.proofs.SeriesLaws.{add_at, neg-at, zero-at, one_at}
use Rattle.algebra.proofs.PolyLaws.{const-coeff-zero, const-coeff-suc, const-mul, const-zero, lin-mul-zero, lin-mul-suc, Below, Poly, below_more, below_last, below-add, below-neg, below-lin, below-lin_pow, lin_pow-top, poly-add, poly-neg, poly-pow, poly-lin, eval, quot, quot-poly, div, eval_add, eval-neg, eval-const, eval-lin_pow, eval-bound, eval-lin}
use Rattle.algebra.proofs.FpLaws.{Fp-field, p-pos, rem-add, rem-val}
use Rattle.algebra.proofs.BridgeLaws.{rem-zero, rem-one, same-rem}

-- the product rule, over ring variables
module _ {S : Type 0} (𝓢 : CommRing S) where
  open 𝓢 use {𝟙, add as ◌+◌, mul as ◌*◌}

  infixl 65 ◌+◌
  infixl 70 ◌*◌
  product-step : (m c a b : S) → (𝟙 + m) * (c * b + a) ≡ a + (c * ((𝟙 + m) * b) + m * a)
  product-step m c a b = simp (ring, units)

module _ {R : Type 0} (𝓡 : CommRing R) (N : ℕ → R) (none : N zero ≡ 𝓡.𝟘) (next : (k : ℕ) → N (suc k) ≡ 𝓡.add 𝓡.𝟙 (N k)) where
  open 𝓡 use {𝟘, 𝟙, add as ◌+◌, mul as ◌*◌, neg}
  open Series 𝓡 use {𝟘 as 𝟘ₛ, add as ◌⊕◌, mul as ◌⊛◌, neg as ⊖}

  infixl 65 ◌+◌
  infixl 70 ◌*◌
  infixl 65 ◌⊕◌
  infixl 70 ◌⊛◌
  abbrev der : (ℕ → R) → ℕ → R
  der a k = N (suc k) * a (suc k)

  der-lin : (c : R) (a : ℕ → R) (k : ℕ) → der (lin 𝓡 c ⊛ a) k ≡ a k + (lin 𝓡 c ⊛ der a) k
  der-lin c a zero =
      ap₂ ◌*◌ (next zero) (lin-mul-suc 𝓡 c a zero) ∙ product-step 𝓡 (N zero) (neg c) (a zero) (a 1)
      ∙ ap₂ (λ x y. a zero + (neg c * (x * a 1) + y)) (sym (next zero)) (ap (λ x. x * a zero) none ∙ zero-mul 𝓡 (a zero))
      ∙ ap (λ x. a zero + x) (add-zero 𝓡 _ ∙ sym (lin-mul-zero 𝓡 c (der a)))
  der-lin c a (suc k) =
      ap₂ ◌*◌ (next (suc k)) (lin-mul-suc 𝓡 c a (suc k)) ∙ product-step 𝓡 (N (suc k)) (neg c) (a (suc k)) (a (suc (suc k)))
      ∙ ap (λ x. a (suc k) + (neg c * (x * a (suc (suc k))) + der a k)) (sym (next (suc k))) ∙ ap (λ x. a (suc k) + x) (sym (lin-mul-suc 𝓡 c (der a) k))

  der-next : (c : R) (n k : ℕ) → der (lin_pow 𝓡 c (suc n)) k ≡ lin_pow 𝓡 c n k + (lin 𝓡 c ⊛ der (lin_pow 𝓡 c n)) k
  der-next c n k = ap (λ x. der x k) (pow-suc (Series 𝓡) (lin 𝓡 c) n) ∙ der-lin c (lin_pow 𝓡 c n) k

  der-power : (c : R) (n k : ℕ) → der (lin_pow 𝓡 c (suc n)) k ≡ N (suc n) * lin_pow 𝓡 c n k
  der-power c zero k =
      let no-der : der (lin_pow 𝓡 c zero) ≡ 𝟘ₛ = fun_ext (λ j. rw (pow-zero (Series 𝓡) (lin 𝓡 c), one_at 𝓡, zero-at 𝓡 j) (mul-zero 𝓡 _)) in
      der-next c zero k ∙ ap (λ x. lin_pow 𝓡 c zero k + (lin 𝓡 c ⊛ x) k) no-der ∙ rw (mul-zero (Series 𝓡) (lin 𝓡 c), zero-at 𝓡 k, next zero, none) (simp (units, 𝓡))
  der-power c (suc n) k =
      der-next c (suc n) k ∙ ap (λ x. lin_pow 𝓡 c (suc n) k + (lin 𝓡 c ⊛ x) k) (fun_ext (λ j. der-power c n j ∙ sym (const-mul 𝓡 (N (suc n)) (lin_pow 𝓡 c n) j)))
      ∙ ap (λ x. lin_pow 𝓡 c (suc n) k + x k) (mul_left_comm (Series 𝓡) (lin 𝓡 c) (const 𝓡 (N (suc n))) (lin_pow 𝓡 c n)
      ∙ ap (λ x. const 𝓡 (N (suc n)) ⊛ x) (sym (pow-suc (Series 𝓡) (lin 𝓡 c) n)))
      ∙ rw (const-mul 𝓡 (N (suc n)) (lin_pow 𝓡 c (suc n)) k, next (suc n)) (simp (ring, units, 𝓡))

  module _ (n : ℕ) (whole : N (suc n) ≡ 𝟘) (cancel : (k : ℕ) → k < n → (x : R) → N (suc k) * x ≡ 𝟘 → x ≡ 𝟘) where
    still-const : (a : ℕ → R) → Below 𝓡 (suc n) a → ((k : ℕ) → der a k ≡ 𝟘) → a ≡ const 𝓡 (a zero)
    still-const a b h = fun_ext (elim [
      | zero ↦ sym (const-coeff-zero 𝓡 (a zero))
      | suc k ↦ elim (dec_lt k n) [ yes l ↦ cancel k l (a (suc k)) (h k) | no g ↦ b (suc k) (omega arith) ] ∙ sym (const-coeff-suc 𝓡 (a zero) k)
    ])

    still : (c : R) (k : ℕ) → der (lin_pow 𝓡 c (suc n)) k ≡ 𝟘
    still c k = der-power c n k ∙ ap (λ x. x * lin_pow 𝓡 c n k) whole ∙ zero-mul 𝓡 _

    -- (1 + Y)^p − Y^p
    abbrev step : ℕ → R
    step = lin_pow 𝓡 (neg 𝟙) (suc n) ⊕ ⊖ (lin_pow 𝓡 𝟘 (suc n))

    step-at : (k : ℕ) → step k ≡ lin_pow 𝓡 (neg 𝟙) (suc n) k + neg (lin_pow 𝓡 𝟘 (suc n) k)
    step-at k = add_at 𝓡 (lin_pow 𝓡 (neg 𝟙) (suc n)) (⊖ (lin_pow 𝓡 𝟘 (suc n))) k ∙ ap (λ x. lin_pow 𝓡 (neg 𝟙) (suc n) k + x) (neg-at 𝓡 (lin_pow 𝓡 𝟘 (suc n)) k)

    step-const : step ≡ const 𝓡 (step zero)
    step-const = still-const step
        (below_last 𝓡 (below-add 𝓡 (below-lin_pow 𝓡 (neg 𝟙) (suc n)) (below-neg 𝓡 (below-lin_pow 𝓡 𝟘 (suc n))))
        (step-at (suc n) ∙ ap₂ (λ x y. x + neg y) (lin_pow-top 𝓡 (neg 𝟙) (suc n)) (lin_pow-top 𝓡 𝟘 (suc n)) ∙ add-neg 𝓡 𝟙))
        (λ k. ap (λ x. N (suc k) * x) (step-at (suc k)) ∙ mul-add 𝓡 _ _ _
        ∙ ap₂ ◌+◌ (still (neg 𝟙) k) (mul-neg 𝓡 _ _ ∙ ap neg (still 𝟘 k) ∙ neg-zero 𝓡) ∙ add-zero 𝓡 𝟘)

    step_value : (x : R) → step zero ≡ pow 𝓡 (𝟙 + x) (suc n) + neg (pow 𝓡 x (suc n))
    step_value x =
        sym (eval-const 𝓡 x (suc n) (step zero)) ∙ ap (eval 𝓡 x (suc (suc n))) (sym step-const)
        ∙ eval_add 𝓡 x (suc (suc n)) (lin_pow 𝓡 (neg 𝟙) (suc n)) (⊖ (lin_pow 𝓡 𝟘 (suc n)))
        ∙ ap₂ ◌+◌ (eval-lin_pow 𝓡 x (neg 𝟙) (suc n) ∙ ap (λ y. pow 𝓡 (y + x) (suc n)) (neg-neg 𝓡 𝟙))
        (eval-neg 𝓡 x (suc (suc n)) (lin_pow 𝓡 𝟘 (suc n)) ∙ ap neg (eval-lin_pow 𝓡 x 𝟘 (suc n) ∙ ap (λ y. pow 𝓡 y (suc n)) (ap (λ y. y + x) (neg-zero 𝓡) ∙ zero-add 𝓡 x)))

    next_power : (x : R) → pow 𝓡 (𝟙 + x) (suc n) ≡ 𝟙 + pow 𝓡 x (suc n)
    next_power x =
        add-cancel-right 𝓡 (neg (pow 𝓡 x (suc n))) (sym (step_value x) ∙ step_value 𝟘
        ∙ ap₂ (λ y z. y + neg z) (ap (λ y. pow 𝓡 y (suc n)) (add-zero 𝓡 𝟙) ∙ pow-one 𝓡 (suc n)) (pow-none 𝓡 (suc n) (omega arith)) ∙ simp (minus, add_assoc, 𝓡))

-- in F_p
module _ {p : ℕ} (prime : Prime p) where
  abbrev pos : zero < p
  pos = p-pos prime

  abbrev K : CommRing (Fin p)
  K = Fp p pos

  abbrev q : ℕ → Fin p
  q = rem p pos

  q-next : (k : ℕ) → q (suc k) ≡ K.add K.𝟙 (q k)
  q-next k = ap q (suc-is k) ∙ sym (rem-add p pos 1 k) ∙ ap (λ x. K.add x (q k)) (rem-one p pos)
    where
      suc-is : (k : ℕ) → suc k ≡ 1 +ₙ k
      suc-is k = omega arith

  q-whole : q p ≡ K.𝟘
  q-whole = native.Mathlib.Fin.val_path (mod_self p ∙ sym (mod-eq_of_lt pos)) ∙ rem-zero p pos

  q-cancel : (k : ℕ) → suc k < p → (x : Fin p) → K.mul (q (suc k)) x ≡ K.𝟘 → x ≡ K.𝟘
  q-cancel k l x =
      no-zero-divisor K (Fp-field prime) (q (suc k)) x (λ e. let z : suc k ≡ 0 = same-rem p pos l pos (e ∙ sym (rem-zero p pos)) in let y : ⊥ = omega arith in y)

  power-next : (n : ℕ) → p ≡ suc n → (x : Fin p) → pow K (K.add K.𝟙 x) p ≡ K.add K.𝟙 (pow K x p)
  power-next n e x =
      ap (pow K (K.add K.𝟙 x)) e
      ∙ next_power K q (rem-zero p pos) q-next n (ap q (sym e) ∙ q-whole) (λ k l. q-cancel k (omega arith)) x ∙ ap (λ m. K.add K.𝟙 (pow K x m)) (sym e)

  fermat-rem : (k : ℕ) → pow K (q k) p ≡ q k
  fermat-rem zero = ap (λ x. pow K x p) (rem-zero p pos) ∙ pow-none K p pos ∙ sym (rem-zero p pos)
  fermat-rem (suc k) =
      ap (λ x. pow K x p) (q-next k) ∙ power-next (p - 1) (let l = pos in omega arith) (q k) ∙ ap (K.add K.𝟙) (fermat-rem k) ∙ sym (q-next k)

  -- Fermat's little theorem
  pub fermat : (x : Fin p) → pow K x p ≡ x
  fermat x = ap (λ y. pow K y p) (sym (rem-val p pos x)) ∙ fermat-rem x.0 ∙ rem-val p pos x

  abbrev pub frob : ℕ → Fin p
  frob = (Series K).add (lin_pow K K.𝟘 p) ((Series K).neg (lin K K.𝟘))

  pub frob-poly : Poly K frob
  frob-poly = poly-add K (poly-pow K (poly-lin K K.𝟘) p) (poly-neg K (poly-lin K K.𝟘))

  frob-value : (c : Fin p) → eval K c (suc p) frob ≡ K.𝟘
  frob-value c =
      let s : K.add (K.neg K.𝟘) c ≡ c = ap (λ y. K.add y c) (neg-zero K) ∙ zero-add K c in
      let l = prime.two-le in
      eval_add K c (suc p) (lin_pow K K.𝟘 p) ((Series K).neg (lin K K.𝟘))
      ∙ ap₂ K.add
      (eval-lin_pow K c K.𝟘 p ∙ ap (λ y. pow K y p) s ∙ fermat c)
      (eval-neg K c (suc p) (lin K K.𝟘)
      ∙ ap K.neg (eval-bound K c (suc p) 2 (lin K K.𝟘) (below_more K (omega arith) (below-lin K K.𝟘)) (below-lin K K.𝟘) ∙ eval-lin K c K.𝟘 ∙ s))
      ∙ add-neg K c

  pub line-divides : (c : Fin p) → SameModulo K (lin K c) frob (Series K).𝟘
  line-divides c =
      let l = prime.two-le in
      let b : Below K (suc p) frob = below-add K (below-lin_pow K K.𝟘 p) (below-neg K (below_more K (omega arith) (below-lin K K.𝟘))) in
      record {
        quotient = quot K c (suc p) frob;
        bounded = quot-poly K c (suc p) frob frob-poly;
        same = div K c (suc p) frob b ∙ ap₂ (Series K).add (ap (const K) (frob-value c) ∙ const-zero K) (mul_comm (Series K) (lin K c) (quot K c (suc p) frob));
      }
