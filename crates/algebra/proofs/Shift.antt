-- The shift: f(Y + c) for polynomials of bounded degree over any commutative ring, and column by column.
--   shift c n a           a(Y + c), where a has degree below n: a 0 + (Y + c) · (the shift of what follows)
--   shift_columns c n f    each column shifted
--   shift-prod            the shift of a product of monic polynomials is the product of their shifts
-- Y + c is `lin (neg c)`. Assumes nothing.
use Prim.Native.Nat.{ℕ, zero, suc, ◌+◌ as ◌+ₙ◌, ◌<◌}
use native.Mathlib.Nat.{suc-add, add-suc, add-zero as addₙ-zero, add_comm as addₙ-comm}
use native.Mathlib.Omega.{arith}
use mathlib.Core.Path.{◌≡◌, refl, sym, ◌∙◌, ap, ap₂, subst, fun_ext}
use Rattle.algebra.specs.Sums.{sum_to}
use Rattle.algebra.proofs.SumsLaws.{sum_to-zero}
use Rattle.algebra.specs.internal.Ring.{CommRing, ring, units, add_comm, add-neg, zero-add, zero-mul, mul-one, mul_left_comm, pow, prod}
use Rattle.algebra.proofs.RingLaws.{minus, neg-neg, expand, pow-zero, pow-suc, prod-zero, prod-suc}
use Rattle.algebra.specs.internal.Series.{Series, tail, conv, conv-zero, conv-suc}
use Rattle.algebra.proofs.SeriesLaws.{sum, sum-zero, sum-suc, sum-scale, sum-ext, add_at, mul-at-zero, mul-at-suc, sum-at, tail-add, one_at}
use Rattle.algebra.specs.internal.Poly.{const, lin, lin_pow, Columns}
use Rattle.algebra.proofs.PolyLaws.{const-coeff-zero, const-coeff-suc, lin-coeff-zero, lin-coeff-suc, const-mul, const-const, const-zero, const-add, one-const, Below, below-zero, below_more, below-tail, below-𝟘, below-add, below-const, below_one, below-lin, below-mul, below-lin-mul, poly-pow, horner-zero, eval, eval-suc, eval_add, eval-const, eval_mul, eval-lin, head_tail}
use Rattle.algebra.proofs.ColumnsLaws.{mul-columns, conv-below}
use Rattle.algebra.proofs.Chain.{Monic, prod-monic}

-- the identities behind it, over ring variables
module _ {S : Type 0} (𝓢 : CommRing S) where
  open 𝓢 use {add as ◌+◌, mul as ◌*◌}

  infixl 65 ◌+◌
  infixl 70 ◌*◌
  regroup : (α β m s s' : S) → α + β + m * (s + s') ≡ α + m * s + (β + m * s')
  regroup α β m s s' = simp ring

  factor-out : (x α m s : S) → x * α + m * (x * s) ≡ x * (α + m * s)
  factor-out x α m s = simp ring

module _ {R : Type 0} (𝓡 : CommRing R) where
  open 𝓡 use {𝟘, 𝟙, add as ◌+◌, mul as ◌*◌, neg}
  open Series 𝓡 use {𝟘 as 𝟘ₛ, 𝟙 as 𝟙ₛ, add as ◌⊕◌, mul as ◌⊛◌, neg as ⊖}

  infixl 65 ◌+◌
  infixl 70 ◌*◌
  infixl 65 ◌⊕◌
  infixl 70 ◌⊛◌
  unfoldable pub shift : R → ℕ → (ℕ → R) → ℕ → R
  shift c zero a = 𝟘ₛ
  shift c (suc n) a = const 𝓡 (a zero) ⊕ lin 𝓡 (neg c) ⊛ shift c n (tail a)

  tail-scale : (x : R) (a : ℕ → R) → tail (const 𝓡 x ⊛ a) ≡ const 𝓡 x ⊛ tail a
  tail-scale x a = fun_ext (λ t. const-mul 𝓡 x a (suc t) ∙ sym (const-mul 𝓡 x (tail a) t))

  tail-mul : (a b : ℕ → R) → tail (a ⊛ b) ≡ const 𝓡 (a zero) ⊛ tail b ⊕ tail a ⊛ b
  tail-mul a b = fun_ext (λ t. mul-at-suc 𝓡 a b t ∙ ap (λ x. x + (tail a ⊛ b) t) (sym (const-mul 𝓡 (a zero) (tail b) t)) ∙ sym (add_at 𝓡 (const 𝓡 (a zero) ⊛ tail b) (tail a ⊛ b) t))

  module _ (c : R) where
    abbrev K : R → ℕ → R
    K = const 𝓡

    -- Y + c
    abbrev M : ℕ → R
    M = lin 𝓡 (neg c)

    pub shift_zero : (a : ℕ → R) → shift c zero a ≡ 𝟘ₛ
    unfolding shift
    shift_zero a = refl

    pub shift_suc : (n : ℕ) (a : ℕ → R) → shift c (suc n) a ≡ const 𝓡 (a zero) ⊕ lin 𝓡 (neg c) ⊛ shift c n (tail a)
    unfolding shift
    shift_suc n a = refl

    -- the degree stays below n
    pub shift-below : (n : ℕ) (a : ℕ → R) → Below 𝓡 n (shift c n a)
    shift-below zero a = rw (shift_zero a) (below-𝟘 𝓡)
    shift-below (suc n) a = rw (shift_suc n a) (below-add 𝓡 (below_more 𝓡 (omega arith) (below-const 𝓡 (a zero))) (below-lin-mul 𝓡 (neg c) (shift-below n (tail a))))

    shift-more : (n : ℕ) (a : ℕ → R) → Below 𝓡 n a → shift c (suc n) a ≡ shift c n a
    shift-more zero a h = rw (shift_suc zero a, h zero (omega arith), shift_zero (tail a), shift_zero a) (simp (const-zero, units))
    shift-more (suc n) a h = shift_suc (suc n) a ∙ ap (λ x. K (a zero) ⊕ M ⊛ x) (shift-more n (tail a) (below-tail 𝓡 h)) ∙ sym (shift_suc n a)

    shift-far : (n k : ℕ) (a : ℕ → R) → Below 𝓡 n a → shift c (n +ₙ k) a ≡ shift c n a
    shift-far n zero a h = ap (λ x. shift c x a) (addₙ-zero n)
    shift-far n (suc k) a h = ap (λ x. shift c x a) (add-suc n k) ∙ shift-more (n +ₙ k) a (below_more 𝓡 (omega arith) h) ∙ shift-far n k a h

    -- it does not depend on the bound
    pub shift-bound : (n k : ℕ) (a : ℕ → R) → Below 𝓡 n a → Below 𝓡 k a → shift c n a ≡ shift c k a
    shift-bound n k a h g = sym (shift-far n k a h) ∙ ap (λ x. shift c x a) (addₙ-comm n k) ∙ shift-far k n a g

    pub shift-𝟘 : (n : ℕ) → shift c n 𝟘ₛ ≡ 𝟘ₛ
    shift-𝟘 n = shift-bound n zero 𝟘ₛ (below_more 𝓡 (omega arith) (below-𝟘 𝓡)) (below-𝟘 𝓡) ∙ shift_zero 𝟘ₛ

    pub shift-const : (n : ℕ) (x : R) → shift c (suc n) (const 𝓡 x) ≡ const 𝓡 x
    unfolding const
    shift-const n x = shift_suc n (K x) ∙ ap (λ y. K x ⊕ M ⊛ y) (shift-𝟘 n) ∙ simp units

    pub shift_one : (n : ℕ) → shift c (suc n) 𝟙ₛ ≡ 𝟙ₛ
    shift_one n = rw one-const (shift-const n 𝟙)

    pub shift-add : (n : ℕ) (a b : ℕ → R) → shift c n (a ⊕ b) ≡ shift c n a ⊕ shift c n b
    shift-add zero a b = simp (shift_zero, units)
    shift-add (suc n) a b =
        shift_suc n (a ⊕ b)
        ∙ ap₂ (λ x y. x ⊕ M ⊛ y) (ap K (add_at 𝓡 a b zero) ∙ const-add 𝓡 (a zero) (b zero)) (ap (shift c n) (tail-add 𝓡 a b) ∙ shift-add n (tail a) (tail b))
        ∙ regroup (Series 𝓡) (K (a zero)) (K (b zero)) M (shift c n (tail a)) (shift c n (tail b)) ∙ ap₂ ◌⊕◌ (sym (shift_suc n a)) (sym (shift_suc n b))

    pub shift-scale : (n : ℕ) (x : R) (a : ℕ → R) → shift c n (const 𝓡 x ⊛ a) ≡ const 𝓡 x ⊛ shift c n a
    shift-scale zero x a = simp (shift_zero, units)
    shift-scale (suc n) x a =
        shift_suc n (K x ⊛ a)
        ∙ ap₂ (λ y z. y ⊕ M ⊛ z) (ap K (const-mul 𝓡 x a zero) ∙ sym (const-const 𝓡 x (a zero))) (ap (shift c n) (tail-scale x a) ∙ shift-scale n x (tail a))
        ∙ factor-out (Series 𝓡) (K x) (K (a zero)) M (shift c n (tail a)) ∙ ap (λ y. K x ⊛ y) (sym (shift_suc n a))

    -- the shift as a sum of powers of Y + c
    pub shift-powers : (n : ℕ) (a : ℕ → R) → shift c (suc n) a ≡ sum (Series 𝓡) (λ i. const 𝓡 (a i) ⊛ lin_pow 𝓡 (neg c) i) n
    shift-powers zero a = rw (shift_suc zero a, shift_zero (tail a)) (simp (sum-zero, pow-zero, units))
    shift-powers (suc n) a =
        rw (shift_suc (suc n) a, shift-powers n (tail a), ← sum-scale (Series 𝓡) M (λ i. K (a (suc i)) ⊛ lin_pow 𝓡 (neg c) i) n, sum-suc (Series 𝓡) (λ i. K (a i) ⊛ lin_pow 𝓡 (neg c) i) n)
        (ap₂ ◌⊕◌ (sym (ap (λ x. K (a zero) ⊛ x) (pow-zero (Series 𝓡) M) ∙ mul-one (Series 𝓡) (K (a zero))))
        (sum-ext (Series 𝓡) n (λ i l. mul_left_comm (Series 𝓡) M (K (a (suc i))) (lin_pow 𝓡 (neg c) i) ∙ ap (λ x. K (a (suc i)) ⊛ x) (sym (pow-suc (Series 𝓡) M i)))))

    -- coefficient j is the sum over i ≤ n of a i · coefficient j of (Y + c)^i
    pub shift-sum : (n : ℕ) (a : ℕ → R) (j : ℕ) → shift c (suc n) a j ≡ sum 𝓡 (λ i. a i * lin_pow 𝓡 (neg c) i j) n
    shift-sum n a j =
        ap (λ x. x j) (shift-powers n a) ∙ sum-at 𝓡 (λ i. K (a i) ⊛ lin_pow 𝓡 (neg c) i) n j
        ∙ sum-ext 𝓡 n (λ i l. const-mul 𝓡 (a i) (lin_pow 𝓡 (neg c) i) j)

    -- products
    pub shift-mul : (n k : ℕ) (a b : ℕ → R) → Below 𝓡 n a → Below 𝓡 k b → shift c (n +ₙ k) (a ⊛ b) ≡ shift c n a ⊛ shift c k b
    shift-mul zero k a b h g =
        ap (shift c (zero +ₙ k)) (ap (λ x. x ⊛ b) (below-zero 𝓡 h) ∙ zero-mul (Series 𝓡) b) ∙ shift-𝟘 (zero +ₙ k)
        ∙ sym (ap (λ x. x ⊛ shift c k b) (shift_zero a) ∙ zero-mul (Series 𝓡) (shift c k b))
    shift-mul (suc n) k a b h g =
        let e : shift c k b ≡ K (b zero) ⊕ M ⊛ shift c (n +ₙ k) (tail b) = shift-bound k (suc (n +ₙ k)) b g (below_more 𝓡 (omega arith) g) ∙ shift_suc (n +ₙ k) b in
        ap (λ x. shift c x (a ⊛ b)) (suc-add n k) ∙ shift_suc (n +ₙ k) (a ⊛ b)
        ∙ ap₂ (λ x y. x ⊕ M ⊛ y) (ap K (mul-at-zero 𝓡 a b) ∙ sym (const-const 𝓡 (a zero) (b zero)))
        (ap (shift c (n +ₙ k)) (tail-mul a b) ∙ shift-add (n +ₙ k) (K (a zero) ⊛ tail b) (tail a ⊛ b)
        ∙ ap₂ ◌⊕◌ (shift-scale (n +ₙ k) (a zero) (tail b)) (shift-mul n k (tail a) b (below-tail 𝓡 h) g))
        ∙ sym (expand (Series 𝓡) (K (a zero)) (K (b zero)) M (shift c (n +ₙ k) (tail b)) (shift c n (tail a)) (shift c k b) e)
        ∙ ap (λ x. x ⊛ shift c k b) (sym (shift_suc n a))

    -- with any bound of the product
    pub shift-mul-at : (n k l : ℕ) (a b : ℕ → R) → Below 𝓡 n a → Below 𝓡 k b → Below 𝓡 l (a ⊛ b) → shift c l (a ⊛ b) ≡ shift c n a ⊛ shift c k b
    shift-mul-at n k l a b h g w = shift-bound l (n +ₙ k) (a ⊛ b) w (below-mul 𝓡 n k a b h g) ∙ shift-mul n k a b h g

    pub shift-pow : (n l m : ℕ) (a : ℕ → R) → Below 𝓡 n a → Below 𝓡 l (pow (Series 𝓡) a m) → shift c l (pow (Series 𝓡) a m) ≡ pow (Series 𝓡) (shift c n a) m
    shift-pow n l zero a h w =
        shift-bound l 1 (pow (Series 𝓡) a zero) w (rw (pow-zero (Series 𝓡) a) (below_one 𝓡)) ∙ ap (shift c 1) (pow-zero (Series 𝓡) a) ∙ shift_one zero
        ∙ sym (pow-zero (Series 𝓡) (shift c n a))
    shift-pow n l (suc m) a h w =
        let (k, g) = poly-pow 𝓡 (n, h) m in
        ap (shift c l) (pow-suc (Series 𝓡) a m) ∙ shift-mul-at n k l a (pow (Series 𝓡) a m) h g (subst (Below 𝓡 l) (pow-suc (Series 𝓡) a m) w)
        ∙ ap (λ x. shift c n a ⊛ x) (shift-pow n k m a h g) ∙ sym (pow-suc (Series 𝓡) (shift c n a) m)

    add-lin : (d : R) → const 𝓡 (neg d) ⊕ lin 𝓡 (neg c) ≡ lin 𝓡 (d + neg c)
    add-lin d = fun_ext (elim [
      | zero ↦ simp (add_at, const-coeff-zero, lin-coeff-zero, minus, 𝓡)
      | suc t ↦ simp (add_at, const-coeff-suc, lin-coeff-suc, zero-add, 𝓡)
    ])

    shift-lin-suc : (n : ℕ) (d : R) → shift c (suc n) (lin 𝓡 d) ≡ const 𝓡 (neg d) ⊕ lin 𝓡 (neg c) ⊛ shift c n 𝟙ₛ
    unfolding lin
    shift-lin-suc n d = shift_suc n (lin 𝓡 d)

    -- Y − d becomes Y − (d − c)
    pub shift-lin : (n : ℕ) (d : R) → shift c (suc (suc n)) (lin 𝓡 d) ≡ lin 𝓡 (d + neg c)
    shift-lin n d = shift-lin-suc (suc n) d ∙ ap (λ x. K (neg d) ⊕ x) (ap (λ x. M ⊛ x) (shift_one n) ∙ mul-one (Series 𝓡) M) ∙ add-lin d

    pub shift-lin_pow : (l m : ℕ) (d : R) → Below 𝓡 l (lin_pow 𝓡 d m) → shift c l (lin_pow 𝓡 d m) ≡ lin_pow 𝓡 (d + neg c) m
    shift-lin_pow l m d w = shift-pow 2 l m (lin 𝓡 d) (below-lin 𝓡 d) w ∙ ap (λ x. pow (Series 𝓡) x m) (shift-lin zero d)

    -- values: at x of the shifted is at x + c of the polynomial
    pub eval-shift : (x : R) (n : ℕ) (a : ℕ → R) → eval 𝓡 x n (shift c n a) ≡ eval 𝓡 (x + c) n a
    eval-shift x zero a = horner-zero 𝓡 x (shift c zero a) zero ∙ sym (horner-zero 𝓡 (x + c) a zero)
    eval-shift x (suc n) a =
        let s = shift c n (tail a) in
        let b : Below 𝓡 n s = shift-below n (tail a) in
        ap (eval 𝓡 x (suc n)) (shift_suc n a) ∙ eval_add 𝓡 x (suc n) (K (a zero)) (M ⊛ s)
        ∙ ap₂ ◌+◌ (eval-const 𝓡 x n (a zero))
        (eval_mul 𝓡 x n s b 2 (suc n) M (below-lin 𝓡 (neg c)) (below-lin-mul 𝓡 (neg c) b)
        ∙ ap₂ ◌*◌ (eval-lin 𝓡 x (neg c) ∙ ap (λ y. y + x) (neg-neg 𝓡 c) ∙ add_comm 𝓡 c x) (eval-shift x n (tail a)))
        ∙ sym (eval-suc 𝓡 (x + c) n a)

  -- the shift by c is undone by the shift by −c
  pub shift-inverse : (c : R) (n : ℕ) (a : ℕ → R) → Below 𝓡 n a → shift (neg c) n (shift c n a) ≡ a
  shift-inverse c zero a h = shift_zero (neg c) (shift c zero a) ∙ sym (below-zero 𝓡 h)
  shift-inverse c (suc n) a h =
      let M = lin 𝓡 (neg c) in
      let s = shift c n (tail a) in
      let b : Below 𝓡 n s = shift-below c n (tail a) in
      ap (shift (neg c) (suc n)) (shift_suc c n a) ∙ shift-add (neg c) (suc n) (const 𝓡 (a zero)) (M ⊛ s)
      ∙ ap₂ ◌⊕◌ (shift-const (neg c) n (a zero))
      (shift-mul-at (neg c) 2 n (suc n) M s (below-lin 𝓡 (neg c)) b (below-lin-mul 𝓡 (neg c) b)
      ∙ ap₂ ◌⊛◌ (shift-lin (neg c) zero (neg c) ∙ ap (lin 𝓡) (add-neg 𝓡 (neg c))) (shift-inverse c n (tail a) (below-tail 𝓡 h)))
      ∙ head_tail 𝓡 a

  pub inverse-shift : (c : R) (n : ℕ) (a : ℕ → R) → Below 𝓡 n a → shift c n (shift (neg c) n a) ≡ a
  inverse-shift c n a h = ap (λ x. shift x n (shift (neg c) n a)) (sym (neg-neg 𝓡 c)) ∙ shift-inverse (neg c) n a h

  -- columns
  abbrev pub shift_columns : R → ℕ → (ℕ → ℕ → R) → ℕ → ℕ → R
  shift_columns c n f t = shift c n (f t)

  shift-conv : (c : R) (n k t : ℕ) (f g : ℕ → ℕ → R) → ((i : ℕ) → Below 𝓡 n (f i)) → ((i : ℕ) → Below 𝓡 k (g i))
      → shift c (n +ₙ k) (conv (Series 𝓡) f g t) ≡ conv (Series 𝓡) (shift_columns c n f) (shift_columns c k g) t
  shift-conv c n k zero f g h w =
      ap (shift c (n +ₙ k)) (conv-zero (Series 𝓡) f g) ∙ shift-mul c n k (f zero) (g zero) (h zero) (w zero)
      ∙ sym (conv-zero (Series 𝓡) (shift_columns c n f) (shift_columns c k g))
  shift-conv c n k (suc t) f g h w =
      ap (shift c (n +ₙ k)) (conv-suc (Series 𝓡) f g t) ∙ shift-add c (n +ₙ k) (f zero ⊛ g (suc t)) (conv (Series 𝓡) (tail f) g t)
      ∙ ap₂ ◌⊕◌ (shift-mul c n k (f zero) (g (suc t)) (h zero) (w (suc t))) (shift-conv c n k t (tail f) g (λ i. h (suc i)) w)
      ∙ sym (conv-suc (Series 𝓡) (shift_columns c n f) (shift_columns c k g) t)

  pub shift-columns-mul : (c : R) (n k : ℕ) (f g : ℕ → ℕ → R) → ((t : ℕ) → Below 𝓡 n (f t)) → ((t : ℕ) → Below 𝓡 k (g t))
      → shift_columns c (n +ₙ k) ((Columns 𝓡).mul f g) ≡ (Columns 𝓡).mul (shift_columns c n f) (shift_columns c k g)
  shift-columns-mul c n k f g h w = fun_ext (λ t.
      ap (shift c (n +ₙ k)) (mul-columns 𝓡 f g t) ∙ shift-conv c n k t f g h w ∙ sym (mul-columns 𝓡 (shift_columns c n f) (shift_columns c k g) t))

  -- with any bound of the product
  pub shift-columns-mul-at : (c : R) (n k l : ℕ) (f g : ℕ → ℕ → R) → ((t : ℕ) → Below 𝓡 n (f t)) → ((t : ℕ) → Below 𝓡 k (g t)) → ((t : ℕ) → Below 𝓡 l ((Columns 𝓡).mul f g t))
      → shift_columns c l ((Columns 𝓡).mul f g) ≡ (Columns 𝓡).mul (shift_columns c n f) (shift_columns c k g)
  shift-columns-mul-at c n k l f g h w b =
      fun_ext (λ t. shift-bound c l (n +ₙ k) ((Columns 𝓡).mul f g t) (b t) (rw (mul-columns 𝓡 f g t) (conv-below 𝓡 n k t f g (λ i _. h i) (λ i _. below_more 𝓡 (omega arith) (w i)))))
      ∙ shift-columns-mul c n k f g h w

  shift-columns-one : (c : R) → shift_columns c 1 (Columns 𝓡).𝟙 ≡ (Columns 𝓡).𝟙
  shift-columns-one c = fun_ext (elim [
    | zero ↦ ap (shift c 1) one ∙ shift_one c zero ∙ sym one
    | suc t ↦ ap (shift c 1) (more t) ∙ shift-𝟘 c 1 ∙ sym (more t)
  ])
    where
      one : (Columns 𝓡).𝟙 zero ≡ 𝟙ₛ
      one = ap (λ x. x zero) (one_at (Series 𝓡))

      more : (t : ℕ) → (Columns 𝓡).𝟙 (suc t) ≡ 𝟘ₛ
      more t = ap (λ x. x (suc t)) (one_at (Series 𝓡))

  -- a product of monic polynomials
  pub shift-prod : (c : R) (r : ℕ) (m : ℕ → ℕ) (F : ℕ → ℕ → ℕ → R) → ((i : ℕ) → i < r → Monic 𝓡 (m i) (F i))
      → shift_columns c (suc (sum_to r m)) (prod (Columns 𝓡) r F) ≡ prod (Columns 𝓡) r (λ i. shift_columns c (suc (m i)) (F i))
  shift-prod c zero m F h =
      ap₂ (λ n x. shift_columns c (suc n) x) (sum_to-zero m) (prod-zero (Columns 𝓡) F) ∙ shift-columns-one c
      ∙ sym (prod-zero (Columns 𝓡) (λ i. shift_columns c (suc (m i)) (F i)))
  shift-prod c (suc r) m F h =
      let rest = prod (Columns 𝓡) r (λ i. F (suc i)) in
      let k = sum_to r (λ i. m (suc i)) in
      let e : prod (Columns 𝓡) (suc r) F ≡ (Columns 𝓡).mul (F zero) rest = prod-suc (Columns 𝓡) r F in
      let whole : Monic 𝓡 (sum_to (suc r) m) ((Columns 𝓡).mul (F zero) rest) = subst (Monic 𝓡 (sum_to (suc r) m)) e (prod-monic 𝓡 (suc r) m F h) in
      let later : Monic 𝓡 k rest = prod-monic 𝓡 r (λ i. m (suc i)) (λ i. F (suc i)) (λ i l. h (suc i) (omega arith)) in
      ap (shift_columns c (suc (sum_to (suc r) m))) e
      ∙ shift-columns-mul-at c (suc (m zero)) (suc k) (suc (sum_to (suc r) m)) (F zero) rest (h zero (omega arith)).bound later.bound whole.bound
      ∙ ap ((Columns 𝓡).mul (shift_columns c (suc (m zero)) (F zero))) (shift-prod c r (λ i. m (suc i)) (λ i. F (suc i)) (λ i l. h (suc i) (omega arith)))
      ∙ sym (prod-suc (Columns 𝓡) r (λ i. shift_columns c (suc (m i)) (F i)))
