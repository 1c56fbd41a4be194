-- Lifting by columns: a factorisation of column 0 as (Y − c)^m · A₀, where A₀(c) is a unit, lifts to a factorisation of f in exactly one way.
--   P*, A*               the columns of the factor and of the cofactor, by a split for each column
--   Factor c m k P A     P is a factor for the root c of multiplicity m, and A its cofactor, of degree below k
-- Assumes nothing.
use Prim.Native.Nat.{ℕ, zero, suc, ◌+◌ as ◌+ₙ◌, ◌≤◌, ◌<◌, zero-le, suc-le-suc}
use native.Mathlib.Nat.{eq-or-lt_of_le, not-suc-le-zero, le_refl, le_of_suc-le-suc, lt_irrefl}
use native.Mathlib.Decide.{dec_le}
use native.Mathlib.Omega.{arith}
use mathlib.Core.Path.{◌≡◌, refl, sym, ◌∙◌, ap, subst, fun_ext}
use mathlib.Core.Logic.{◌≢◌, ite, if_pos, if_neg, ⊎_elim}
use Rattle.algebra.specs.internal.Ring.{CommRing, add_assoc, add-zero, neg-add, add-cancel-right}
use Rattle.algebra.proofs.RingLaws.{IsField}
use Rattle.algebra.specs.internal.Series.{tail, Series, conv, conv-zero}
use Rattle.algebra.proofs.SeriesLaws.{conv-mid, mid, mid-ext}
use Rattle.algebra.specs.internal.Poly.{lin_pow, Columns}
use Rattle.algebra.proofs.PolyLaws.{Below, Poly, eval, below-𝟘, below-add, below-neg, below_more, below-lin_pow-inv, eval-bound}
use Rattle.algebra.proofs.Split.{split, split-is, split-unique, IsSplit}
use Rattle.algebra.proofs.Multiplicity.{multiplicity-field}
use Rattle.algebra.proofs.ColumnsLaws.{mul-columns, conv-below}

module _ {R : Type 0} (𝓡 : CommRing R) (c : R) (m k : ℕ) (A₀ : ℕ → R) (w : R) where
  open 𝓡 use {𝟘, 𝟙, mul as ◌*◌}
  open Series 𝓡 use {add as ◌⊕◌, mul as ◌⊛◌, neg as ⊖}

  infixl 70 ◌*◌
  infixl 65 ◌⊕◌
  infixl 70 ◌⊛◌
  abbrev P₀ : ℕ → R
  P₀ = lin_pow 𝓡 c m

  module _ (bA : Below 𝓡 k A₀) (unit : eval 𝓡 c k A₀ * w ≡ 𝟙) where
    -- two factorisations that agree in column 0 and whose products agree in the columns below n
    module _ (P P' A A' : ℕ → ℕ → R) (n : ℕ)
        (p₀ : P zero ≡ P₀) (p₀' : P' zero ≡ P₀) (a₀ : A zero ≡ A₀) (a₀' : A' zero ≡ A₀)
        (hP : (t : ℕ) → Below 𝓡 m (P (suc t))) (hP' : (t : ℕ) → Below 𝓡 m (P' (suc t)))
        (hA : (t : ℕ) → Poly 𝓡 (A t)) (hA' : (t : ℕ) → Poly 𝓡 (A' t))
        (e : (t : ℕ) → t < n → conv (Series 𝓡) P A t ≡ conv (Series 𝓡) P' A' t) where
      abbrev Same : ℕ → Type 0
      Same t = (P t ≡ P' t) × (A t ≡ A' t)

      same_at : (t : ℕ) → t < n → ((i : ℕ) → i < t → Same i) → Same t
      same_at zero l ih = (p₀ ∙ sym p₀', a₀ ∙ sym a₀')
      same_at (suc t) l ih =
          let same_mid : mid (Series 𝓡) P A t ≡ mid (Series 𝓡) P' A' t = mid-ext (Series 𝓡) t (λ i g. (ih i (suc-le-suc g)).0) (λ i g. (ih i (suc-le-suc g)).1) in
          split-unique 𝓡 c k A₀ bA w unit m (P (suc t)) (P' (suc t)) (A (suc t)) (A' (suc t)) (hP t) (hP' t) (hA (suc t)) (hA' (suc t))
          (add-cancel-right (Series 𝓡) (mid (Series 𝓡) P A t)
          (simp (conv-mid, p₀, p₀', a₀, a₀', ← same_mid) at (e (suc t) l)))

      below : (t : ℕ) → t ≤ n → (i : ℕ) → i < t → Same i
      below zero l i g = absurd (not-suc-le-zero g)
      below (suc t) l i g =
          ⊎_elim (λ q. subst Same (sym q) (same_at t l (below t (omega arith)))) (λ h. below t (omega arith) i h) (eq-or-lt_of_le (le_of_suc-le-suc g))

      pub lift-unique : (t : ℕ) → t < n → (P t ≡ P' t) × (A t ≡ A' t)
      lift-unique t l = below n (le_refl n) t l

  -- the lift: column t of both factors, from the columns below t
  module _ (f : ℕ → ℕ → R) where
    -- what the split of column t + 1 has to come to, over columns P and A below
    abbrev rest : (ℕ → ℕ → R) → (ℕ → ℕ → R) → ℕ → ℕ → R
    rest P A t = f (suc t) ⊕ ⊖ (mid (Series 𝓡) P A t)

    -- the columns 0 .. t, each by a split over those before it
    upto : ℕ → ℕ → record { low : ℕ → R; high : ℕ → R }
    upto zero i = record { low = P₀; high = A₀ }
    upto (suc t) i = ite (dec_le i t) (upto t i) (split 𝓡 c k A₀ w m (rest (λ j. (upto t j).low) (λ j. (upto t j).high) t))

    pub P* : ℕ → ℕ → R
    P* t = (upto t t).low

    pub A* : ℕ → ℕ → R
    A* t = (upto t t).high

    upto-old : (t i : ℕ) → i ≤ t → upto (suc t) i ≡ upto t i
    unfolding upto
    upto-old t i l = if_pos (dec_le i t) l _ _

    upto_new : (t : ℕ) → upto (suc t) (suc t) ≡ split 𝓡 c k A₀ w m (rest (λ j. (upto t j).low) (λ j. (upto t j).high) t)
    unfolding upto
    upto_new t = if_neg (dec_le (suc t) t) (λ h. lt_irrefl t h) _ _

    upto-col : (t i : ℕ) → i ≤ t → upto t i ≡ upto i i
    unfolding upto
    upto-col zero i l = let q : i ≡ zero = omega arith in rw q
    upto-col (suc t) i l =
        ⊎_elim (λ q. rw q) (λ h. upto-old t i (le_of_suc-le-suc h) ∙ upto-col t i (le_of_suc-le-suc h)) (eq-or-lt_of_le l)

    pub lift-first : (P* zero ≡ P₀) × (A* zero ≡ A₀)
    unfolding upto P* A*
    lift-first = (refl, refl)

    col-suc : (t : ℕ) → upto (suc t) (suc t) ≡ split 𝓡 c k A₀ w m (rest P* A* t)
    unfolding P* A*
    col-suc t =
        upto_new t
        ∙ ap (λ x. split 𝓡 c k A₀ w m (f (suc t) ⊕ ⊖ x))
        (mid-ext (Series 𝓡) t (λ i l. ap (λ x. x.low) (upto-col t i l)) (λ i l. ap (λ x. x.high) (upto-col t i l)))

    P*-suc : (t : ℕ) → P* (suc t) ≡ (split 𝓡 c k A₀ w m (rest P* A* t)).low
    unfolding P*
    P*-suc t = ap (λ x. x.low) (col-suc t)

    A*-suc : (t : ℕ) → A* (suc t) ≡ (split 𝓡 c k A₀ w m (rest P* A* t)).high
    unfolding A*
    A*-suc t = ap (λ x. x.high) (col-suc t)

    module _ (bA : Below 𝓡 k A₀) (unit : eval 𝓡 c k A₀ * w ≡ 𝟙) (bf : (t : ℕ) → Below 𝓡 (m +ₙ k) (f t)) (f₀ : f zero ≡ P₀ ⊛ A₀) where
      abbrev Good : ℕ → Type 0
      Good t = IsSplit 𝓡 c k A₀ bA w unit m (rest P* A* t) (P* (suc t)) (A* (suc t))

      mid-below : (t : ℕ) → ((i : ℕ) → i < t → Good i) → Below 𝓡 (m +ₙ k) (mid (Series 𝓡) P* A* t)
      unfolding mid
      mid-below zero h = below_more 𝓡 zero-le (below-𝟘 𝓡)
      mid-below (suc t) h = conv-below 𝓡 m k t (tail P*) (tail A*) (λ i l. (h i (suc-le-suc l)).low) (λ i l. below_more 𝓡 (omega arith) (h i (suc-le-suc l)).high)

      good-at : (t : ℕ) → ((i : ℕ) → i < t → Good i) → Good t
      good-at t h = rw (P*-suc t, A*-suc t) (split-is 𝓡 c k A₀ bA w unit m (rest P* A* t) (below-add 𝓡 (bf (suc t)) (below-neg 𝓡 (mid-below t h))))

      good-below : (t i : ℕ) → i < t → Good i
      good-below zero i g = absurd (not-suc-le-zero g)
      good-below (suc t) i g = ⊎_elim (λ q. subst Good (sym q) (good-at t (good-below t))) (λ h. good-below t i h) (eq-or-lt_of_le (le_of_suc-le-suc g))

      good : (t : ℕ) → Good t
      good t = good-at t (good-below t)

      pub lift-low : (t : ℕ) → Below 𝓡 m (P* (suc t))
      lift-low t = (good t).low

      pub lift-high : (t : ℕ) → Below 𝓡 k (A* t)
      lift-high zero = rw lift-first.1 bA
      lift-high (suc t) = (good t).high

      pub lift-product : (t : ℕ) → conv (Series 𝓡) P* A* t ≡ f t
      lift-product zero = rw (conv-zero (Series 𝓡) P* A*, lift-first.0, lift-first.1) (sym f₀)
      lift-product (suc t) =
          rw (conv-mid (Series 𝓡) P* A* t, lift-first.0, lift-first.1, (good t).sum) (simp (add_assoc, neg-add, add-zero))

module _ {R : Type 0} (𝓡 : CommRing R) where
  pub record Factor (c : R) (m k : ℕ) (P A : ℕ → ℕ → R) : Type 0 where
    pub first : P zero ≡ lin_pow 𝓡 c m
    pub low : (t : ℕ) → Below 𝓡 m (P (suc t))
    pub high : (t : ℕ) → Below 𝓡 k (A t)
    pub value : eval 𝓡 c k (A zero) ≢ 𝓡.𝟘

-- over a field a root of column 0 has exactly one factor and cofactor
module _ {R : Type 0} (𝓡 : CommRing R) (field : IsField 𝓡) (c : R) where
  open 𝓡 use {𝟘, 𝟙, mul as ◌*◌}
  open Series 𝓡 use {𝟘 as 𝟘ₛ, mul as ◌⊛◌}

  infixl 70 ◌*◌
  infixl 70 ◌⊛◌
  pub factor-exists : (m k : ℕ) (A₀ : ℕ → R) (f : ℕ → ℕ → R) (a : Poly 𝓡 A₀) → eval 𝓡 c a.0 A₀ ≢ 𝟘 → ((t : ℕ) → Below 𝓡 (m +ₙ k) (f t))
      → f zero ≡ lin_pow 𝓡 c m ⊛ A₀
      → (P : ℕ → ℕ → R) × (A : ℕ → ℕ → R) × Factor 𝓡 c m k P A × (A zero ≡ A₀) × ((Columns 𝓡).mul P A ≡ f)
  factor-exists m k A₀ f a ne' bf f₀ =
      let bA : Below 𝓡 k A₀ = below-lin_pow-inv 𝓡 c m k A₀ a (subst (Below 𝓡 (m +ₙ k)) f₀ (bf zero)) in
      let ne : eval 𝓡 c k A₀ ≢ 𝟘 = λ e. ne' (eval-bound 𝓡 c a.0 k A₀ a.1 bA ∙ e) in
      let (w, u) = field.inverse (eval 𝓡 c k A₀) ne in
      let z = lift-first 𝓡 c m k A₀ w f in (
        P* 𝓡 c m k A₀ w f,
        A* 𝓡 c m k A₀ w f,
        record { first = z.0; low = lift-low 𝓡 c m k A₀ w f bA u bf f₀; high = lift-high 𝓡 c m k A₀ w f bA u bf f₀; value = λ e. ne (ap (eval 𝓡 c k) (sym z.1) ∙ e) },
        z.1,
        fun_ext (λ t. mul-columns 𝓡 _ _ t ∙ lift-product 𝓡 c m k A₀ w f bA u bf f₀ t),
      )

  pub factor-unique : (m m' k k' n : ℕ) (P P' A A' : ℕ → ℕ → R) → Factor 𝓡 c m k P A → Factor 𝓡 c m' k' P' A'
      → ((t : ℕ) → t < suc n → (Columns 𝓡).mul P A t ≡ (Columns 𝓡).mul P' A' t)
      → (m ≡ m') × ((t : ℕ) → t < suc n → (P t ≡ P' t) × (A t ≡ A' t))
  factor-unique m m' k k' n P P' A A' F F' e =
      let r = multiplicity-field 𝓡 c field m m' k k' (A zero) (A' zero) (F.high zero) (F'.high zero) F.value F'.value (simp (mul-columns, conv-zero, F.first, F'.first) at (e zero (omega arith))) in
      let G : Factor 𝓡 c m k' P' A' = subst (λ x. Factor 𝓡 c x k' P' A') (sym r.0) F' in
      let (w, u) = field.inverse (eval 𝓡 c k (A zero)) F.value in (
        r.0,
        lift-unique 𝓡 c m k (A zero) w (F.high zero) u P P' A A' (suc n) F.first G.first refl (sym r.1) F.low G.low
            (λ t. (k, F.high t)) (λ t. (k', F'.high t)) (λ t l. sym (mul-columns 𝓡 P A t) ∙ e t l ∙ mul-columns 𝓡 P' A' t),
      )
