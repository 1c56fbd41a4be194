-- Chains of factors: a monic f whose column 0 is the product of the (Y − c i)^(m i), the roots c i distinct, is the product of exactly one list
-- of factors that begin with these powers; and where the roots rise, column 0 determines them and the powers.
--   IsChain r c m F       r factors: F i is (Y − c i)^(m i) in column 0 and of degree below m i in the others, and m i ≥ 1
--   Monic D f             f has degree at most D in each column, and the coefficient of Y^D is 1
--   at-zero r c m         the product of the (Y − c i)^(m i)
--   Lifted r c m f        a chain whose product is f
--   Rising key r c        the keys of the roots rise
--   SameChain n ..        two chains with the same roots, powers and columns 0 .. n
-- The cofactor of factor i is the product of the factors after it, `prod_from (Columns 𝓡) (suc i) r F`. Assumes nothing.
use Prim.Native.Nat.{ℕ, zero, suc, ◌+◌ as ◌+ₙ◌, ◌-◌, ◌≤◌, ◌<◌}
use native.Mathlib.Nat.{not-suc-le-zero, le_of_suc-le-suc, eq-or-lt_of_le, lt_of_not-le}
use native.Mathlib.Decide.{dec_le}
use native.Mathlib.Omega.{arith}
use mathlib.Core.Path.{◌≡◌, refl, sym, ◌∙◌, ap, ap₂, subst, fun_ext}
use mathlib.Core.Logic.{◌≢◌, ◌⊎◌, inl, ⊎_elim}
use Rattle.algebra.specs.Sums.{sum_to}
use Rattle.algebra.proofs.SumsLaws.{sum_to-zero, sum_to-front}
use Rattle.algebra.specs.internal.Ring.{CommRing, prod}
use Rattle.algebra.proofs.RingLaws.{IsField, pow-zero, prod-zero, prod-suc, prod-ext, prod_from}
use Rattle.algebra.specs.internal.Series.{Series, cons, conv, one-conv}
use Rattle.algebra.proofs.SeriesLaws.{zero-at, one_at, prod-agree, prod-at-zero}
use Rattle.algebra.specs.internal.Poly.{lin, lin_pow, Columns}
use Rattle.algebra.proofs.PolyLaws.{Below, eval, below_more, below_one, below-𝟘, below-tight, below-lin_pow, lin_pow-top, poly-pow, poly-lin, Root, NonRoot, root-mul, root-lin_pow, nonroot-one, nonroot-mul, nonroot-lin_pow}
use Rattle.algebra.proofs.ColumnsLaws.{mul-columns, conv-below, conv-top}
use Rattle.algebra.proofs.Lift.{Factor, factor-exists, factor-unique}

-- a family over the numbers, from its first member and the others
by_zero : (A : ℕ → Type 0) → A zero → ((i : ℕ) → A (suc i)) → (i : ℕ) → A i
by_zero A z s zero = z
by_zero A z s (suc i) = s i

module _ {R : Type 0} (𝓡 : CommRing R) where
  open 𝓡 use {𝟘, 𝟙}
  open Series 𝓡 use {𝟘 as 𝟘ₛ, 𝟙 as 𝟙ₛ, mul as ◌⊛◌}

  infixl 70 ◌⊛◌
  pub record Monic (D : ℕ) (f : ℕ → ℕ → R) : Type 0 where
    pub bound : (t : ℕ) → Below 𝓡 (suc D) (f t)
    pub top : f zero D ≡ 𝟙
    pub rest : (t : ℕ) → f (suc t) D ≡ 𝟘

  -- the leading coefficient as a series in X is 1
  pub monic-lead : (D : ℕ) (f : ℕ → ℕ → R) → Monic D f → (λ (t : ℕ). f t D) ≡ cons 𝟙 (λ _. 𝟘)
  monic-lead D f h = fun_ext (elim [ zero ↦ h.top | suc t ↦ h.rest t ])

  pub monic-one : Monic zero (Columns 𝓡).𝟙
  monic-one = record {
    bound = by_zero (λ t. Below 𝓡 1 ((Columns 𝓡).𝟙 t)) (rw one (below_one 𝓡)) (λ t. rw (more t) (below_more 𝓡 (omega arith) (below-𝟘 𝓡)));
    top = ap (λ x. x zero) (one ∙ one_at 𝓡);
    rest = λ t. ap (λ x. x zero) (more t) ∙ zero-at 𝓡 zero;
  }
    where
      one : (Columns 𝓡).𝟙 zero ≡ 𝟙ₛ
      one = ap (λ x. x zero) (one_at (Series 𝓡))

      more : (t : ℕ) → (Columns 𝓡).𝟙 (suc t) ≡ 𝟘ₛ
      more t = ap (λ x. x (suc t)) (one_at (Series 𝓡))

  pub monic-mul : (m k : ℕ) (a b : ℕ → ℕ → R) → Monic m a → Monic k b → Monic (m +ₙ k) ((Columns 𝓡).mul a b)
  monic-mul m k a b h g = record {
    bound = λ t. rw (mul-columns 𝓡 a b t) (below_more 𝓡 (omega arith) (conv-below 𝓡 (suc m) k t a b (λ i l. h.bound i) (λ i l. g.bound i)));
    top = lead zero;
    rest = λ t. lead (suc t);
  }
    where
      lead : (t : ℕ) → (Columns 𝓡).mul a b t (m +ₙ k) ≡ cons 𝟙 (λ _. 𝟘) t
      lead t =
          ap (λ x. x (m +ₙ k)) (mul-columns 𝓡 a b t) ∙ conv-top 𝓡 m k t a b h.bound g.bound
          ∙ ap₂ (λ x y. conv 𝓡 x y t) (monic-lead m a h) (monic-lead k b g) ∙ one-conv 𝓡 (cons 𝟙 (λ _. 𝟘)) t

  -- where 0 is not 1, a polynomial is monic of one degree alone: of two degrees the larger one's coefficient would be 1 and 0
  pub monic-degree : 𝟘 ≢ 𝟙 → {m k : ℕ} {f : ℕ → ℕ → R} → Monic m f → Monic k f → m ≡ k
  monic-degree ne {m} {k} {f} h g = go (dec_le m k) (dec_le k m)
    where
      go : Dec (m ≤ k) → Dec (k ≤ m) → m ≡ k
      go (yes u) (yes v) = omega arith
      go u (no v) = absurd (ne (sym (h.bound zero k (lt_of_not-le v)) ∙ g.top))
      go (no u) (yes v) = absurd (ne (sym (g.bound zero m (lt_of_not-le u)) ∙ h.top))

  pub prod-monic : (n : ℕ) (m : ℕ → ℕ) (F : ℕ → ℕ → ℕ → R) → ((i : ℕ) → i < n → Monic (m i) (F i)) → Monic (sum_to n m) (prod (Columns 𝓡) n F)
  prod-monic zero m F h = rw (sum_to-zero m, prod-zero (Columns 𝓡) F) monic-one
  prod-monic (suc n) m F h =
      rw (sum_to-front n m, prod-suc (Columns 𝓡) n F)
      (monic-mul (m zero) _ (F zero) _ (h zero (omega arith)) (prod-monic n (λ i. m (suc i)) (λ i. F (suc i)) (λ i l. h (suc i) (omega arith))))

  -- a factor is monic, and with a monic product so is the cofactor
  pub factor-monic : (c : R) (m : ℕ) (P : ℕ → ℕ → R) → P zero ≡ lin_pow 𝓡 c m → ((t : ℕ) → Below 𝓡 m (P (suc t))) → Monic m P
  factor-monic c m P e h = record {
    bound = by_zero (λ t. Below 𝓡 (suc m) (P t)) (rw e (below-lin_pow 𝓡 c m)) (λ t. below_more 𝓡 (omega arith) (h t));
    top = ap (λ x. x m) e ∙ lin_pow-top 𝓡 c m;
    rest = λ t. h t m (omega arith);
  }

  pub cofactor-monic : (m k : ℕ) (P A : ℕ → ℕ → R) → Monic m P → ((t : ℕ) → Below 𝓡 (suc k) (A t)) → Monic (m +ₙ k) ((Columns 𝓡).mul P A) → Monic k A
  cofactor-monic m k P A hP hA h = record { bound = hA; top = lead zero ∙ h.top; rest = λ t. lead (suc t) ∙ h.rest t }
    where
      lead : (t : ℕ) → A t k ≡ (Columns 𝓡).mul P A t (m +ₙ k)
      lead t =
          sym (ap (λ x. x (m +ₙ k)) (mul-columns 𝓡 P A t) ∙ conv-top 𝓡 m k t P A hP.bound hA
          ∙ ap (λ x. conv 𝓡 x (λ s. A s k) t) (monic-lead m P hP) ∙ one-conv 𝓡 (λ s. A s k) t)

  -- column 0: the powers of the linear factors, multiplied
  abbrev pub at_zero : ℕ → (ℕ → R) → (ℕ → ℕ) → ℕ → R
  at_zero r c m = prod (Series 𝓡) r (λ i. lin_pow 𝓡 (c i) (m i))

  pub at-zero-below : (r : ℕ) (c : ℕ → R) (m : ℕ → ℕ) → Below 𝓡 (suc (sum_to r m)) (at_zero r c m)
  at-zero-below zero c m = rw prod-zero (below_more 𝓡 (omega arith) (below_one 𝓡))
  at-zero-below (suc r) c m =
      rw (prod-suc (Series 𝓡) r (λ i. lin_pow 𝓡 (c i) (m i)), sum_to-front r m)
      (below-tight 𝓡 (m zero) _ _ _ (below-lin_pow 𝓡 (c zero) (m zero)) (at-zero-below r (λ i. c (suc i)) (λ i. m (suc i))))

  -- it is 0 at the roots and nowhere else
  pub at-zero-root : (r : ℕ) (c : ℕ → R) (m : ℕ → ℕ) → 1 ≤ m zero → Root 𝓡 (c zero) (at_zero (suc r) c m)
  at-zero-root r c m l =
      rw (prod-suc (Series 𝓡) r (λ i. lin_pow 𝓡 (c i) (m i)))
      (root-mul 𝓡 (c zero) _ _ (poly-pow 𝓡 (poly-lin 𝓡 (c zero)) (m zero)) (_, at-zero-below r (λ i. c (suc i)) (λ i. m (suc i))) (root-lin_pow 𝓡 (c zero) (m zero) l))

  module _ (field : IsField 𝓡) where
    -- a root with the power 0 is none
    pub nonroot-some : (r : ℕ) (c : ℕ → R) (m : ℕ → ℕ) (x : R) → ((i : ℕ) → i < r → (x ≢ c i) ⊎ (m i ≡ zero)) → NonRoot 𝓡 x (at_zero r c m)
    nonroot-some zero c m x h = rw prod-zero (nonroot-one 𝓡 field.nontrivial x)
    nonroot-some (suc r) c m x h =
        rw (prod-suc (Series 𝓡) r (λ i. lin_pow 𝓡 (c i) (m i)))
        (nonroot-mul 𝓡 field x _ _ (poly-pow 𝓡 (poly-lin 𝓡 (c zero)) (m zero)) (_, at-zero-below r (λ i. c (suc i)) (λ i. m (suc i)))
        (⊎_elim (λ (ne : x ≢ c zero). nonroot-lin_pow 𝓡 field x (c zero) ne (m zero))
        (λ (z : m zero ≡ zero). subst (NonRoot 𝓡 x) (sym (ap (lin_pow 𝓡 (c zero)) z ∙ pow-zero (Series 𝓡) (lin 𝓡 (c zero)))) (nonroot-one 𝓡 field.nontrivial x))
        (h zero (omega arith)))
        (nonroot-some r (λ i. c (suc i)) (λ i. m (suc i)) x (λ i l. h (suc i) (omega arith))))

    pub at-zero-nonroot : (r : ℕ) (c : ℕ → R) (m : ℕ → ℕ) (x : R) → ((i : ℕ) → i < r → x ≢ c i) → NonRoot 𝓡 x (at_zero r c m)
    at-zero-nonroot r c m x ne = nonroot-some r c m x (λ i l. inl (ne i l))

  pub record IsChain (r : ℕ) (c : ℕ → R) (m : ℕ → ℕ) (F : ℕ → ℕ → ℕ → R) : Type 0 where
    pub powers : (i : ℕ) → i < r → 1 ≤ m i
    pub first : (i : ℕ) → i < r → F i zero ≡ lin_pow 𝓡 (c i) (m i)
    pub low : (i : ℕ) → i < r → (t : ℕ) → Below 𝓡 (m i) (F i (suc t))

  pub chain-tail : (r : ℕ) (c : ℕ → R) (m : ℕ → ℕ) (F : ℕ → ℕ → ℕ → R) → IsChain (suc r) c m F → IsChain r (λ i. c (suc i)) (λ i. m (suc i)) (λ i. F (suc i))
  chain-tail r c m F h = record { powers = λ i l. h.powers (suc i) (omega arith); first = λ i l. h.first (suc i) (omega arith); low = λ i l. h.low (suc i) (omega arith) }

  pub chain-at-zero : (r : ℕ) (c : ℕ → R) (m : ℕ → ℕ) (F : ℕ → ℕ → ℕ → R) → IsChain r c m F → prod (Columns 𝓡) r F zero ≡ at_zero r c m
  chain-at-zero r c m F h = prod-at-zero (Series 𝓡) r F ∙ prod-ext (Series 𝓡) r h.first

  -- the product of a chain is monic, of degree the sum of the powers
  pub chain-monic : (r : ℕ) (c : ℕ → R) (m : ℕ → ℕ) (F : ℕ → ℕ → ℕ → R) → IsChain r c m F → Monic (sum_to r m) (prod (Columns 𝓡) r F)
  chain-monic r c m F h = prod-monic r m F (λ i l. factor-monic (c i) (m i) (F i) (h.first i l) (h.low i l))

  -- so is that of the powers themselves
  pub at-zero-top : (r : ℕ) (c : ℕ → R) (m : ℕ → ℕ) → ((i : ℕ) → i < r → 1 ≤ m i) → at_zero r c m (sum_to r m) ≡ 𝟙
  at-zero-top r c m l =
      let F : ℕ → ℕ → ℕ → R = λ i. cons (lin_pow 𝓡 (c i) (m i)) (λ _. 𝟘ₛ) in
      let h : IsChain r c m F = record { powers = l; first = λ i _. refl; low = λ i _ t. below_more 𝓡 (omega arith) (below-𝟘 𝓡) } in
      sym (ap (λ x. x (sum_to r m)) (chain-at-zero r c m F h)) ∙ (chain-monic r c m F h).top

  -- its columns below n are determined by those of the factors
  pub chain-product-ext : (r n : ℕ) (F F' : ℕ → ℕ → ℕ → R) → ((i : ℕ) → i < r → (t : ℕ) → t < n → F i t ≡ F' i t)
      → (t : ℕ) → t < n → prod (Columns 𝓡) r F t ≡ prod (Columns 𝓡) r F' t
  chain-product-ext r n F F' = prod-agree (Series 𝓡) r n

  -- a factor, and the product of a chain of other roots as its cofactor
  module _ (field : IsField 𝓡) where
    pub chain-factor : (c₀ : R) (m₀ : ℕ) (P : ℕ → ℕ → R) → P zero ≡ lin_pow 𝓡 c₀ m₀ → ((t : ℕ) → Below 𝓡 m₀ (P (suc t)))
        → (r : ℕ) (c : ℕ → R) (m : ℕ → ℕ) (F : ℕ → ℕ → ℕ → R) → IsChain r c m F → ((i : ℕ) → i < r → c₀ ≢ c i)
        → Factor 𝓡 c₀ m₀ (suc (sum_to r m)) P (prod (Columns 𝓡) r F)
    chain-factor c₀ m₀ P e l r c m F h ne =
        record { first = e; low = l; high = (chain-monic r c m F h).bound; value = rw (chain-at-zero r c m F h) (at-zero-nonroot field r c m c₀ ne _ (at-zero-below r c m)) }

  -- existence
  pub record Lifted (r : ℕ) (c : ℕ → R) (m : ℕ → ℕ) (f : ℕ → ℕ → R) : Type 0 where
    pub factors : ℕ → ℕ → ℕ → R
    pub chain : IsChain r c m factors
    pub product : prod (Columns 𝓡) r factors ≡ f

  abbrev put : {A : Type 0} → A → (ℕ → A) → ℕ → A
  put a f zero = a
  put a f (suc i) = f i

  lifted-more : (r : ℕ) (c : ℕ → R) (m : ℕ → ℕ) (f P A : ℕ → ℕ → R) → 1 ≤ m zero → P zero ≡ lin_pow 𝓡 (c zero) (m zero) → ((t : ℕ) → Below 𝓡 (m zero) (P (suc t)))
      → (Columns 𝓡).mul P A ≡ f → Lifted r (λ i. c (suc i)) (λ i. m (suc i)) A → Lifted (suc r) c m f
  lifted-more r c m f P A l e h eP rec = record {
    factors = put P rec.factors;
    chain = record {
      powers = by_zero (λ i. i < suc r → 1 ≤ m i) (λ _. l) (λ i g. rec.chain.powers i (omega arith));
      first = by_zero (λ i. i < suc r → put P rec.factors i zero ≡ lin_pow 𝓡 (c i) (m i)) (λ _. e) (λ i g. rec.chain.first i (omega arith));
      low = by_zero (λ i. i < suc r → (t : ℕ) → Below 𝓡 (m i) (put P rec.factors i (suc t))) (λ _. h) (λ i g. rec.chain.low i (omega arith));
    };
    product = prod-suc (Columns 𝓡) r (put P rec.factors) ∙ ap ((Columns 𝓡).mul P) rec.product ∙ eP;
  }

  -- monic of degree 0 is 1
  pub monic-zero : (f : ℕ → ℕ → R) → Monic zero f → (Columns 𝓡).𝟙 ≡ f
  monic-zero f h = fun_ext (λ t. fun_ext (by_zero (λ j. (Columns 𝓡).𝟙 t j ≡ f t j)
      (ap (λ x. x t) (monic-lead zero (Columns 𝓡).𝟙 monic-one ∙ sym (monic-lead zero f h)))
      (λ j. monic-one.bound t (suc j) (omega arith) ∙ sym (h.bound t (suc j) (omega arith)))))

  module _ (field : IsField 𝓡) where
    pub chain-exists : (r : ℕ) (c : ℕ → R) (m : ℕ → ℕ) (f : ℕ → ℕ → R) → ((i : ℕ) → i < r → 1 ≤ m i) → ((i j : ℕ) → i < j → j < r → c i ≢ c j)
        → Monic (sum_to r m) f → f zero ≡ at_zero r c m → Lifted r c m f
    chain-exists zero c m f l ne h e = record {
      factors = λ i t j. 𝟘;
      chain = record { powers = λ i g. absurd (not-suc-le-zero g); first = λ i g. absurd (not-suc-le-zero g); low = λ i g. absurd (not-suc-le-zero g) };
      product = prod-zero (Columns 𝓡) _ ∙ monic-zero f (rw (sum_to-zero m) at h);
    }
    chain-exists (suc r) c m f l ne h e =
        let k = sum_to r (λ i. m (suc i)) in
        let d : sum_to (suc r) m ≡ m zero +ₙ k = sum_to-front r m in
        let A₀ = at_zero r (λ i. c (suc i)) (λ i. m (suc i)) in
        let bA : Below 𝓡 (suc k) A₀ = at-zero-below r (λ i. c (suc i)) (λ i. m (suc i)) in
        let (P, A, F, eA, eP) = factor-exists 𝓡 field (c zero) (m zero) (suc k) A₀ f (suc k, bA)
        (at-zero-nonroot field r (λ i. c (suc i)) (λ i. m (suc i)) (c zero) (λ i g. ne zero (suc i) (omega arith) (omega arith)) (suc k) bA)
        (λ t. below_more 𝓡 (let z : suc (sum_to (suc r) m) ≤ m zero +ₙ suc k = omega arith in z) (h.bound t)) (e ∙ prod-suc (Series 𝓡) r (λ i. lin_pow 𝓡 (c i) (m i))) in
        let hA : Monic k A = cofactor-monic (m zero) k P A (factor-monic (c zero) (m zero) P F.first F.low) F.high
        (subst (Monic (m zero +ₙ k)) (sym eP) (subst (λ x. Monic x f) d h)) in
        lifted-more r c m f P A (l zero (omega arith)) F.first F.low eP
        (chain-exists r (λ i. c (suc i)) (λ i. m (suc i)) A (λ i g. l (suc i) (omega arith)) (λ i j u g. ne (suc i) (suc j) (omega arith) (omega arith)) hA eA)

  pub record SameChain (n r r' : ℕ) (c c' : ℕ → R) (m m' : ℕ → ℕ) (F F' : ℕ → ℕ → ℕ → R) : Type 0 where
    pub counts : r ≡ r'
    pub roots : (i : ℕ) → i < r → c i ≡ c' i
    pub powers : (i : ℕ) → i < r → m i ≡ m' i
    pub columns : (i : ℕ) → i < r → (t : ℕ) → t < suc n → F i t ≡ F' i t

  -- then the products of the factors from i on, and so the cofactors, have the same columns 0 .. n too
  pub same-products : (n r r' : ℕ) (c c' : ℕ → R) (m m' : ℕ → ℕ) (F F' : ℕ → ℕ → ℕ → R) → SameChain n r r' c c' m m' F F'
      → (i t : ℕ) → t < suc n → prod_from (Columns 𝓡) i r F t ≡ prod_from (Columns 𝓡) i r' F' t
  same-products n r r' c c' m m' F F' h i t l =
      chain-product-ext (r - i) (suc n) _ _ (λ j g. h.columns (i +ₙ j) (omega arith)) t l ∙ ap (λ x. prod_from (Columns 𝓡) i x F' t) h.counts

  chain_more : (n r r' : ℕ) (c c' : ℕ → R) (m m' : ℕ → ℕ) (F F' : ℕ → ℕ → ℕ → R) → c zero ≡ c' zero → m zero ≡ m' zero → ((t : ℕ) → t < suc n → F zero t ≡ F' zero t)
      → SameChain n r r' (λ i. c (suc i)) (λ i. c' (suc i)) (λ i. m (suc i)) (λ i. m' (suc i)) (λ i. F (suc i)) (λ i. F' (suc i)) → SameChain n (suc r) (suc r') c c' m m' F F'
  chain_more n r r' c c' m m' F F' e₁ e₂ e₃ h = record {
    counts = ap suc h.counts;
    roots = by_zero (λ i. i < suc r → c i ≡ c' i) (λ l. e₁) (λ i l. h.roots i (omega arith));
    powers = by_zero (λ i. i < suc r → m i ≡ m' i) (λ l. e₂) (λ i l. h.powers i (omega arith));
    columns = by_zero (λ i. i < suc r → (t : ℕ) → t < suc n → F i t ≡ F' i t) (λ l. e₃) (λ i l. h.columns i (omega arith));
  }

-- uniqueness, for roots in rising order: each root has a number, its key, and two roots never have the same one
abbrev pub Rising : {R : Type 0} → (R → ℕ) → ℕ → (ℕ → R) → Type 0
Rising key r c = (i : ℕ) → suc i < r → key (c i) < key (c (suc i))

module _ {R : Type 0} (key : R → ℕ) where
  pub rising-all : (r : ℕ) (c : ℕ → R) → Rising key r c → (i j : ℕ) → i < j → j < r → key (c i) < key (c j)
  rising-all r c h i zero l g = absurd (not-suc-le-zero l)
  rising-all r c h i (suc j) l g =
      ⊎_elim (λ (e : i ≡ j). subst (λ x. key (c x) < key (c (suc j))) (sym e) (h j g))
      (λ l'. let a = rising-all r c h i j l' (omega arith) in let b = h j g in omega arith) (eq-or-lt_of_le (le_of_suc-le-suc l))

  key-ne : (a b : R) → key a < key b → a ≢ b
  key-ne a b h e = let z : key a ≡ key b = ap key e in omega arith

  pub rising-distinct : (r : ℕ) (c : ℕ → R) → Rising key r c → (i j : ℕ) → i < j → j < r → c i ≢ c j
  rising-distinct r c h i j l g = key-ne (c i) (c j) (rising-all r c h i j l g)

  rising-tail : (r : ℕ) (c : ℕ → R) → Rising key (suc r) c → Rising key r (λ i. c (suc i))
  rising-tail r c h i l = h (suc i) (omega arith)

  -- what is below the first is below all
  below_all : (r : ℕ) (c : ℕ → R) → Rising key (suc r) c → (x : ℕ) → x < key (c zero) → (i : ℕ) → i < suc r → x < key (c i)
  below_all r c h x l zero g = l
  below_all r c h x l (suc i) g = let z = rising-all (suc r) c h zero (suc i) (omega arith) g in omega arith

module _ {R : Type 0} (𝓡 : CommRing R) (field : IsField 𝓡) (key : R → ℕ) (one_key : (a b : R) → key a ≡ key b → a ≡ b) where
  -- with one column 0, the first root of one chain is not below all of the other
  not-before : (r r' : ℕ) (c c' : ℕ → R) (m m' : ℕ → ℕ) → 1 ≤ m zero → at_zero 𝓡 (suc r) c m ≡ at_zero 𝓡 r' c' m' → ((i : ℕ) → i < r' → key (c zero) < key (c' i)) → ⊥
  not-before r r' c c' m m' l e less =
      let b = at-zero-below 𝓡 (suc r) c m in
      at-zero-nonroot 𝓡 field r' c' m' (c zero) (λ i g. key-ne key (c zero) (c' i) (less i g)) _ (subst (Below 𝓡 _) e b)
      (subst (λ x. eval 𝓡 (c zero) (suc (sum_to (suc r) m)) x ≡ 𝓡.𝟘) e (at-zero-root 𝓡 r c m l _ b))

  same_first : (r r' : ℕ) (c c' : ℕ → R) (m m' : ℕ → ℕ) → 1 ≤ m zero → 1 ≤ m' zero → Rising key (suc r) c → Rising key (suc r') c'
      → at_zero 𝓡 (suc r) c m ≡ at_zero 𝓡 (suc r') c' m' → c zero ≡ c' zero
  same_first r r' c c' m m' l l' up up' e = one_key (c zero) (c' zero) (go (dec_le (key (c zero)) (key (c' zero))) (dec_le (key (c' zero)) (key (c zero))))
    where
      go : Dec (key (c zero) ≤ key (c' zero)) → Dec (key (c' zero) ≤ key (c zero)) → key (c zero) ≡ key (c' zero)
      go (yes a) (yes b) = omega arith
      go a (no b) = absurd (not-before r (suc r') c c' m m' l e (below_all key r' c' up' (key (c zero)) (lt_of_not-le b)))
      go (no a) (yes b) = absurd (not-before r' (suc r) c' c m' m l' (sym e) (below_all key r c up (key (c' zero)) (lt_of_not-le a)))

  pub chain-unique : (n r r' : ℕ) (c c' : ℕ → R) (m m' : ℕ → ℕ) (F F' : ℕ → ℕ → ℕ → R) → IsChain 𝓡 r c m F → IsChain 𝓡 r' c' m' F' → Rising key r c → Rising key r' c'
      → ((t : ℕ) → t < suc n → prod (Columns 𝓡) r F t ≡ prod (Columns 𝓡) r' F' t) → SameChain 𝓡 n r r' c c' m m' F F'
  chain-unique n zero zero c c' m m' F F' h h' up up' e =
      record { counts = refl; roots = λ i l. absurd (not-suc-le-zero l); powers = λ i l. absurd (not-suc-le-zero l); columns = λ i l. absurd (not-suc-le-zero l) }
  chain-unique n zero (suc r') c c' m m' F F' h h' up up' e =
      absurd (not-before r' zero c' c m' m (h'.powers zero (omega arith))
      (sym (chain-at-zero 𝓡 (suc r') c' m' F' h') ∙ sym (e zero (omega arith)) ∙ chain-at-zero 𝓡 zero c m F h) (λ i l. absurd (not-suc-le-zero l)))
  chain-unique n (suc r) zero c c' m m' F F' h h' up up' e =
      absurd (not-before r zero c c' m m' (h.powers zero (omega arith))
      (sym (chain-at-zero 𝓡 (suc r) c m F h) ∙ e zero (omega arith) ∙ chain-at-zero 𝓡 zero c' m' F' h') (λ i l. absurd (not-suc-le-zero l)))
  chain-unique n (suc r) (suc r') c c' m m' F F' h h' up up' e =
      let e₁ : c zero ≡ c' zero = same_first r r' c c' m m' (h.powers zero (omega arith)) (h'.powers zero (omega arith)) up up'
      (sym (chain-at-zero 𝓡 (suc r) c m F h) ∙ e zero (omega arith) ∙ chain-at-zero 𝓡 (suc r') c' m' F' h') in
      let fac = chain-factor 𝓡 field (c zero) (m zero) (F zero) (h.first zero (omega arith)) (h.low zero (omega arith)) r _ _ _ (chain-tail 𝓡 r c m F h)
      (λ i l. rising-distinct key (suc r) c up zero (suc i) (omega arith) (omega arith)) in
      let fac' = chain-factor 𝓡 field (c zero) (m' zero) (F' zero) (h'.first zero (omega arith) ∙ ap (λ x. lin_pow 𝓡 x (m' zero)) (sym e₁)) (h'.low zero (omega arith)) r' _ _ _ (chain-tail 𝓡 r' c' m' F' h')
      (λ i l. rw e₁ (rising-distinct key (suc r') c' up' zero (suc i) (omega arith) (omega arith))) in
      let u = factor-unique 𝓡 field (c zero) (m zero) (m' zero) _ _ n (F zero) (F' zero) _ _ fac fac'
      (λ t l. ap (λ x. x t) (sym (prod-suc (Columns 𝓡) r F)) ∙ e t l ∙ ap (λ x. x t) (prod-suc (Columns 𝓡) r' F')) in
      chain_more 𝓡 n r r' c c' m m' F F' e₁ u.0 (λ t l. (u.1 t l).0)
      (chain-unique n r r' _ _ _ _ _ _ (chain-tail 𝓡 r c m F h) (chain-tail 𝓡 r' c' m' F' h') (rising-tail key r c up) (rising-tail key r' c' up') (λ t l. (u.1 t l).1))

  -- roots and powers are determined by column 0 alone
  pub roots-unique : (r r' : ℕ) (c c' : ℕ → R) (m m' : ℕ → ℕ) → ((i : ℕ) → i < r → 1 ≤ m i) → ((i : ℕ) → i < r' → 1 ≤ m' i) → Rising key r c → Rising key r' c'
      → at_zero 𝓡 r c m ≡ at_zero 𝓡 r' c' m' → (r ≡ r') × ((i : ℕ) → i < r → (c i ≡ c' i) × (m i ≡ m' i))
  roots-unique r r' c c' m m' l l' up up' e =
      let h = flat-chain r c m l in
      let h' = flat-chain r' c' m' l' in
      let s = chain-unique zero r r' c c' m m' (flat c m) (flat c' m') h h' up up'
      (by_zero (λ t. t < 1 → prod (Columns 𝓡) r (flat c m) t ≡ prod (Columns 𝓡) r' (flat c' m') t)
      (λ _. chain-at-zero 𝓡 r c m (flat c m) h ∙ e ∙ sym (chain-at-zero 𝓡 r' c' m' (flat c' m') h')) (λ t g. absurd (let z : ⊥ = omega arith in z))) in
      (s.counts, λ i g. (s.roots i g, s.powers i g))
    where
      -- the factors without X
      flat : (ℕ → R) → (ℕ → ℕ) → ℕ → ℕ → ℕ → R
      flat c m i zero = lin_pow 𝓡 (c i) (m i)
      flat c m i (suc t) = (Series 𝓡).𝟘

      flat-chain : (r : ℕ) (c : ℕ → R) (m : ℕ → ℕ) → ((i : ℕ) → i < r → 1 ≤ m i) → IsChain 𝓡 r c m (flat c m)
      flat-chain r c m l = record { powers = l; first = λ i g. refl; low = λ i g t. below_more 𝓡 (omega arith) (below-𝟘 𝓡) }
