-- The conditions of the pair have exactly one solution: for every f of order d at most D with words below the prime p, and every number
-- of terms.
--   first-high, first-low   column 0 of P · A
--   pair-unique        two pairs of polynomials that agree below X^(n+1) agree below X^(n+1), order included
--   pair-b, pair_c     the rows of P below d, and of A
--   pair_is            they are the pair, to any number of terms
-- Assumes nothing.
use Prim.Native.Nat.{ℕ, zero, suc, ◌+◌ as ◌+ₙ◌, ◌-◌, ◌≤◌, ◌<◌, Fin}
use native.Mathlib.Nat.{lt_of_not-le}
use native.Mathlib.Decide.{dec_le}
use native.Mathlib.Omega.{arith}
use mathlib.Core.Path.{◌≡◌, refl, sym, ◌∙◌, ap, ap₂, subst, fun_ext}
use mathlib.Core.Logic.{◌≢◌}
use Rattle.algebra.specs.internal.Ring.{CommRing, mul-one}
use Rattle.algebra.specs.internal.Series.{Series, conv-zero}
use Rattle.algebra.proofs.PolyLaws.{Below, eval, y_pow-high, y_pow-low, eval-zero, lin_pow-top, below-lin_pow}
use Rattle.algebra.specs.internal.Poly.{lin_pow, Columns}
use Rattle.algebra.proofs.ColumnsLaws.{mul-columns, conv-below}
use Rattle.algebra.proofs.Lift.{Factor, factor-unique, factor-exists}
use Rattle.algebra.specs.Prime.{Prime}
use Rattle.algebra.specs.internal.Fp.{Fp, rem, col}
use Rattle.algebra.proofs.FpLaws.{p-pos, Fp-field, rem-val}
use Rattle.algebra.proofs.BridgeLaws.{same-rem, rem-zero, rem-one}
use Rattle.rows.specs.Rows.{mul, unit, monic}
use Rattle.rows.proofs.MulLaws.{mul-rem, mul-lt}
use Rattle.pair.specs.Pair.{IsPair}
use Rattle.rows.proofs.MonicLaws.{monic-low, monic-top, monic-above, monic-later, by_place}

-- Y^d, coefficient by coefficient
module _ {R : Type 0} (𝓡 : CommRing R) where
  open 𝓡 use {𝟘, 𝟙}

  y_pow-one : (d : ℕ) → (Series 𝓡).mul (lin_pow 𝓡 𝟘 d) (Series 𝓡).𝟙 ≡ lin_pow 𝓡 𝟘 d
  y_pow-one d = mul-one (Series 𝓡) (lin_pow 𝓡 𝟘 d)

  pub y_pow-below : (d j : ℕ) → j < d → lin_pow 𝓡 𝟘 d j ≡ 𝟘
  y_pow-below d j l = ap (λ x. x j) (sym (y_pow-one d)) ∙ y_pow-low 𝓡 d (Series 𝓡).𝟙 j l

module _ {p : ℕ} (prime : Prime p) where
  abbrev pos : zero < p
  pos = p-pos prime

  abbrev K : CommRing (Fin p)
  K = Fp p pos

  abbrev q : ℕ → Fin p
  q = rem p pos

  abbrev columns : (ℕ → ℕ → ℕ) → ℕ → ℕ → Fin p
  columns = col p pos

  zero_row : {x : ℕ} → x ≡ 0 → q x ≡ K.𝟘
  zero_row e = ap q e ∙ rem-zero p pos

  -- at X = 0 P is Y^d ..
  pub monic-first : (d : ℕ) (b : ℕ → ℕ → ℕ) → ((j : ℕ) → j < d → b j zero ≡ 0) → columns (monic d b) zero ≡ lin_pow K K.𝟘 d
  monic-first d b first = fun_ext (by_place (λ j. q (monic d b j zero) ≡ lin_pow K K.𝟘 d j) d
      (λ j g. zero_row (monic-low d b j zero g ∙ first j g) ∙ sym (y_pow-below K d j g))
      (ap q (monic-top d b zero) ∙ rem-one p pos ∙ sym (lin_pow-top K K.𝟘 d))
      (λ j g. zero_row (monic-above d b j zero g) ∙ sym (below-lin_pow K K.𝟘 d j g)))

  -- .. so column 0 of the product is that of A, moved up by d rows
  first-product : (d : ℕ) (b c : ℕ → ℕ → ℕ) → ((j : ℕ) → j < d → b j zero ≡ 0) → (j : ℕ) → q (mul p (monic d b) c j zero) ≡ (Series K).mul (lin_pow K K.𝟘 d) (columns c zero) j
  first-product d b c first j =
      ap (λ x. x zero j) (mul-rem p pos (monic d b) c) ∙ ap (λ x. x j) (mul-columns K _ _ zero ∙ conv-zero (Series K) _ _) ∙ ap (λ x. (Series K).mul x (columns c zero) j) (monic-first d b first)

  pub first-high : (d : ℕ) (b c : ℕ → ℕ → ℕ) → ((j : ℕ) → j < d → b j zero ≡ 0) → (j : ℕ) → c j zero < p → mul p (monic d b) c (d +ₙ j) zero ≡ c j zero
  first-high d b c first j l = same-rem p pos (mul-lt p _ _ (d +ₙ j) zero pos) l (first-product d b c first (d +ₙ j) ∙ y_pow-high K d (columns c zero) j)

  pub first-low : (d : ℕ) (b c : ℕ → ℕ → ℕ) → ((j : ℕ) → j < d → b j zero ≡ 0) → (j : ℕ) → j < d → mul p (monic d b) c j zero ≡ 0
  first-low d b c first j l = same-rem p pos (mul-lt p _ _ j zero pos) pos (first-product d b c first j ∙ y_pow-low K d (columns c zero) j l ∙ sym (rem-zero p pos))

  module _ (D k d : ℕ) (f b c : ℕ → ℕ → ℕ) (h : IsPair p D k d f b c) (low : c zero zero < p) where
    pub pair-factor : Factor K K.𝟘 d (suc (D - d)) (columns (monic d b)) (columns c)
    pair-factor = record {
      first = monic-first d b h.first;
      low = λ t j g. zero_row (monic-later d b j t g);
      high = λ t j g. zero_row (h.height j t (let z = h.bound in omega arith));
      value = λ e. h.unit (same-rem p pos low pos (sym (eval-zero K (D - d) (columns c zero)) ∙ e ∙ sym (rem-zero p pos)));
    }

    pair-product : (t : ℕ) → t < k → (j : ℕ) → j ≤ D → (Columns K).mul (columns (monic d b)) (columns c) t j ≡ q (f j t)
    pair-product t l j g = ap (λ x. x t j) (sym (mul-rem p pos (monic d b) c)) ∙ ap q (h.same j g t l)

    pair-above : (t j : ℕ) → D < j → (Columns K).mul (columns (monic d b)) (columns c) t j ≡ K.𝟘
    pair-above t j l =
        ap (λ x. x j) (mul-columns K _ _ t)
        ∙ conv-below K (suc d) (D - d) t _ _ (λ i _ j g. zero_row (monic-above d b j i g)) (λ i _. pair-factor.high i) j (let z = h.bound in omega arith)

  module _ (n k k' D d d' : ℕ) (f f' b b' c c' : ℕ → ℕ → ℕ) (h : IsPair p D k d f b c) (h' : IsPair p D k' d' f' b' c') (l : n < k) (l' : n < k')
      (low : (j t : ℕ) → t < suc n → (j < d → b j t < p) × (c j t < p)) (low' : (j t : ℕ) → t < suc n → (j < d' → b' j t < p) × (c' j t < p))
      (e : (j : ℕ) → j ≤ D → (t : ℕ) → t < suc n → f j t ≡ f' j t) where
    c-low : c zero zero < p
    c-low = (low zero zero (omega arith)).1

    c-low' : c' zero zero < p
    c-low' = (low' zero zero (omega arith)).1

    same-products : (t : ℕ) → t < suc n → (Columns K).mul (columns (monic d b)) (columns c) t ≡ (Columns K).mul (columns (monic d' b')) (columns c') t
    same-products t g = fun_ext λ j. go j (dec_le j D)
      where
        go : (j : ℕ) → Dec (j ≤ D) → (Columns K).mul (columns (monic d b)) (columns c) t j ≡ (Columns K).mul (columns (monic d' b')) (columns c') t j
        go j (yes u) =
            pair-product D k d f b c h c-low t (omega arith) j u ∙ ap q (e j u t g) ∙ sym (pair-product D k' d' f' b' c' h' c-low' t (omega arith) j u)
        go j (no u) = pair-above D k d f b c h c-low t j (lt_of_not-le u) ∙ sym (pair-above D k' d' f' b' c' h' c-low' t j (lt_of_not-le u))

    pub pair-unique : (d ≡ d') × ((j : ℕ) → j < d → (t : ℕ) → t < suc n → b j t ≡ b' j t) × ((j t : ℕ) → t < suc n → c j t ≡ c' j t)
    pair-unique =
        let u = factor-unique K (Fp-field prime) K.𝟘 d d' _ _ n _ _ _ _ (pair-factor D k d f b c h c-low) (pair-factor D k' d' f' b' c' h' c-low') same-products in
        let o : d ≡ d' = u.0 in (
          o,
          λ j g t v. same-rem p pos ((low j t v).0 g) ((low' j t v).0 (omega arith))
              (ap q (sym (monic-low d b j t g)) ∙ ap (λ x. x j) (u.1 t v).0 ∙ ap q (monic-low d' b' j t (omega arith))),
          λ j t v. same-rem p pos (low j t v).1 (low' j t v).1 (ap (λ x. x j) (u.1 t v).1),
        )

  -- f of order d, its columns below N reduced, and 0 above row D
  module _ (D N d : ℕ) (f : ℕ → ℕ → ℕ) (bound : d ≤ D) (there : f d zero ≢ 0) (least : (j : ℕ) → j < d → f j zero ≡ 0)
      (low : (j t : ℕ) → f j t < p) (height : (j t : ℕ) → D < j → f j t ≡ 0) where
    abbrev A₀ : ℕ → Fin p
    A₀ j = q (f (d +ₙ j) zero)

    A₀-below : Below K (suc (D - d)) A₀
    A₀-below j l = zero_row (height (d +ₙ j) zero (omega arith))

    f-first : columns f zero ≡ (Series K).mul (lin_pow K K.𝟘 d) A₀
    f-first = fun_ext (λ j. go j (dec_le d j))
      where
        go : (j : ℕ) → Dec (d ≤ j) → columns f zero j ≡ (Series K).mul (lin_pow K K.𝟘 d) A₀ j
        go j (yes l) = let z : d +ₙ (j - d) ≡ j = omega arith in subst (λ x. columns f zero x ≡ (Series K).mul (lin_pow K K.𝟘 d) A₀ x) z (sym (y_pow-high K d A₀ (j - d)))
        go j (no l) = zero_row (least j (lt_of_not-le l)) ∙ sym (y_pow-low K d A₀ j (lt_of_not-le l))

    A₀-value : eval K K.𝟘 (suc (D - d)) A₀ ≢ K.𝟘
    A₀-value e =
        there (same-rem p pos (low d zero) pos (ap (λ x. q (f x zero)) (let z : d ≡ d +ₙ zero = omega arith in z) ∙ sym (eval-zero K (D - d) A₀) ∙ e ∙ sym (rem-zero p pos)))

    lifted : (P : ℕ → ℕ → Fin p) × (A : ℕ → ℕ → Fin p) × Factor K K.𝟘 d (suc (D - d)) P A × (A zero ≡ A₀) × ((Columns K).mul P A ≡ columns f)
    lifted =
        factor-exists K (Fp-field prime) K.𝟘 d (suc (D - d)) A₀ (columns f) (suc (D - d), A₀-below) A₀-value
        (λ t j l. zero_row (height j t (omega arith))) f-first

    zero_val : K.𝟘.0 ≡ 0
    unfolding Fp
    zero_val = refl

    pub pair-b : ℕ → ℕ → ℕ
    pair-b j t = (lifted.0 t j).0

    pub pair_c : ℕ → ℕ → ℕ
    pair_c j t = (lifted.1 t j).0

    pub pair_lt : (j t : ℕ) → (pair-b j t < p) × (pair_c j t < p)
    unfolding pair-b pair_c
    pair_lt j t = ((lifted.0 t j).1, (lifted.1 t j).1)

    rows-P : columns (monic d pair-b) ≡ lifted.0
    unfolding pair-b
    rows-P = fun_ext (λ t. fun_ext (by_place (λ j. q (monic d pair-b j t) ≡ lifted.0 t j) d
        (λ j g. ap q (monic-low d pair-b j t g) ∙ rem-val p pos (lifted.0 t j)) (ap q (monic-top d pair-b t) ∙ sym (top t)) (λ j g. zero_row (monic-above d pair-b j t g) ∙ sym (high t j g))))
      where
        top : (t : ℕ) → lifted.0 t d ≡ q (unit t)
        top zero = ap (λ x. x d) lifted.2.first ∙ lin_pow-top K K.𝟘 d ∙ sym (rem-one p pos)
        top (suc t) = lifted.2.low t d (omega arith) ∙ sym (rem-zero p pos)

        high : (t j : ℕ) → d < j → lifted.0 t j ≡ K.𝟘
        high zero j g = ap (λ x. x j) lifted.2.first ∙ below-lin_pow K K.𝟘 d j g
        high (suc t) j g = lifted.2.low t j (omega arith)

    rows-A : columns pair_c ≡ lifted.1
    unfolding pair_c
    rows-A = fun_ext (λ t. fun_ext (λ j. rem-val p pos (lifted.1 t j)))

    pub pair_is : (k : ℕ) → IsPair p D k d f pair-b pair_c
    unfolding pair-b pair_c
    pair_is k = record {
      bound = bound;
      there = there;
      least = least;
      first = λ j g. ap (λ x. (x j).0) lifted.2.first ∙ ap (λ x. x.0) (y_pow-below K d j g) ∙ zero_val;
      height = λ j t l. ap (λ x. x.0) (lifted.2.high t j (omega arith)) ∙ zero_val;
      unit = λ e. A₀-value (eval-zero K (D - d) A₀ ∙ ap (λ x. x zero) (sym lifted.3) ∙ sym (rem-val p pos (lifted.1 zero zero)) ∙ zero_row e);
      same = λ j l t g.
          same-rem p pos (mul-lt p _ _ j t pos) (low j t)
          (ap (λ x. x t j) (mul-rem p pos (monic d pair-b) pair_c ∙ ap₂ (Columns K).mul rows-P rows-A ∙ lifted.4));
    }
