-- Two factor lists joined: the factors of a product, from those of its two polynomials. A root of both has the product of its two factors, and a
-- root of one alone the factor that it has there.
--   place-le, place-there, place-absent, place_at   the place of a number among the roots
--   power-there, power-absent   the power of a number by its place: that of the root there, or 0
--   power_at_lem, factor-at   the power and the factor of root i are those numbered i
--   power-listed      the power of a root is at least 1
--   monic-rows        rows that are monic over the numbers below p are monic
--   mul-monic         a product of monic polynomials is monic
--   product_whole     the product of the factors is f with its leading 1, in all rows
--   factor-first      at X = 0 the factor of a number c is a power of Y − c, also where c is no root
--   factors-listed    the factors of any rising list of numbers that has all roots have the product of all factors
--   joined-product    the product of the joined factors is that of both products
--   joined-factors    the conditions: the joined factors are those of the product
-- Assumes nothing.
use Prim.Native.Nat.{ℕ, zero, suc, ◌+◌, ◌≤◌, ◌<◌, Fin, zero-le}
use native.Mathlib.Omega.{arith}
use mathlib.Core.Path.{◌≡◌, refl, sym, ◌∙◌, ap, ap₂, subst, fun_ext}
use mathlib.Core.Bool.{Bool, true, false, ◌||◌, or-true}
use mathlib.Core.Logic.{◌≢◌, ◌⊎◌, inl, inr, ⊎_elim}
use borrow.Author.Tests.{ltb-true, lt-ltb, le-ltb, eqb-true, eq-eqb}
use lib.Dec.{eqb}
use Rattle.algebra.specs.Sums.{sum_to}
use Rattle.algebra.specs.Prime.{Prime}
use Rattle.algebra.specs.internal.Ring.{CommRing, prod}
use Rattle.algebra.specs.internal.Series.{Series}
use Rattle.algebra.specs.internal.Poly.{lin, lin_pow, Columns}
use Rattle.algebra.specs.internal.Fp.{Fp, rem, col}
use Rattle.algebra.proofs.RingLaws.{pow-add, prod-ext}
use Rattle.algebra.proofs.SeriesLaws.{mul-at-zero}
use Rattle.algebra.proofs.Chain.{Monic, monic-mul, monic-zero, monic-degree, prod-monic, chain-monic, rising-all}
use Rattle.algebra.proofs.Products.{prod-mul, prod-listed}
use Rattle.algebra.proofs.FpLaws.{p-pos, Fp-field}
use Rattle.algebra.proofs.BridgeLaws.{same-rem, rem-zero, rem-one}
use Rattle.numbers.proofs.WordsLaws.{lt-or-ge, first-is, first_range, first_found}
use Rattle.rows.specs.Rows.{mul, unit, monic}
use Rattle.rows.proofs.RowsLaws.{line-lt}
use Rattle.rows.proofs.MonicLaws.{monic-low, monic-top, monic-above, monic-ext, by_place}
use Rattle.rows.proofs.MulLaws.{mul-lt, mul-ext, mul-rem}
use Rattle.rows.proofs.ShiftLaws.{root-power}
use Rattle.hensel.specs.Factors.{root_power, flat, product, IsFactors}
use Rattle.hensel.specs.internal.Joined.{place_of, is_listed, power_at, factor_at}
use Rattle.hensel.proofs.FactorsLaws.{product-rem, product_lt, product-ext, monic-rem, columns_of, roots_of, first-column, factors-chain}

module _ (r : ℕ) (root : ℕ → ℕ) where
  pub place-le : (c : ℕ) → place_of r root c ≤ r
  unfolding place_of
  place-le c = let z = first_range (λ i. eqb (root i) c) 0 r in omega arith

  pub place-there : (c : ℕ) → place_of r root c < r → root (place_of r root c) ≡ c
  unfolding place_of
  place-there c l = eqb-true _ c (first_found (λ i. eqb (root i) c) 0 r (omega arith))

  pub place-absent : (c : ℕ) → ((i : ℕ) → i < r → root i ≢ c) → place_of r root c ≡ r
  place-absent c ne =
      ⊎_elim (λ (l : place_of r root c < r). absurd (ne _ l (place-there c l))) (λ (l : r ≤ place_of r root c). let z = place-le c in omega arith)
      (lt-or-ge (place_of r root c) r)

  pub place_at : ((i : ℕ) → suc i < r → root i < root (suc i)) → (i : ℕ) → i < r → place_of r root (root i) ≡ i
  unfolding place_of
  place_at up i l = first-is (λ k. eqb (root k) (root i)) 0 r i zero-le (omega arith) (λ _. eq-eqb (root i) (root i) refl)
      (λ k _ u e. let z = rising-all (λ (x : ℕ). x) r root up k i u l in let y : root k ≡ root i = eqb-true _ _ e in let w : ⊥ = omega arith in w)

-- the power and the factor of a number, by its place
module _ (r : ℕ) (root power : ℕ → ℕ) where
  pub power-there : (c : ℕ) → place_of r root c < r → power_at r root power c ≡ power (place_of r root c)
  power-there c l = rw (lt-ltb (place_of r root c) r l)

  pub power-absent : (c : ℕ) → r ≤ place_of r root c → power_at r root power c ≡ 0
  power-absent c l = rw (le-ltb (place_of r root c) r l)

  module _ (up : (i : ℕ) → suc i < r → root i < root (suc i)) where
    pub power_at_lem : (i : ℕ) → i < r → power_at r root power (root i) ≡ power i
    power_at_lem i l = let e = place_at r root up i l in power-there (root i) (omega arith) ∙ ap power e

    pub factor-at : (a : ℕ → ℕ → ℕ → ℕ) (i : ℕ) → i < r → factor_at r root power a (root i) ≡ monic (power i) (a i)
    factor-at a i l = ap₂ (λ m n. monic m (a n)) (power_at_lem i l) (place_at r root up i l)

-- what is monic over the numbers below p is monic in its rows, which are reduced
module _ (p : ℕ) (two : 2 ≤ p) (pos : zero < p) where
  lead-rows : (d : ℕ) (b : ℕ → ℕ → ℕ) → ((j t : ℕ) → b j t < p) → Monic (Fp p pos) d (col p pos b) → (t : ℕ) → b d t ≡ unit t
  lead-rows d b low h zero = same-rem p pos (low d zero) two (h.top ∙ sym (rem-one p pos))
  lead-rows d b low h (suc t) = same-rem p pos (low d (suc t)) pos (h.rest t ∙ sym (rem-zero p pos))

  pub monic-rows : (d : ℕ) (b : ℕ → ℕ → ℕ) → ((j t : ℕ) → b j t < p) → Monic (Fp p pos) d (col p pos b) → (j t : ℕ) → b j t ≡ monic d b j t
  monic-rows d b low h j t =
      by_place (λ j. b j t ≡ monic d b j t) d (λ j l. sym (monic-low d b j t l)) (lead-rows d b low h t ∙ sym (monic-top d b t))
      (λ j l. same-rem p pos (low j t) pos (h.bound t j l ∙ sym (rem-zero p pos)) ∙ sym (monic-above d b j t l)) j

pub mul-monic : (p : ℕ) → 2 ≤ p → (d e : ℕ) (a b : ℕ → ℕ → ℕ) (j t : ℕ)
    → mul p (monic d a) (monic e b) j t ≡ monic (d + e) (mul p (monic d a) (monic e b)) j t
mul-monic p two d e a b =
    let pos : zero < p = omega arith in
    monic-rows p two pos (d + e) _ (λ j t. mul-lt p _ _ j t pos)
    (subst (Monic (Fp p pos) (d + e)) (sym (mul-rem p pos (monic d a) (monic e b)))
    (monic-mul (Fp p pos) d e _ _ (monic-rem p pos d a) (monic-rem p pos e b)))

-- of one list: the product of its factors, and the factor of each number
module _ {p : ℕ} (prime : Prime p) (D k r : ℕ) (f : ℕ → ℕ → ℕ) (root power : ℕ → ℕ) (a : ℕ → ℕ → ℕ → ℕ) (h : IsFactors p D k r f root power a) where
  abbrev pos : zero < p
  pos = p-pos prime

  abbrev K : CommRing (Fin p)
  K = Fp p pos

  abbrev whole : ℕ → ℕ → ℕ
  whole = product p r (λ i. monic (power i) (a i))

  whole-rem : col p pos whole ≡ prod (Columns K) r (columns_of prime power a)
  whole-rem = product-rem p pos r (λ i. monic (power i) (a i))

  whole-monic : Monic K D (col p pos whole)
  whole-monic =
      subst (λ x. Monic K x (col p pos whole)) h.degree
      (subst (Monic K (sum_to r power)) (sym whole-rem)
      (chain-monic K r (roots_of prime root) power (columns_of prime power a) (factors-chain prime D k r f root power a h)))

  pub product_whole : (j t : ℕ) → t < k → product p r (λ i. monic (power i) (a i)) j t ≡ monic D f j t
  product_whole j t l =
      monic-rows p prime.two-le pos D whole (product_lt p r _ prime.two-le) whole-monic j t ∙ monic-ext D whole f t (λ j u. h.same j (omega arith) t l) j

  abbrev P : ℕ → ℕ
  P c = power_at r root power c

  abbrev F : ℕ → ℕ → ℕ → ℕ
  F c = factor_at r root power a c

  pub power-listed : (c : ℕ) → is_listed r root c ≡ true → 1 ≤ P c
  power-listed c e = let l = ltb-true (place_of r root c) r e in let z = h.powers _ l in let y = power-there r root power c l in omega arith

  -- over the numbers below p the factor of a number that is no root is 1
  factor-absent : (c : ℕ) → r ≤ place_of r root c → col p pos (F c) ≡ (Columns K).𝟙
  factor-absent c l = sym (monic-zero K _ (subst (λ m. Monic K m (col p pos (F c))) (power-absent r root power c l) (monic-rem p pos (P c) (a (place_of r root c)))))

  pub factor-first : (c : ℕ) → c < p → col p pos (F c) zero ≡ lin_pow K (rem p pos c) (P c)
  factor-first c l = first-column prime c (P c) (a (place_of r root c)) l (λ j u.
      ⊎_elim
      (λ (v : place_of r root c < r).
      let e = power-there r root power c v in
      h.first _ v j (omega arith) ∙ ap₂ (λ x m. root_power p x m j) (place-there r root c v) (sym e))
      (λ (v : r ≤ place_of r root c). absurd (let e = power-absent r root power c v in let z : ⊥ = omega arith in z))
      (lt-or-ge (place_of r root c) r))

  -- of all the numbers below p only the roots have a factor that is not 1, so any rising list that has them all will do
  pub factors-listed : (n : ℕ) (l : ℕ → ℕ) → ((i : ℕ) → suc i < n → l i < l (suc i)) → ((i : ℕ) → i < n → l i < p)
      → ((c : ℕ) → c < p → is_listed r root c ≡ true → (i : ℕ) × (i < n) × (l i ≡ c))
      → prod (Columns K) n (λ i. col p pos (F (l i))) ≡ col p pos (product p r (λ i. monic (power i) (a i)))
  factors-listed n l up low onto =
      prod-listed (Columns K) p n l (λ c. col p pos (F c)) up low (λ c u ne.
      ⊎_elim (λ (v : place_of r root c < r). absurd (let (i, w, e) = onto c u (lt-ltb _ r v) in ne i w e)) (factor-absent c) (lt-or-ge (place_of r root c) r))
      ∙ sym (prod-listed (Columns K) p r root (λ c. col p pos (F c)) h.rising h.reduced (λ c u ne.
      factor-absent c (let e = place-absent r root c ne in omega arith)))
      ∙ prod-ext (Columns K) r (λ i u. ap (col p pos) (factor-at r root power h.rising a i u)) ∙ sym whole-rem

one-true : (a b : Bool) → (a || b) ≡ true → (a ≡ true) ⊎ (b ≡ true)
one-true true b e = inl refl
one-true false b e = inr e

module _ {p : ℕ} (prime : Prime p) (k : ℕ) (pos : zero < k)
    (D r : ℕ) (f : ℕ → ℕ → ℕ) (root power : ℕ → ℕ) (a : ℕ → ℕ → ℕ → ℕ) (h : IsFactors p D k r f root power a)
    (D' r' : ℕ) (f' : ℕ → ℕ → ℕ) (root' power' : ℕ → ℕ) (a' : ℕ → ℕ → ℕ → ℕ) (h' : IsFactors p D' k r' f' root' power' a')
    (n : ℕ) (l : ℕ → ℕ) (up : (i : ℕ) → suc i < n → l i < l (suc i)) (low : (i : ℕ) → i < n → l i < p)
    (from : (i : ℕ) → i < n → (is_listed r root (l i) || is_listed r' root' (l i)) ≡ true)
    (onto : (c : ℕ) → c < p → (is_listed r root c || is_listed r' root' c) ≡ true → (i : ℕ) × (i < n) × (l i ≡ c)) where
  abbrev two : 2 ≤ p
  two = prime.two-le

  abbrev pp : zero < p
  pp = p-pos prime

  abbrev C : CommRing (ℕ → ℕ → Fin p)
  C = Columns (Fp p pp)

  -- a number's power and factor, in the first list and in the second
  abbrev m : ℕ → ℕ
  m c = power_at r root power c

  abbrev m' : ℕ → ℕ
  m' c = power_at r' root' power' c

  abbrev A : ℕ → ℕ → ℕ → ℕ
  A c = factor_at r root power a c

  abbrev A' : ℕ → ℕ → ℕ → ℕ
  A' c = factor_at r' root' power' a' c

  -- and of number i of the joined list
  abbrev M : ℕ → ℕ
  M i = m (l i) + m' (l i)

  abbrev B : ℕ → ℕ → ℕ → ℕ
  B i = mul p (A (l i)) (A' (l i))

  -- with its leading 1 it is itself: both are monic, or 1
  joined-monic : (i j t : ℕ) → B i j t ≡ monic (M i) (B i) j t
  joined-monic i = mul-monic p two (m (l i)) (m' (l i)) _ _

  joined-rem : (i : ℕ) → col p pp (monic (M i) (B i)) ≡ C.mul (col p pp (A (l i))) (col p pp (A' (l i)))
  joined-rem i = fun_ext (λ t. fun_ext (λ j. ap (rem p pp) (sym (joined-monic i j t)))) ∙ mul-rem p pp (A (l i)) (A' (l i))

  -- the two products
  abbrev W : ℕ → ℕ → ℕ
  W = product p r (λ i. monic (power i) (a i))

  abbrev W' : ℕ → ℕ → ℕ
  W' = product p r' (λ i. monic (power' i) (a' i))

  -- each number's two factors come apart into two products over the joined list, which has the roots of both
  whole-joined : prod C n (λ i. col p pp (monic (M i) (B i))) ≡ C.mul (col p pp W) (col p pp W')
  whole-joined =
      ap (prod C n) (fun_ext joined-rem) ∙ prod-mul C n (λ i. col p pp (A (l i))) (λ i. col p pp (A' (l i)))
      ∙ ap₂ C.mul
      (factors-listed prime D k r f root power a h n l up low (λ c u e. onto c u (ap (λ x. x || is_listed r' root' c) e)))
      (factors-listed prime D' k r' f' root' power' a' h' n l up low (λ c u e. onto c u (ap (λ x. is_listed r root c || x) e ∙ or-true (is_listed r root c))))

  pub joined-product : (j t : ℕ) → product p n (λ i. monic (M i) (B i)) j t ≡ mul p W W' j t
  joined-product j t =
      same-rem p pp (product_lt p n _ two j t) (mul-lt p W W' j t pp)
      (ap (λ x. x t j) (product-rem p pp n (λ i. monic (M i) (B i)) ∙ whole-joined ∙ sym (mul-rem p pp W W')))

  joined_same : (j t : ℕ) → t < k → product p n (λ i. monic (M i) (B i)) j t ≡ mul p (monic D f) (monic D' f') j t
  joined_same j t u =
      joined-product j t ∙ mul-ext p _ _ _ _ j t (λ i s _ v. product_whole prime D k r f root power a h i s (omega arith))
      (λ i s _ v. product_whole prime D' k r' f' root' power' a' h' i s (omega arith))

  -- both are degrees of one monic polynomial
  joined-degree : sum_to n M ≡ D + D'
  joined-degree =
      monic-degree (Fp p pp) (Fp-field prime).nontrivial
      (subst (Monic (Fp p pp) (sum_to n M)) whole-joined (prod-monic (Fp p pp) n M _ (λ i u. monic-rem p pp (M i) (B i))))
      (monic-mul (Fp p pp) D D' _ _ (whole-monic prime D k r f root power a h) (whole-monic prime D' k r' f' root' power' a' h'))

  -- at X = 0 the powers of Y − c add up
  joined-first : (i : ℕ) → i < n → (j : ℕ) → B i j zero ≡ root_power p (l i) (M i) j
  joined-first i u j =
      let c = l i in
      same-rem p pp (mul-lt p (A c) (A' c) j zero pp) (line-lt p _ (M i) j two)
      (ap (λ x. x j)
      (ap (λ x. x zero) (mul-rem p pp (A c) (A' c)) ∙ mul-at-zero (Series (Fp p pp)) (col p pp (A c)) (col p pp (A' c))
      ∙ ap₂ (Series (Fp p pp)).mul (factor-first prime D k r f root power a h c (low i u)) (factor-first prime D' k r' f' root' power' a' h' c (low i u))
      ∙ sym (pow-add (Series (Fp p pp)) (lin (Fp p pp) (rem p pp c)) (m c) (m' c)) ∙ sym (root-power p pp c (low i u) (M i))))

  joined-flat : (i : ℕ) → i < n → (j t : ℕ) → t < 1 → flat (root_power p (l i) (M i)) j t ≡ monic (M i) (B i) j t
  joined-flat i u j zero g = sym (joined-first i u j) ∙ joined-monic i j zero
  joined-flat i u j (suc t) g = absurd (let z : ⊥ = omega arith in z)

  joined-powers : (i : ℕ) → i < n → 1 ≤ M i
  joined-powers i u =
      ⊎_elim (λ e. let z = power-listed prime D k r f root power a h (l i) e in omega arith)
      (λ e. let z = power-listed prime D' k r' f' root' power' a' h' (l i) e in omega arith) (one-true _ _ (from i u))

  pub joined-factors : IsFactors p (D + D') k n (mul p (monic D f) (monic D' f')) l
      (λ i. power_at r root power (l i) + power_at r' root' power' (l i))
      (λ i. mul p (factor_at r root power a (l i)) (factor_at r' root' power' a' (l i)))
  joined-factors = record {
    rising = up;
    reduced = low;
    powers = joined-powers;
    degree = joined-degree;
    splits = λ j u. product-ext p 1 n _ _ joined-flat j zero (omega arith) ∙ joined_same j zero pos;
    first = λ i u j v. joined-first i u j;
    same = λ j u t v. joined_same j t v;
  }
