-- The conditions of the factors, carried to chains of factors over F_p: they have at most one solution, and it determines the polynomial.
--   product-rem         the plain product of a list of row polynomials is their product over F_p
--   product-ext         a product's columns below k are determined by those of its factors
--   first-column        a factor at X = 0 is a power of Y − c
--   factors-chain       lists of factors are chains over F_p
--   factors-determine   where two factor lists agree below X^(n + 1), r, roots, powers and columns, their polynomials do
--   factors-unique      and the lists agree where the polynomials do
--   factors-ext         the conditions look only at the rows and columns that they name
-- Assumes nothing.
use Prim.Native.Nat.{ℕ, zero, suc, ◌%◌, ◌≤◌, ◌<◌, Fin}
use native.Mathlib.Nat.{lt_of_not-le, mod-eq_of_lt}
use native.Mathlib.Decide.{dec_le}
use native.Mathlib.Omega.{arith}
use mathlib.Core.Path.{◌≡◌, refl, sym, ◌∙◌, ap, ap₂, fun_ext}
use Rattle.algebra.specs.Sums.{sum_to}
use Rattle.algebra.proofs.SumsLaws.{sum_to-ext}
use Rattle.algebra.specs.internal.Ring.{CommRing, prod}
use Rattle.algebra.proofs.RingLaws.{prod-zero, prod-suc}
use Rattle.algebra.specs.internal.Series.{Series, cons}
use Rattle.algebra.proofs.SeriesLaws.{zero-at, one_at}
use Rattle.algebra.specs.internal.Poly.{lin_pow, Columns}
use Rattle.algebra.proofs.PolyLaws.{below-lin_pow, lin_pow-top}
use Rattle.algebra.proofs.Chain.{Monic, IsChain, Rising, SameChain, chain-unique, chain-monic}
use Rattle.algebra.specs.Prime.{Prime}
use Rattle.algebra.specs.internal.Fp.{Fp, rem, col}
use Rattle.algebra.proofs.FpLaws.{p-pos, Fp-field, val-unique}
use Rattle.algebra.proofs.BridgeLaws.{same-rem, rem-zero, rem-one}
use Rattle.rows.proofs.ShiftLaws.{root-power}
use Rattle.rows.specs.Rows.{monic}
use Rattle.rows.proofs.MulLaws.{mul-rem, mul-ext, mul-lt}
use Rattle.rows.proofs.MonicLaws.{monic-low, monic-top, monic-above, monic-later, monic-ext, by_place}
use Rattle.hensel.specs.Factors.{root_power, flat, one, product, split, IsFactors, SameFactors, SamePolynomial}

module _ (p : ℕ) (pos : zero < p) where
  abbrev K : CommRing (Fin p)
  K = Fp p pos

  one-rem : col p pos one ≡ (Columns K).𝟙
  one-rem = fun_ext (λ t. fun_ext (λ j. go t j)) ∙ sym (one_at (Series K))
    where
      go : (t j : ℕ) → rem p pos (one j t) ≡ cons (Series K).𝟙 (λ _. (Series K).𝟘) t j
      go zero zero = rem-one p pos ∙ sym (ap (λ x. x zero) (one_at K))
      go zero (suc j) = rem-zero p pos ∙ sym (ap (λ x. x (suc j)) (one_at K))
      go (suc t) zero = rem-zero p pos ∙ sym (zero-at K zero)
      go (suc t) (suc j) = rem-zero p pos ∙ sym (zero-at K (suc j))

  pub product-rem : (n : ℕ) (F : ℕ → ℕ → ℕ → ℕ) → col p pos (product p n F) ≡ prod (Columns K) n (λ i. col p pos (F i))
  unfolding product
  product-rem zero F = one-rem ∙ sym (prod-zero (Columns K) _)
  product-rem (suc n) F =
      mul-rem p pos (F zero) (product p n (λ i. F (suc i))) ∙ ap ((Columns K).mul (col p pos (F zero))) (product-rem n (λ i. F (suc i)))
      ∙ sym (prod-suc (Columns K) n (λ i. col p pos (F i)))

  -- Y^d and the rows below it
  pub monic-rem : (d : ℕ) (a : ℕ → ℕ → ℕ) → Monic K d (col p pos (monic d a))
  monic-rem d a = record {
    bound = λ t j l. ap (rem p pos) (monic-above d a j t l) ∙ rem-zero p pos;
    top = ap (rem p pos) (monic-top d a zero) ∙ rem-one p pos;
    rest = λ t. ap (rem p pos) (monic-top d a (suc t)) ∙ rem-zero p pos;
  }

pub product_lt : (p r : ℕ) (F : ℕ → ℕ → ℕ → ℕ) → 1 < p → (j t : ℕ) → product p r F j t < p
unfolding product
product_lt p zero F l zero zero = l
product_lt p zero F l zero (suc t) = omega arith
product_lt p zero F l (suc j) t = omega arith
product_lt p (suc r) F l j t = mul-lt p _ _ j t (omega arith)

pub product-ext : (p k n : ℕ) (F F' : ℕ → ℕ → ℕ → ℕ) → ((i : ℕ) → i < n → (j t : ℕ) → t < k → F i j t ≡ F' i j t) → (j t : ℕ) → t < k → product p n F j t ≡ product p n F' j t
unfolding product
product-ext p k zero F F' h j t l = refl
product-ext p k (suc n) F F' h j t l =
    mul-ext p _ _ _ _ j t (λ i s _ g. h zero (omega arith) i s (omega arith)) (λ i s _ g. product-ext p k n _ _ (λ i l. h (suc i) (omega arith)) i s (omega arith))

-- the product of r factors whose rows agree in the columns below k
pub monics-ext : (p k r : ℕ) (power power' : ℕ → ℕ) (a a' : ℕ → ℕ → ℕ → ℕ) → ((i : ℕ) → i < r → power i ≡ power' i)
    → ((i : ℕ) → i < r → (j : ℕ) → j < power i → (t : ℕ) → t < k → a i j t ≡ a' i j t)
    → (j t : ℕ) → t < k → product p r (λ i. monic (power i) (a i)) j t ≡ product p r (λ i. monic (power' i) (a' i)) j t
monics-ext p k r power power' a a' e h = product-ext p k r _ _ (λ i l j t g.
    monic-ext (power i) (a i) (a' i) t (λ j u. h i l j u t g) j ∙ ap (λ m. monic m (a' i) j t) (e i l))

pub split-ext : (p r : ℕ) (root root' power power' : ℕ → ℕ) → ((i : ℕ) → i < r → root i ≡ root' i) → ((i : ℕ) → i < r → power i ≡ power' i)
    → (j : ℕ) → split p r root power j ≡ split p r root' power' j
split-ext p r root root' power power' er ep j =
    product-ext p 1 r (λ i. flat (root_power p (root i) (power i))) (λ i. flat (root_power p (root' i) (power' i)))
    (λ i l j t g. ap₂ (λ x y. flat (root_power p x y) j t) (er i l) (ep i l)) j zero (omega arith)

pub factors-ext : (p D k r : ℕ) (f f' : ℕ → ℕ → ℕ) (root root' power power' : ℕ → ℕ) (a a' : ℕ → ℕ → ℕ → ℕ) → zero < k
    → ((j : ℕ) → j ≤ D → (t : ℕ) → t < k → f' j t ≡ f j t) → ((i : ℕ) → i < r → root' i ≡ root i) → ((i : ℕ) → i < r → power' i ≡ power i)
    → ((i : ℕ) → i < r → (j : ℕ) → j < power i → (t : ℕ) → t < k → a' i j t ≡ a i j t) → IsFactors p D k r f root power a → IsFactors p D k r f' root' power' a'
factors-ext p D k r f f' root root' power power' a a' pos ef er ep ea h = record {
  rising = λ i l. let x = h.rising i l in let y = er i (omega arith) in let z = er (suc i) l in omega arith;
  reduced = λ i l. let x = h.reduced i l in let y = er i l in omega arith;
  powers = λ i l. let x = h.powers i l in let y = ep i l in omega arith;
  degree = sum_to-ext r ep ∙ h.degree;
  splits = λ j l. split-ext p r root' root power' power er ep j ∙ h.splits j l ∙ sym (ef j l zero pos);
  first = λ i l j g.
      let g'' : j < power i = let z = ep i l in omega arith in
      ea i l j g'' zero pos ∙ h.first i l j g'' ∙ sym (ap₂ (λ x y. root_power p x y j) (er i l) (ep i l));
  same = λ j l t g.
      monics-ext p k r power' power a' a ep (λ i u j v. ea i u j (let z = ep i u in omega arith)) j t g ∙ h.same j l t g ∙ sym (ef j l t g);
}

module _ {p : ℕ} (prime : Prime p) where
  abbrev pos : zero < p
  pos = p-pos prime

  abbrev q : ℕ → Fin p
  q = rem p pos

  -- factor i, and root i, over the numbers below p
  abbrev pub columns_of : (ℕ → ℕ) → (ℕ → ℕ → ℕ → ℕ) → ℕ → ℕ → ℕ → Fin p
  columns_of power a i = col p pos (monic (power i) (a i))

  abbrev pub roots_of : (ℕ → ℕ) → ℕ → Fin p
  roots_of root i = q (root i)

  abbrev pub key : Fin p → ℕ
  key x = x.0

  pub roots-rising : (r : ℕ) (root : ℕ → ℕ) → ((i : ℕ) → suc i < r → root i < root (suc i)) → ((i : ℕ) → i < r → root i < p) → Rising key r (roots_of root)
  roots-rising r root up low i l =
      let e : root i % p ≡ root i = mod-eq_of_lt (low i (omega arith)) in
      let e' : root (suc i) % p ≡ root (suc i) = mod-eq_of_lt (low (suc i) l) in
      let u = up i l in
      omega arith

  -- a factor at X = 0
  pub first-column : (c m : ℕ) (a : ℕ → ℕ → ℕ) → c < p → ((j : ℕ) → j < m → a j zero ≡ root_power p c m j) → col p pos (monic m a) zero ≡ lin_pow (Fp p pos) (q c) m
  first-column c m a l h = fun_ext (by_place (λ j. q (monic m a j zero) ≡ lin_pow (Fp p pos) (q c) m j) m
      (λ j g. ap q (monic-low m a j zero g ∙ h j g) ∙ ap (λ x. x j) (root-power p pos c l m))
      (ap q (monic-top m a zero) ∙ rem-one p pos ∙ sym (lin_pow-top (Fp p pos) (q c) m))
      (λ j g. ap q (monic-above m a j zero g) ∙ rem-zero p pos ∙ sym (below-lin_pow (Fp p pos) (q c) m j g)))

  module _ (D k r : ℕ) (f : ℕ → ℕ → ℕ) (root power : ℕ → ℕ) (a : ℕ → ℕ → ℕ → ℕ) (h : IsFactors p D k r f root power a) where
    pub factors-chain : IsChain (K p pos) r (roots_of root) power (columns_of power a)
    factors-chain = record {
      powers = h.powers;
      first = λ i l. first-column (root i) (power i) (a i) (h.reduced i l) (h.first i l);
      low = λ i l t j g. ap q (monic-later (power i) (a i) j t g) ∙ rem-zero p pos;
    }

    pub factors-columns : (t : ℕ) → t < k → (j : ℕ) → j ≤ D → prod (Columns (K p pos)) r (columns_of power a) t j ≡ q (f j t)
    factors-columns t l j g = ap (λ x. x t j) (sym (product-rem p pos r (λ i. monic (power i) (a i)))) ∙ ap q (h.same j g t l)

    pub factors-above : (t j : ℕ) → D < j → prod (Columns (K p pos)) r (columns_of power a) t j ≡ (K p pos).𝟘
    factors-above t j l = (chain-monic (K p pos) r (roots_of root) power (columns_of power a) factors-chain).bound t j (let e = h.degree in omega arith)

  module _ (n k k' D D' r r' : ℕ) (f f' : ℕ → ℕ → ℕ) (root root' power power' : ℕ → ℕ) (a a' : ℕ → ℕ → ℕ → ℕ)
      (h : IsFactors p D k r f root power a) (h' : IsFactors p D' k' r' f' root' power' a') (l : n < k) (l' : n < k') where
    pub factors-determine : SameFactors (suc n) r r' root root' power power' a a' → SamePolynomial (suc n) D D' f f'
    factors-determine e =
        let powers : (i : ℕ) → i < r → power i ≡ power' i = e.powers in
        let d : D ≡ D' = sym h.degree ∙ sum_to-ext r powers ∙ ap (λ x. sum_to x power') e.counts ∙ h'.degree in
        record {
          degrees = d;
          columns = λ j u t v.
              sym (h.same j u t (omega arith)) ∙ monics-ext p (suc n) r power power' a a' powers e.columns j t v
              ∙ ap (λ x. product p x (λ i. monic (power' i) (a' i)) j t) e.counts ∙ h'.same j (omega arith) t (omega arith);
        }

    same-columns : SamePolynomial (suc n) D D' f f' → (t : ℕ) → t < suc n → prod (Columns (K p pos)) r (columns_of power a) t ≡ prod (Columns (K p pos)) r' (columns_of power' a') t
    same-columns e t g = fun_ext λ j. go j (dec_le j D)
      where
        go : (j : ℕ) → Dec (j ≤ D) → prod (Columns (K p pos)) r (columns_of power a) t j ≡ prod (Columns (K p pos)) r' (columns_of power' a') t j
        go j (yes u) =
            factors-columns D k r f root power a h t (omega arith) j u ∙ ap q (e.columns j u t g)
            ∙ sym (factors-columns D' k' r' f' root' power' a' h' t (omega arith) j (let d = e.degrees in omega arith))
        go j (no u) =
            let v = lt_of_not-le u in
            factors-above D k r f root power a h t j v ∙ sym (factors-above D' k' r' f' root' power' a' h' t j (let d = e.degrees in omega arith))

    same-chain : SamePolynomial (suc n) D D' f f' → SameChain (K p pos) n r r' (roots_of root) (roots_of root') power power' (columns_of power a) (columns_of power' a')
    same-chain e =
        chain-unique (K p pos) (Fp-field prime) key val-unique n r r' _ _ _ _ _ _ (factors-chain D k r f root power a h) (factors-chain D' k' r' f' root' power' a' h')
        (roots-rising r root h.rising h.reduced) (roots-rising r' root' h'.rising h'.reduced) (same-columns e)

    pub factors-unique : ((i : ℕ) → i < r → (q : ℕ) → q < power i → (t : ℕ) → t < suc n → a i q t < p) → ((i : ℕ) → i < r' → (q : ℕ) → q < power' i → (t : ℕ) → t < suc n → a' i q t < p)
        → SamePolynomial (suc n) D D' f f' → SameFactors (suc n) r r' root root' power power' a a'
    factors-unique b b' e =
        let c = same-chain e in
        record {
          counts = c.counts;
          roots = λ i g. same-rem p pos (h.reduced i g) (h'.reduced i (let z = c.counts in omega arith)) (c.roots i g);
          powers = c.powers;
          columns = λ i g j u t v.
              let u' : j < power' i = let z = c.powers i g in omega arith in
              same-rem p pos (b i g j u t v) (b' i (let z = c.counts in omega arith) j u' t v)
              (ap q (sym (monic-low (power i) (a i) j t u)) ∙ ap (λ x. x j) (c.columns i g t v) ∙ ap q (monic-low (power' i) (a' i) j t u'));
        }
