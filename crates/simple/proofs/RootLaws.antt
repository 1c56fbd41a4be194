-- Where all powers are 1 each root at X = 0 goes on to exactly one series s with f(s) = 0 modulo X^k, and it is minus the factor's row.
--   factors-value   f at s is, below X^k, the product of the s + a i
--   root_is         minus the row of factor i is such a series
--   root-only       and the only one
--   sheet-root, sheet-only   the same of a sound sheet; root-series as a list
--   root-factor     factor i is Y minus the series of root i
-- Assumes nothing.
use Prim.Native.Nat.{ℕ, zero, suc, ◌+◌, ◌-◌, ◌≤◌, ◌<◌, ◌%◌, Fin}
use native.Mathlib.Nat.{mod-lt, mod_self, mod-add-mod, mul-one as mulₙ-one}
use native.Mathlib.Omega.{arith}
use mathlib.Core.Path.{◌≡◌, sym, ◌∙◌, ap, fun_ext}
use mathlib.Core.Logic.{◌≢◌, ⊎_elim}
use mathlib.Core.List.{List}
use lib.ListN.{length}
use lib.Seq.{ext_get_or}
use Rattle.algebra.proofs.BridgeLaws.{same-rem, rem-zero, rem-one, neg-rem}
use Rattle.algebra.proofs.Chain.{rising-distinct}
use Rattle.algebra.proofs.FpLaws.{p-pos, Fp-field, rem-mod}
use Rattle.algebra.proofs.PolyLaws.{lin-coeff-zero, lin-coeff-suc, eval}
use Rattle.algebra.proofs.RingLaws.{neg-neg, prod-ext}
use Rattle.algebra.proofs.SeriesLaws.{add_at, neg-at, zero-at, one_at}
use Rattle.algebra.proofs.SumsLaws.{sum_to-ext, sum_to-const}
use Rattle.algebra.specs.Prime.{Prime}
use Rattle.algebra.specs.Sums.{sum_to}
use Rattle.algebra.specs.internal.Fp.{Fp, rem, col}
use Rattle.algebra.specs.internal.Poly.{lin, Columns}
use Rattle.algebra.specs.internal.Ring.{CommRing, neg-add, add-cancel-left, prod}
use Rattle.algebra.specs.internal.Series.{Series, cons}
use Rattle.hensel.proofs.FactorsLaws.{product-rem, roots_of, key, roots-rising}
use Rattle.hensel.specs.Factors.{root_power, IsFactors}
use Rattle.layout.specs.Layout.{modulus, degree, terms, count, root, power, polynomial, factor}
use Rattle.numbers.specs.Words.{word, tabulate}
use Rattle.numbers.specs.One.{One}
use Rattle.numbers.proofs.WordsLaws.{lt-or-ge, length-tabulate, word-tabulate}
use Rattle.rows.proofs.MonicLaws.{monic-low, monic-top, monic-above}
use Rattle.rows.specs.Rows.{line_power, unit, monic}
use Rattle.sheet.proofs.SheetsLaws.{factor-row, sound-good}
use Rattle.sheet.specs.Sheet.{Sound}
use Rattle.sheet.specs.internal.Content.{content_of}
use Rattle.simple.specs.Simple.{value_at, IsSeriesRoot}
use Rattle.simple.specs.internal.Factors.{AllSimple, root_series}
use Rattle.simple.proofs.ValueLaws.{eval-lins, eval-agree, prod-transpose, prod-cancel, prod-none, value-rem, root-ext}

pub sum_ones : (r : ℕ) (power : ℕ → ℕ) → ((i : ℕ) → i < r → power i ≡ 1) → sum_to r power ≡ r
sum_ones r power h = sum_to-ext r h ∙ sum_to-const r 1 ∙ mulₙ-one r

root-first : (p c : ℕ) → root_power p c 1 0 ≡ (p - c) % p
unfolding line_power
root-first p c = ap (λ (x : ℕ). x % p) (mulₙ-one (p - c))

value-lt : (p D : ℕ) (f : ℕ → ℕ → ℕ) (s : ℕ → ℕ) (t : ℕ) → zero < p → value_at p D f s t < p
unfolding value_at
value-lt p D f s t pos = mod-lt _ pos

module _ {p : ℕ} (prime : Prime p) (D k r : ℕ) (f : ℕ → ℕ → ℕ) (root power : ℕ → ℕ) (a : ℕ → ℕ → ℕ → ℕ) (h : IsFactors p D k r f root power a)
    (low : zero < k) (ones : (i : ℕ) → i < r → power i ≡ 1) where
  abbrev pos : zero < p
  pos = p-pos prime

  abbrev K : CommRing (Fin p)
  K = Fp p pos

  abbrev 𝓢 : CommRing (ℕ → Fin p)
  𝓢 = Series K

  abbrev q : ℕ → Fin p
  q = rem p pos

  -- minus the row of factor i, over F_p
  abbrev line : ℕ → ℕ → Fin p
  line i t = K.neg (q (a i 0 t))

  -- factor i is Y minus it
  factor-line : (i : ℕ) → i < r → (λ (j t : ℕ). q (monic (power i) (a i) j t)) ≡ lin 𝓢 (line i)
  factor-line i l = fun_ext (λ j. fun_ext (λ t. ap (λ m. q (monic m (a i) j t)) (ones i l) ∙ go j t))
    where
      go : (j t : ℕ) → q (monic 1 (a i) j t) ≡ lin 𝓢 (line i) j t
      go zero t = ap q (monic-low 1 (a i) zero t (omega arith)) ∙ sym (ap (λ x. x t) (lin-coeff-zero 𝓢 (line i)) ∙ neg-at K (line i) t ∙ neg-neg K (q (a i 0 t)))
      go (suc zero) t = ap q (monic-top 1 (a i) t) ∙ one t ∙ sym (ap (λ x. x t) (lin-coeff-suc 𝓢 (line i) zero ∙ ap (λ x. x zero) (one_at 𝓢) ∙ one_at K))
        where
          one : (t : ℕ) → q (unit t) ≡ cons K.𝟙 (λ _. K.𝟘) t
          one zero = rem-one p pos
          one (suc t) = rem-zero p pos
      go (suc (suc j)) t =
          ap q (monic-above 1 (a i) (suc (suc j)) t (omega arith)) ∙ rem-zero p pos
          ∙ sym (ap (λ x. x t) (lin-coeff-suc 𝓢 (line i) (suc j) ∙ ap (λ x. x (suc j)) (one_at 𝓢)) ∙ zero-at K t)

  degree-count : D ≡ r
  degree-count = sym h.degree ∙ sum_ones r power ones

  row_at : (j t : ℕ) → j < suc D → t < k → q (f j t) ≡ prod (Columns K) r (λ i. lin 𝓢 (line i)) j t
  row_at j t l g =
      ap q (sym (h.same j (omega arith) t g)) ∙ ap (λ x. x t j) (product-rem p pos r (λ i. monic (power i) (a i)))
      ∙ prod-transpose K r (λ i. col p pos (monic (power i) (a i))) t j ∙ ap (λ x. x j t) (prod-ext (Columns K) r factor-line)

  -- f at s is the product of the s − line i
  pub factors-value : (s : ℕ → ℕ) (t : ℕ) → t < k → q (value_at p D f s t) ≡ prod 𝓢 r (λ i. 𝓢.add (𝓢.neg (line i)) (λ t. q (s t))) t
  factors-value s t l =
      value-rem p pos D f s t ∙ eval-agree K k (suc D) (λ t. q (s t)) (λ j t. q (f j t)) (prod (Columns K) r (λ i. lin 𝓢 (line i))) row_at t l
      ∙ ap (λ n. eval 𝓢 (λ t. q (s t)) (suc n) (prod (Columns K) r (λ i. lin 𝓢 (line i))) t) degree-count
      ∙ ap (λ x. x t) (eval-lins 𝓢 (λ t. q (s t)) r line)

  value-at : (s : ℕ → ℕ) (i t : ℕ) → 𝓢.add (𝓢.neg (line i)) (λ t. q (s t)) t ≡ K.add (K.neg (line i t)) (q (s t))
  value-at s i t = add_at K (𝓢.neg (line i)) (λ t. q (s t)) t ∙ ap (λ x. K.add x (q (s t))) (neg-at K (line i) t)

  -- at X = 0 it is the root
  line_first : (i : ℕ) → i < r → line i zero ≡ q (root i)
  line_first i l =
      let e : a i 0 zero ≡ (p - root i) % p = h.first i l 0 (let z = ones i l in omega arith) ∙ ap (λ m. root_power p (root i) m 0) (ones i l) ∙ root-first p (root i) in
      ap (λ x. K.neg (q x)) e ∙ ap K.neg (rem-mod p pos (p - root i) ∙ sym (neg-rem p pos (root i) (h.reduced i l))) ∙ neg-neg K (q (root i))

  roots-apart : (l i : ℕ) → l < r → i < r → l ≢ i → q (root l) ≢ q (root i)
  roots-apart l i u v ne e =
      let apart = rising-distinct (key prime) r (roots_of prime root) (roots-rising prime r root h.rising h.reduced) in
      ⊎_elim (λ (w : l < i). apart l i w v e) (λ (w : i ≤ l). apart i l (omega arith) u (sym e)) (lt-or-ge l i)

  module _ (reduced : (i : ℕ) → i < r → (t : ℕ) → t < k → a i 0 t < p) where
    line-rem : (i : ℕ) → i < r → (t : ℕ) → t < k → q ((p - a i 0 t) % p) ≡ line i t
    line-rem i l t g = rem-mod p pos (p - a i 0 t) ∙ sym (neg-rem p pos (a i 0 t) (reduced i l t g))

    pub root_is : (i : ℕ) → i < r → IsSeriesRoot p D k f (root i) (λ t. (p - a i 0 t) % p)
    root_is i l = record {
      reduced = λ t g. mod-lt _ pos;
      first = same-rem p pos (mod-lt _ pos) (h.reduced i l) (line-rem i l zero low ∙ line_first i l);
      value = λ t g.
          let below : t < k = omega (arith, low) in
          same-rem p pos (value-lt p D f _ t pos) pos
          (factors-value (λ t. (p - a i 0 t) % p) t below
          ∙ prod-none K k r _ i l (λ t u. value-at (λ t. (p - a i 0 t) % p) i t ∙ ap (λ x. K.add (K.neg (line i t)) x) (line-rem i l t u) ∙ neg-add K (line i t)) t below
          ∙ sym (rem-zero p pos));
    }

    pub root-only : (i : ℕ) → i < r → (s : ℕ → ℕ) → IsSeriesRoot p D k f (root i) s → (t : ℕ) → t < k → s t ≡ (p - a i 0 t) % p
    root-only i l s u t g =
        same-rem p pos (u.reduced t g) (mod-lt _ pos)
        (add-cancel-left K (K.neg (line i t))
        (sym (value-at s i t)
        ∙ prod-cancel K (Fp-field prime) k r (λ i. 𝓢.add (𝓢.neg (line i)) (λ t. q (s t))) i l
        (λ m v ne e. roots-apart m i v l ne (sym (line_first m v) ∙ add-cancel-left K (K.neg (line m zero)) (neg-add K (line m zero) ∙ sym e ∙ value-at s m zero ∙ ap (λ x. K.add (K.neg (line m zero)) (q x)) u.first)))
        (λ t v. sym (factors-value s t v) ∙ ap q (u.value t v) ∙ rem-zero p pos) t g
        ∙ sym (neg-add K (line i t)) ∙ ap (λ x. K.add (K.neg (line i t)) x) (sym (line-rem i l t g))))

-- of a sound sheet
module _ (s : List ℕ) (sound : Sound s) (ones : AllSimple s) where
  factor-low : (i : ℕ) → i < count s → (t : ℕ) → t < terms s → factor s i 0 t < modulus s
  factor-low i l t g = sound.factors-reduced _ (factor-row (content_of s) (sound-good s sound) i 0 l (let z = ones i l in omega arith)) t g

  -- for each root there is such a series, minus the factor's row ..
  pub sheet-root : (i : ℕ) → i < count s → IsSeriesRoot (modulus s) (degree s) (terms s) (polynomial s) (root s i) (root_series s i)
  sheet-root = root_is sound.prime (degree s) (terms s) (count s) (polynomial s) (root s) (power s) (factor s) sound.factors sound.terms-low ones factor-low

  -- .. and no other
  pub sheet-only : (i : ℕ) → i < count s → (u : ℕ → ℕ) → IsSeriesRoot (modulus s) (degree s) (terms s) (polynomial s) (root s i) u → (t : ℕ) → t < terms s → u t ≡ root_series s i t
  sheet-only = root-only sound.prime (degree s) (terms s) (count s) (polynomial s) (root s) (power s) (factor s) sound.factors sound.terms-low ones factor-low

  -- as a list of k words there is exactly one
  pub root-series : (i : ℕ) → i < count s → One (λ (l : List ℕ). (length l ≡ terms s) × IsSeriesRoot (modulus s) (degree s) (terms s) (polynomial s) (root s i) (word l))
  root-series i l =
      let at : (t : ℕ) → t < terms s → word (tabulate (terms s) (root_series s i)) t ≡ root_series s i t = word-tabulate (terms s) (root_series s i) in (
        tabulate (terms s) (root_series s i),
        record {
          is = (length-tabulate (terms s) _, root-ext (modulus s) (degree s) (terms s) (polynomial s) (root s i) (root_series s i) _ sound.terms-low at (sheet-root i l));
          only = λ y x. ext_get_or 0 y _ (x.0 ∙ sym (length-tabulate (terms s) _)) (λ t g. sheet-only i l (word y) x.1 t (omega (arith, x.0)) ∙ sym (at t (omega (arith, x.0))));
        },
      )

  -- factor i is Y minus it
  pub root-factor : (i : ℕ) → i < count s → (u : ℕ → ℕ) → IsSeriesRoot (modulus s) (degree s) (terms s) (polynomial s) (root s i) u → (t : ℕ) → t < terms s → (u t + factor s i 0 t) % modulus s ≡ 0
  root-factor i l u h t g =
      let a = factor s i 0 t in
      let low = factor-low i l t g in
      ap (λ (x : ℕ). (x + a) % modulus s) (sheet-only i l u h t g) ∙ mod-add-mod (modulus s - a) (modulus s) a ∙ ap (λ (x : ℕ). x % modulus s) (let z : modulus s - a + a ≡ modulus s = omega arith in z) ∙ mod_self (modulus s)
