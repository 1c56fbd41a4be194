-- The conditions of the factors have a solution, to any number of terms.
--   splits-unique  f at X = 0 determines roots and powers
--   solution ..    the rows of the factors, over F_p
--   solution-lt    they are below p
--   solution-is    they are the factors to k terms, for every k up to N
--   solution-only  and these are the only factors: the conditions have exactly one solution
-- Assumes nothing.
use Prim.Native.Nat.{ℕ, zero, suc, ◌-◌, ◌≤◌, ◌<◌, Fin}
use native.Mathlib.Nat.{eq-or-lt_of_le, lt_of_not-le, mod-eq_of_lt}
use native.Mathlib.Decide.{dec_le}
use native.Mathlib.Omega.{arith}
use mathlib.Core.Path.{◌≡◌, refl, sym, ◌∙◌, ap, subst, fun_ext}
use mathlib.Core.Logic.{⊎_elim}
use Rattle.sheet.specs.internal.Content.{Splits}
use Rattle.algebra.specs.Sums.{sum_to}
use Rattle.algebra.specs.internal.Ring.{CommRing}
use Rattle.algebra.proofs.RingLaws.{prod-ext}
use Rattle.algebra.specs.internal.Series.{Series}
use Rattle.algebra.proofs.SeriesLaws.{prod-at-zero}
use Rattle.algebra.specs.internal.Poly.{Columns}
use Rattle.algebra.proofs.Chain.{Monic, Lifted, at_zero, at-zero-below, chain-exists, roots-unique, rising-distinct, factor-monic}
use Rattle.algebra.specs.Prime.{Prime}
use Rattle.algebra.specs.internal.Fp.{Fp, rem, col}
use Rattle.algebra.proofs.FpLaws.{p-pos, Fp-field, rem-val, val-unique}
use Rattle.algebra.proofs.BridgeLaws.{same-rem, rem-zero, rem-one}
use Rattle.rows.proofs.ShiftLaws.{root-power}
use Rattle.rows.proofs.RowsLaws.{line-lt}
use Rattle.rows.specs.Rows.{unit, monic}
use Rattle.rows.proofs.MonicLaws.{monic-low, monic-top, monic-above, by_place}
use Rattle.hensel.specs.Factors.{root_power, flat, split, IsFactors}
use Rattle.hensel.proofs.FactorsLaws.{product-rem, product_lt, monic-rem, factors-unique, roots_of, key, roots-rising}

module _ {p : ℕ} (prime : Prime p) where
  abbrev pos : zero < p
  pos = p-pos prime

  abbrev K : CommRing (Fin p)
  K = Fp p pos

  abbrev q : ℕ → Fin p
  q = rem p pos

  -- the product of the powers, over F_p
  pub split-rem : (r : ℕ) (root power : ℕ → ℕ) → ((i : ℕ) → i < r → root i < p) → (λ (j : ℕ). q (split p r root power j)) ≡ at_zero K r (roots_of prime root) power
  split-rem r root power h =
      ap (λ x. x zero) (product-rem p pos r (λ i. flat (root_power p (root i) (power i)))) ∙ prod-at-zero (Series K) r (λ i. col p pos (flat (root_power p (root i) (power i))))
      ∙ prod-ext (Series K) r (λ i l. root-power p pos (root i) (h i l) (power i))

  -- so roots and powers that split f give its column 0
  module _ (D r : ℕ) (f : ℕ → ℕ → ℕ) (root power : ℕ → ℕ) (h : Splits p D r f root power) where
    splits-column : (j : ℕ) → j ≤ D → at_zero K r (roots_of prime root) power j ≡ q (f j zero)
    splits-column j l = sym (ap (λ x. x j) (split-rem r root power h.reduced)) ∙ ap q (h.splits j l)

    splits-above : (j : ℕ) → D < j → at_zero K r (roots_of prime root) power j ≡ K.𝟘
    splits-above j l = at-zero-below K r (roots_of prime root) power j (let d = h.degree in omega arith)

  -- and f's column 0 determines them
  pub splits-unique : (D r r' : ℕ) (f : ℕ → ℕ → ℕ) (root root' power power' : ℕ → ℕ) → Splits p D r f root power → Splits p D r' f root' power'
      → (r ≡ r') × ((i : ℕ) → i < r → (root i ≡ root' i) × (power i ≡ power' i))
  splits-unique D r r' f root root' power power' h h' =
      let u = roots-unique K (Fp-field prime) (key prime) val-unique r r' (roots_of prime root) (roots_of prime root') power power' h.powers h'.powers
      (roots-rising prime r root h.rising h.reduced) (roots-rising prime r' root' h'.rising h'.reduced) (fun_ext (λ j. go j (dec_le j D))) in
      let e = u.0 in
      (e, λ i l. (same-rem p pos (h.reduced i l) (h'.reduced i (omega arith)) (u.1 i l).0, (u.1 i l).1))
    where
      go : (j : ℕ) → Dec (j ≤ D) → at_zero K r (roots_of prime root) power j ≡ at_zero K r' (roots_of prime root') power' j
      go j (yes l) = splits-column D r f root power h j l ∙ sym (splits-column D r' f root' power' h' j l)
      go j (no l) = splits-above D r f root power h j (lt_of_not-le l) ∙ sym (splits-above D r' f root' power' h' j (lt_of_not-le l))

  module _ (D N r : ℕ) (f : ℕ → ℕ → ℕ) (root power : ℕ → ℕ) (h : Splits p D r f root power) (width : zero < N)
      (low : (j : ℕ) → j ≤ D → (t : ℕ) → t < N → f j t < p) (top : (t : ℕ) → t < N → f D t ≡ unit t) where
    -- f over F_p, made monic in every column
    abbrev F : ℕ → ℕ → Fin p
    F = col p pos (monic D f)

    F-monic : Monic K (sum_to r power) F
    F-monic = rw h.degree (monic-rem p pos D f)

    F-row : (j t : ℕ) → j ≤ D → t < N → monic D f j t ≡ f j t
    F-row j t l g = ⊎_elim (λ (e : j ≡ D). subst (λ x. monic D f x t ≡ f x t) (sym e) (monic-top D f t ∙ sym (top t g))) (monic-low D f j t) (eq-or-lt_of_le l)

    F-first : F zero ≡ at_zero K r (roots_of prime root) power
    F-first = fun_ext (λ j. go j (dec_le j D))
      where
        go : (j : ℕ) → Dec (j ≤ D) → F zero j ≡ at_zero K r (roots_of prime root) power j
        go j (yes l) = ap q (F-row j zero l width) ∙ sym (splits-column D r f root power h j l)
        go j (no l) = ap q (monic-above D f j zero (lt_of_not-le l)) ∙ rem-zero p pos ∙ sym (splits-above D r f root power h j (lt_of_not-le l))

    lifted : Lifted K r (roots_of prime root) power F
    lifted =
        chain-exists K (Fp-field prime) r (roots_of prime root) power F h.powers
        (rising-distinct (key prime) r (roots_of prime root) (roots-rising prime r root h.rising h.reduced)) F-monic F-first

    pub solution : ℕ → ℕ → ℕ → ℕ
    solution i j t = (lifted.factors i t j).0

    pub solution-lt : (i j t : ℕ) → solution i j t < p
    unfolding solution
    solution-lt i j t = (lifted.factors i t j).1

    solution-rows : (i : ℕ) → i < r → col p pos (monic (power i) (solution i)) ≡ lifted.factors i
    unfolding solution
    solution-rows i l = fun_ext (λ t. fun_ext (by_place (λ j. q (monic (power i) (solution i) j t) ≡ lifted.factors i t j) (power i)
        (λ j g. ap q (monic-low (power i) (solution i) j t g) ∙ rem-val p pos (lifted.factors i t j))
        (ap q (monic-top (power i) (solution i) t) ∙ lead t)
        (λ j g. ap q (monic-above (power i) (solution i) j t g) ∙ rem-zero p pos ∙ sym (m.bound t j g))))
      where
        m : Monic K (power i) (lifted.factors i)
        m = factor-monic K (q (root i)) (power i) (lifted.factors i) (lifted.chain.first i l) (lifted.chain.low i l)

        lead : (t : ℕ) → q (unit t) ≡ lifted.factors i t (power i)
        lead zero = rem-one p pos ∙ sym m.top
        lead (suc t) = rem-zero p pos ∙ sym (m.rest t)

    pub solution-is : (k : ℕ) → k ≤ N → IsFactors p D k r f root power solution
    unfolding solution
    solution-is k kN = record {
      rising = h.rising;
      reduced = h.reduced;
      powers = h.powers;
      degree = h.degree;
      splits = h.splits;
      first = λ i l j g.
          ap (λ x. (x j).0) (lifted.chain.first i l ∙ sym (root-power p pos (root i) (h.reduced i l) (power i))) ∙ mod-eq_of_lt (line-lt p (p - root i) (power i) j prime.two-le);
      same = λ j l t g.
          same-rem p pos (product_lt p r _ prime.two-le j t) (low j l t (omega arith))
          (ap (λ x. x t j) (product-rem p pos r (λ i. monic (power i) (solution i)) ∙ prod-ext (Columns K) r solution-rows ∙ lifted.product) ∙ ap q (F-row j t l (omega arith)));
    }

    -- and there are no others
    pub solution-only : (k : ℕ) → k ≤ N → (a : ℕ → ℕ → ℕ → ℕ) → IsFactors p D k r f root power a → ((i : ℕ) → i < r → (j : ℕ) → j < power i → (t : ℕ) → t < k → a i j t < p)
        → (i : ℕ) → i < r → (j : ℕ) → j < power i → (t : ℕ) → t < k → a i j t ≡ solution i j t
    solution-only k kN a is lt i l j g t v =
        (factors-unique prime t k k D D r r f f root root power power a solution is (solution-is k kN) v v (λ i l j g t u. lt i l j g t (omega arith)) (λ i l j g t u. solution-lt i j t)
        (record { degrees = refl; columns = λ j u t w. refl })).columns i l j g t (omega arith)
