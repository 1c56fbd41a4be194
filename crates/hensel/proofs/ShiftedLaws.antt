-- Factors shifted: Y + c for Y, in each of them with its leading 1.
--   shifted_product   the shift of a product of monic polynomials is the product of their shifts
--   shifted-line      (Y − x)^m becomes (Y − (x − c))^m
-- Assumes nothing.
use Prim.Native.Nat.{ℕ, zero, suc, ◌+◌, ◌-◌, ◌<◌, ◌%◌, Fin}
use native.Mathlib.Nat.{mod-lt}
use native.Mathlib.Numerals.{add-one}
use mathlib.Core.Path.{◌≡◌, sym, ◌∙◌, ap, fun_ext}
use Rattle.algebra.specs.Sums.{sum_to}
use Rattle.algebra.specs.Prime.{Prime}
use Rattle.algebra.specs.internal.Ring.{CommRing, prod}
use Rattle.algebra.specs.internal.Poly.{lin_pow, Columns}
use Rattle.algebra.specs.internal.Fp.{Fp, rem, col}
use Rattle.algebra.proofs.PolyLaws.{below-lin_pow}
use Rattle.algebra.proofs.Shift.{shift, shift-lin_pow, shift_columns, shift-prod}
use Rattle.algebra.proofs.FpLaws.{p-pos, rem-add, rem-mod}
use Rattle.algebra.proofs.BridgeLaws.{same-rem, neg-rem}
use Rattle.rows.specs.Rows.{shifted, monic}
use Rattle.rows.proofs.RowsLaws.{line-lt}
use Rattle.rows.proofs.ShiftLaws.{shifted-lt, shift_rem, root-power}
use Rattle.hensel.specs.Factors.{root_power, product}
use Rattle.hensel.proofs.FactorsLaws.{product-rem, product_lt, monic-rem, first-column}

module _ {p : ℕ} (prime : Prime p) (c : ℕ) (cp : c < p) where
  abbrev pos : zero < p
  pos = p-pos prime

  abbrev K : CommRing (Fin p)
  K = Fp p pos

  abbrev q : ℕ → Fin p
  q = rem p pos

  shift-col : (n : ℕ) (f : ℕ → ℕ → ℕ) → col p pos (shifted p (n + 1) c f) ≡ shift_columns K (q c) (suc n) (col p pos f)
  shift-col n f = ap (λ (k : ℕ). col p pos (shifted p k c f)) (add-one n) ∙ shift_rem p pos (suc n) c f

  pub shifted_product : (r : ℕ) (power : ℕ → ℕ) (a : ℕ → ℕ → ℕ → ℕ) (j t : ℕ)
      → shifted p (sum_to r power + 1) c (product p r (λ i. monic (power i) (a i))) j t ≡ product p r (λ i. shifted p (power i + 1) c (monic (power i) (a i))) j t
  shifted_product r power a j t =
      let A : ℕ → ℕ → ℕ → ℕ = λ i. monic (power i) (a i) in
      same-rem p pos (shifted-lt p (sum_to r power + 1) c (product p r A) j t pos) (product_lt p r _ prime.two-le j t)
      (ap (λ x. x t j)
      (shift-col (sum_to r power) (product p r A) ∙ ap (shift_columns K (q c) (suc (sum_to r power))) (product-rem p pos r A)
      ∙ shift-prod K (q c) r power (λ i. col p pos (A i)) (λ i l. monic-rem p pos (power i) (a i))
      ∙ ap (prod (Columns K) r) (fun_ext (λ i. sym (shift-col (power i) (A i))))
      ∙ sym (product-rem p pos r (λ i. shifted p (power i + 1) c (A i)))))

  -- x − c
  root-less : (x : ℕ) → q ((x + (p - c)) % p) ≡ K.add (q x) (K.neg (q c))
  root-less x = rem-mod p pos (x + (p - c)) ∙ sym (rem-add p pos x (p - c)) ∙ ap (K.add (q x)) (sym (neg-rem p pos c cp))

  pub shifted-line : (x m : ℕ) (a : ℕ → ℕ → ℕ) → x < p → ((j : ℕ) → j < m → a j zero ≡ root_power p x m j) → (j : ℕ)
      → shifted p (m + 1) c (monic m a) j zero ≡ root_power p ((x + (p - c)) % p) m j
  shifted-line x m a xp h j =
      let y = (x + (p - c)) % p in
      same-rem p pos (shifted-lt p (m + 1) c (monic m a) j zero pos) (line-lt p (p - y) m j prime.two-le)
      (ap (λ z. z zero j) (shift-col m (monic m a)) ∙ ap (λ z. shift K (q c) (suc m) z j) (first-column prime x m a xp h)
      ∙ ap (λ z. z j) (shift-lin_pow K (q c) (suc m) m (q x) (below-lin_pow K (q x) m) ∙ ap (λ d. lin_pow K d m) (sym (root-less x)) ∙ sym (root-power p pos y (mod-lt _ pos) m)))
