-- From plain sums modulo p to the ring of the numbers below p: what is computed on words is this sum, product or difference in F_p.
-- Assumes nothing.
use Prim.Native.Nat.{ℕ, zero, suc, ◌+◌, ◌-◌, ◌*◌, ◌%◌, ◌<◌, Fin}
use native.Mathlib.Nat.{mod-eq_of_lt, mod-lt, zero-add}
use mathlib.Core.Path.{◌≡◌, refl, sym, ◌∙◌, ap}
use mathlib.Core.Logic.{◌↔◌}
use Rattle.algebra.specs.Sums.{sum_to}
use Rattle.algebra.proofs.SumsLaws.{sum_to-zero, sum_to-suc}
use Rattle.algebra.specs.internal.Ring.{CommRing}
use Rattle.algebra.specs.internal.Series.{conv}
use Rattle.algebra.proofs.SeriesLaws.{conv-sum, sum, sum-zero, sum-last, sum-ext}
use Rattle.algebra.specs.internal.Poly.{Columns}
use Rattle.algebra.proofs.ColumnsLaws.{mul-rows-sum}
use Rattle.algebra.specs.internal.Fp.{Fp, rem, col}
use Rattle.algebra.proofs.FpLaws.{rem-add, rem-mul, rem-mod}

module _ (p : ℕ) (pos : zero < p) where
  abbrev K : CommRing (Fin p)
  K = Fp p pos

  abbrev q : ℕ → Fin p
  q = rem p pos

  -- two numbers have one remainder exactly when they are equal modulo p
  pub rem-eq : (a b : ℕ) → (q a ≡ q b) ↔ (a % p ≡ b % p)
  rem-eq a b = (λ e. ap (λ x. x.0) e, λ e. native.Mathlib.Fin.val_path e)

  pub same-rem : {a b : ℕ} → a < p → b < p → q a ≡ q b → a ≡ b
  same-rem ha hb e = sym (mod-eq_of_lt ha) ∙ ap (λ x. x.0) e ∙ mod-eq_of_lt hb

  pub rem-zero : q 0 ≡ K.𝟘
  unfolding Fp
  rem-zero = native.Mathlib.Fin.val_path (mod-eq_of_lt pos)

  pub rem-one : q 1 ≡ K.𝟙
  unfolding Fp
  rem-one = refl

  pub neg-rem : (c : ℕ) → c < p → K.neg (q c) ≡ q (p - c)
  unfolding Fp
  neg-rem c l = ap (λ x. q (p - x)) (mod-eq_of_lt l)

  -- a difference without negative numbers
  pub sub-rem : (a b : ℕ) → q (a + (p - b % p)) ≡ K.add (q a) (K.neg (q b))
  sub-rem a b =
      sym (rem-add p pos a (p - b % p)) ∙ ap (K.add (q a)) (sym (neg-rem (b % p) (mod-lt b pos)) ∙ ap K.neg (rem-mod p pos b))

  pub sum-rem : (f : ℕ → ℕ) (t : ℕ) → q (sum_to (suc t) f) ≡ sum K (λ i. q (f i)) t
  sum-rem f zero = ap q (rw (sum_to-suc zero f, sum_to-zero f) (zero-add (f zero))) ∙ sym (sum-zero K (λ i. q (f i)))
  sum-rem f (suc t) =
      ap q (sum_to-suc (suc t) f) ∙ sym (rem-add p pos (sum_to (suc t) f) (f (suc t)))
      ∙ ap (λ x. K.add x (q (f (suc t)))) (sum-rem f t) ∙ sym (sum-last K (λ i. q (f i)) t)

  -- a coefficient of a product of series
  pub conv-rem : (a b : ℕ → ℕ) (t : ℕ) → q (sum_to (suc t) (λ i. a i * b (t - i))) ≡ conv K (λ i. q (a i)) (λ i. q (b i)) t
  conv-rem a b t =
      sum-rem (λ i. a i * b (t - i)) t ∙ sum-ext K t (λ i l. sym (rem-mul p pos (a i) (b (t - i)))) ∙ sym (conv-sum K (λ i. q (a i)) (λ i. q (b i)) t)

  -- a coefficient of a product of row polynomials: rows outside, columns inside
  pub columns-rem : (a b : ℕ → ℕ → ℕ) (t j : ℕ) → q (sum_to (suc j) (λ i. sum_to (suc t) (λ s. a i s * b (j - i) (t - s)))) ≡ (Columns K).mul (col p pos a) (col p pos b) t j
  columns-rem a b t j =
      sum-rem (λ i. sum_to (suc t) (λ s. a i s * b (j - i) (t - s))) j
      ∙ sum-ext K j (λ i l. sum-rem (λ s. a i s * b (j - i) (t - s)) t ∙ sum-ext K t (λ s g. sym (rem-mul p pos (a i s) (b (j - i) (t - s)))))
      ∙ sym (mul-rows-sum K (col p pos a) (col p pos b) t j)
