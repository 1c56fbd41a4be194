-- Series in X of series in Y, by columns: laws of their ring.
-- Assumes nothing.
use Prim.Native.Nat.{ℕ, zero, suc, ◌+◌ as ◌+ₙ◌, ◌-◌, ◌≤◌}
use native.Mathlib.Omega.{arith}
use mathlib.Core.Path.{◌≡◌, refl, sym, ◌∙◌, ap, ap₂}
use Rattle.algebra.specs.internal.Ring.{CommRing}
use Rattle.algebra.specs.internal.Series.{Series, tail, conv, conv-zero, conv-suc}
use Rattle.algebra.proofs.SeriesLaws.{sum, sum-ext, sum-swap, add_at, sum-at, mul_at, mul-at-sum}
use Rattle.algebra.proofs.PolyLaws.{Below, below-add, below-low, top-mul}
use Rattle.algebra.specs.internal.Poly.{Columns}

module _ {R : Type 0} (𝓡 : CommRing R) where
  open 𝓡 use {add as ◌+◌, mul as ◌*◌}

  infixl 65 ◌+◌
  infixl 70 ◌*◌
  pub mul-columns : (f g : ℕ → ℕ → R) (t : ℕ) → (Columns 𝓡).mul f g t ≡ conv (Series 𝓡) f g t
  mul-columns = mul_at (Series 𝓡)

  -- a coefficient of a product, as a sum over the columns of sums over the rows
  pub mul-columns-sum : (f g : ℕ → ℕ → R) (t j : ℕ) → (Columns 𝓡).mul f g t j ≡ sum 𝓡 (λ s. sum 𝓡 (λ i. f s i * g (t - s) (j - i)) j) t
  mul-columns-sum f g t j =
      ap (λ x. x j) (mul-at-sum (Series 𝓡) f g t)
      ∙ sum-at 𝓡 (λ s. (Series 𝓡).mul (f s) (g (t - s))) t j
      ∙ sum-ext 𝓡 t (λ s l. mul-at-sum 𝓡 (f s) (g (t - s)) j)

  -- and transposed: as a sum over the rows of sums over the columns
  pub mul-rows-sum : (f g : ℕ → ℕ → R) (t j : ℕ) → (Columns 𝓡).mul f g t j ≡ sum 𝓡 (λ i. sum 𝓡 (λ s. f s i * g (t - s) (j - i)) t) j
  mul-rows-sum f g t j = mul-columns-sum f g t j ∙ sum-swap 𝓡 (λ s i. f s i * g (t - s) (j - i)) t j

  -- the degree in Y of a column of a product
  pub conv-below : (n k t : ℕ) (a b : ℕ → ℕ → R) → ((i : ℕ) → i ≤ t → Below 𝓡 n (a i)) → ((i : ℕ) → i ≤ t → Below 𝓡 (suc k) (b i)) → Below 𝓡 (n +ₙ k) (conv (Series 𝓡) a b t)
  conv-below n k zero a b h g = rw conv-zero (below-low 𝓡 n k (a zero) (b zero) (h zero (omega arith)) (g zero (omega arith)))
  conv-below n k (suc t) a b h g =
      rw conv-suc (below-add 𝓡 (below-low 𝓡 n k (a zero) (b (suc t)) (h zero (omega arith)) (g (suc t) (omega arith)))
      (conv-below n k t (tail a) b (λ i l. h (suc i) (omega arith)) (λ i l. g i (omega arith))))

  -- the leading coefficients, as a series in X: those of a product are the product of those of the factors
  pub conv-top : (m k t : ℕ) (a b : ℕ → ℕ → R) → ((i : ℕ) → Below 𝓡 (suc m) (a i)) → ((i : ℕ) → Below 𝓡 (suc k) (b i))
      → conv (Series 𝓡) a b t (m +ₙ k) ≡ conv 𝓡 (λ s. a s m) (λ s. b s k) t
  conv-top m k zero a b h g =
      ap (λ x. x (m +ₙ k)) (conv-zero (Series 𝓡) a b) ∙ top-mul 𝓡 m k (m +ₙ k) _ _ refl (h zero) (g zero) ∙ sym (conv-zero 𝓡 (λ s. a s m) (λ s. b s k))
  conv-top m k (suc t) a b h g =
      ap (λ x. x (m +ₙ k)) (conv-suc (Series 𝓡) a b t) ∙ add_at 𝓡 _ _ (m +ₙ k)
      ∙ ap₂ ◌+◌ (top-mul 𝓡 m k (m +ₙ k) _ _ refl (h zero) (g (suc t))) (conv-top m k t (tail a) b (λ i. h (suc i)) g) ∙ sym (conv-suc 𝓡 (λ s. a s m) (λ s. b s k) t)
