-- The product of row polynomials is that of polynomials over the numbers below p, and so it commutes and associates. What a slice holds after
-- `rows::product`, read as rows, is the product of what the two slices held.
-- Assumes nothing.
use mathlib.Core.Path.{◌≡◌, sym, ap, ap₂, ◌∙◌, fun_ext}
use mathlib.Core.Logic.{⊎_elim}
use mathlib.Core.List.{List}
use Prim.Native.Nat.{ℕ, suc, ◌+◌, ◌-◌, ◌*◌, ◌%◌, ◌≤◌, ◌<◌, Fin}
use native.Mathlib.Nat.{mod-lt, mul-zero, zero-mul, zero-mod}
use native.Mathlib.Omega.{arith}
use Rattle.algebra.proofs.SumsLaws.{sum_to-ext, sum_to-zeros}
use Rattle.algebra.specs.internal.Ring.{CommRing, mul_comm, mul_assoc}
use Rattle.algebra.specs.internal.Fp.{Fp, col}
use Rattle.algebra.proofs.FpLaws.{rem-mod}
use Rattle.algebra.specs.internal.Poly.{Columns}
use Rattle.algebra.proofs.BridgeLaws.{same-rem, columns-rem}
use Rattle.numbers.proofs.WordsLaws.{lt-or-ge}
use Rattle.rows.specs.Rows.{rows_of, mul, row_product}
use Rattle.rows.proofs.RowsLaws.{rows-below, rows-past, word-table}

-- a coefficient of a product is reduced
pub mul-lt : (p : ℕ) (a b : ℕ → ℕ → ℕ) (j t : ℕ) → 1 ≤ p → mul p a b j t < p
unfolding mul
mul-lt p a b j t pos = mod-lt _ pos

-- the coefficient of Y^j X^t looks at no row past j and no column past t
pub mul-ext : (p : ℕ) (a a' b b' : ℕ → ℕ → ℕ) (j t : ℕ) → ((i s : ℕ) → i ≤ j → s ≤ t → a i s ≡ a' i s) → ((i s : ℕ) → i ≤ j → s ≤ t → b i s ≡ b' i s)
    → mul p a b j t ≡ mul p a' b' j t
unfolding mul
mul-ext p a a' b b' j t h g =
    ap (λ (x : ℕ). x % p) (sum_to-ext (suc j) (λ i l. sum_to-ext (suc t) (λ s u. ap₂ ◌*◌ (h i s (omega arith) (omega arith)) (g (j - i) (t - s) (omega arith) (omega arith)))))

-- its rows end where they must: a product of n rows and k rows has n + k − 1
pub mul-past : (p : ℕ) (a b : ℕ → ℕ → ℕ) (n k : ℕ) → ((i s : ℕ) → n ≤ i → a i s ≡ 0) → ((i s : ℕ) → k ≤ i → b i s ≡ 0)
    → (j t : ℕ) → n + k ≤ j + 1 → mul p a b j t ≡ 0
unfolding mul
mul-past p a b n k h g j t l =
    ap (λ (x : ℕ). x % p)
    (sum_to-zeros (suc j) _ (λ i u. sum_to-zeros (suc t) _ (λ s _.
    ⊎_elim
    (λ (v : i < n). ap (λ (x : ℕ). a i s * x) (g (j - i) (t - s) (omega arith)) ∙ mul-zero (a i s))
    (λ (v : n ≤ i). ap (λ (x : ℕ). x * b (j - i) (t - s)) (h i s v) ∙ zero-mul (b (j - i) (t - s)))
    (lt-or-ge i n))))
    ∙ zero-mod p

-- over the numbers below p it is the product
pub mul-rem : (p : ℕ) (pos : 1 ≤ p) (a b : ℕ → ℕ → ℕ) → col p pos (mul p a b) ≡ (Columns (Fp p pos)).mul (col p pos a) (col p pos b)
unfolding mul
mul-rem p pos a b = fun_ext (λ t. fun_ext (λ j. rem-mod p pos _ ∙ columns-rem p pos a b t j))

-- and has its laws
module _ (p : ℕ) (pos : 1 ≤ p) where
  abbrev C : CommRing (ℕ → ℕ → Fin p)
  C = Columns (Fp p pos)

  abbrev q : (ℕ → ℕ → ℕ) → ℕ → ℕ → Fin p
  q = col p pos

  pub mul_commutes : (a b : ℕ → ℕ → ℕ) (j t : ℕ) → mul p a b j t ≡ mul p b a j t
  mul_commutes a b j t =
      same-rem p pos (mul-lt p a b j t pos) (mul-lt p b a j t pos) (ap (λ x. x t j) (mul-rem p pos a b ∙ mul_comm C (q a) (q b) ∙ sym (mul-rem p pos b a)))

  pub mul-associates : (a b c : ℕ → ℕ → ℕ) (j t : ℕ) → mul p (mul p a b) c j t ≡ mul p a (mul p b c) j t
  mul-associates a b c j t =
      same-rem p pos (mul-lt p (mul p a b) c j t pos) (mul-lt p a (mul p b c) j t pos)
      (ap (λ x. x t j)
      (mul-rem p pos (mul p a b) c ∙ ap (λ x. C.mul x (q c)) (mul-rem p pos a b) ∙ mul_assoc C (q a) (q b) (q c)
      ∙ ap (C.mul (q a)) (sym (mul-rem p pos b c)) ∙ sym (mul-rem p pos a (mul p b c))))

-- the words of the product, read as rows
pub product-rows : (p D₁ D₂ N : ℕ) (f g : List ℕ) (j t : ℕ) → t < N
    → rows_of (row_product p D₁ D₂ N f g) N (D₁ + D₂ + 1) j t ≡ mul p (rows_of f N (D₁ + 1)) (rows_of g N (D₂ + 1)) j t
unfolding row_product
product-rows p D₁ D₂ N f g j t h =
    ⊎_elim
    (λ (l : j < D₁ + D₂ + 1). rows-below _ N (D₁ + D₂ + 1) j t l ∙ word-table (D₁ + D₂ + 1) N _ j t l h)
    (λ (l : D₁ + D₂ + 1 ≤ j).
    rows-past _ N (D₁ + D₂ + 1) j t l
    ∙ sym (mul-past p _ _ (D₁ + 1) (D₂ + 1) (λ i s. rows-past f N (D₁ + 1) i s) (λ i s. rows-past g N (D₂ + 1) i s) j t (omega arith)))
    (lt-or-ge j (D₁ + D₂ + 1))
