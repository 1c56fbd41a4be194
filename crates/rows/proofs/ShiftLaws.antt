-- The shift of row polynomials is the substitution of Y + c over the numbers below p, and so, in plain arithmetic: it keeps sums and products,
-- and the shift by p − c undoes it, word by word of the slices. A column of zeros stays one, and a monic polynomial monic.
-- Assumes nothing.
use mathlib.Core.Path.{◌≡◌, sym, ap, ap₂, ◌∙◌, fun_ext}
use mathlib.Core.Logic.{⊎_elim}
use mathlib.Core.List.{List}
use Prim.Native.Nat.{ℕ, zero, suc, ◌+◌, ◌-◌, ◌*◌, ◌%◌, ◌≤◌, ◌<◌, Fin}
use native.Mathlib.Nat.{mod-lt, mod-eq_of_lt, mul-zero, mul-one, zero-mul, zero-mod, zero-add}
use native.Mathlib.Numerals.{add-one}
use native.Mathlib.Omega.{arith}
use lib.ListN.{length}
use Rattle.algebra.specs.Sums.{sum_to}
use Rattle.algebra.proofs.SumsLaws.{sum_to-zero, sum_to-suc, sum_to-ext, sum_to-zeros}
use Rattle.algebra.specs.internal.Ring.{CommRing}
use Rattle.algebra.proofs.RingLaws.{neg-neg, pow-zero, pow-suc}
use Rattle.algebra.specs.internal.Series.{Series}
use Rattle.algebra.proofs.SeriesLaws.{sum-ext, add_at, zero-at, one_at}
use Rattle.algebra.specs.internal.Poly.{lin, lin_pow, Columns}
use Rattle.algebra.proofs.PolyLaws.{lin-mul-zero, lin-mul-suc, Below}
use Rattle.algebra.proofs.Shift.{shift, shift_zero, shift-sum, shift-add, shift-inverse, shift_columns, shift-columns-mul-at}
use Rattle.algebra.specs.internal.Fp.{Fp, rem, col}
use Rattle.algebra.proofs.FpLaws.{rem-add, rem-mul, rem-mod}
use Rattle.algebra.proofs.BridgeLaws.{same-rem, rem-zero, rem-one, neg-rem, sum-rem}
use Rattle.numbers.specs.internal.Facts.{AllBelow}
use Rattle.numbers.proofs.WordsLaws.{lt-or-ge}
use Rattle.rows.specs.Rows.{rows_of, mul, row_product, line_power, shifted, row_shift, unit, monic}
use Rattle.rows.proofs.RowsLaws.{rows-below, rows-past, rows_bound, word-table, table-ext, table-rows, line-zero, line-top}
use Rattle.rows.proofs.MonicLaws.{unit-lt, monic-low, monic-top, monic-above, by_place}
use Rattle.rows.proofs.MulLaws.{mul-lt, mul-ext, mul-past, mul-rem, product-rows}

-- a coefficient of a shift is reduced
pub shifted-lt : (p rows c : ℕ) (f : ℕ → ℕ → ℕ) (j t : ℕ) → 1 ≤ p → shifted p rows c f j t < p
unfolding shifted
shifted-lt p rows c f j t pos = mod-lt _ pos

-- the coefficient of X^t looks at column t of the first rows
pub shifted-ext : (p rows c : ℕ) (f g : ℕ → ℕ → ℕ) (j t : ℕ) → ((i : ℕ) → i < rows → f i t ≡ g i t) → shifted p rows c f j t ≡ shifted p rows c g j t
unfolding shifted
shifted-ext p rows c f g j t h = ap (λ (x : ℕ). x % p) (sum_to-ext rows (λ i l. ap (λ (x : ℕ). x * line_power p c i j) (h i l)))

-- the shift has no more rows
pub shifted_past : (p rows c : ℕ) (f : ℕ → ℕ → ℕ) (j t : ℕ) → rows ≤ j → shifted p rows c f j t ≡ 0
unfolding shifted
shifted_past p rows c f j t h =
    ap (λ (x : ℕ). x % p) (sum_to-zeros rows _ (λ i l. ap (λ (x : ℕ). f i t * x) (line-zero p c i j (omega arith)) ∙ mul-zero (f i t))) ∙ zero-mod p

-- a column of zeros stays one
pub shifted_none : (p rows c : ℕ) (f : ℕ → ℕ → ℕ) (j t : ℕ) → ((i : ℕ) → i < rows → f i t ≡ 0) → shifted p rows c f j t ≡ 0
unfolding shifted
shifted_none p rows c f j t h = ap (λ (x : ℕ). x % p) (sum_to-zeros rows _ (λ i l. ap (λ (x : ℕ). x * line_power p c i j) (h i l) ∙ zero-mul _)) ∙ zero-mod p

-- a monic polynomial stays monic
pub shifted-top : (p c m : ℕ) (a : ℕ → ℕ → ℕ) (t : ℕ) → 2 ≤ p → shifted p (m + 1) c (monic m a) m t ≡ unit t
unfolding shifted
shifted-top p c m a t two =
    let F : ℕ → ℕ = λ i. monic m a i t * line_power p c i m in
    let low : sum_to m F ≡ 0 = sum_to-zeros m F (λ i l. ap (λ (x : ℕ). monic m a i t * x) (line-zero p c i m l) ∙ mul-zero _) in
    let top : F m ≡ unit t = ap₂ ◌*◌ (monic-top m a t) (line-top p c m two) ∙ mul-one (unit t) in
    ap (λ (x : ℕ). x % p) (ap (λ (k : ℕ). sum_to k F) (add-one m) ∙ sum_to-suc m F ∙ ap₂ ◌+◌ low top ∙ zero-add (unit t)) ∙ mod-eq_of_lt (unit-lt p t two)

pub shifted-monic : (p c m : ℕ) (a : ℕ → ℕ → ℕ) → 2 ≤ p → (j t : ℕ) → monic m (shifted p (m + 1) c (monic m a)) j t ≡ shifted p (m + 1) c (monic m a) j t
shifted-monic p c m a two j t =
    let b = shifted p (m + 1) c (monic m a) in
    by_place (λ j. monic m b j t ≡ b j t) m (λ j l. monic-low m b j t l) (monic-top m b t ∙ sym (shifted-top p c m a t two))
    (λ j l. monic-above m b j t l ∙ sym (shifted_past p (m + 1) c (monic m a) j t (omega arith))) j

module _ (p : ℕ) (pos : 1 ≤ p) where
  abbrev K : CommRing (Fin p)
  K = Fp p pos

  line_at : (c m j : ℕ) → rem p pos (line_power p c m j) ≡ lin_pow K (K.neg (rem p pos c)) m j
  unfolding line_power
  line_at c zero zero = rem-one p pos ∙ sym (ap (λ x. x zero) (pow-zero (Series K) (lin K (K.neg (rem p pos c))) ∙ one_at K))
  line_at c zero (suc j) = rem-zero p pos ∙ sym (ap (λ x. x (suc j)) (pow-zero (Series K) (lin K (K.neg (rem p pos c))) ∙ one_at K))
  line_at c (suc m) zero =
      let d = K.neg (rem p pos c) in
      rem-mod p pos (c * line_power p c m zero) ∙ sym (rem-mul p pos c (line_power p c m zero)) ∙ ap₂ K.mul (sym (neg-neg K (rem p pos c))) (line_at c m zero)
      ∙ sym (ap (λ x. x zero) (pow-suc (Series K) (lin K d) m) ∙ lin-mul-zero K d (lin_pow K d m))
  line_at c (suc m) (suc j) =
      let d = K.neg (rem p pos c) in
      rem-mod p pos (c * line_power p c m (suc j) + line_power p c m j) ∙ sym (rem-add p pos (c * line_power p c m (suc j)) (line_power p c m j))
      ∙ ap₂ K.add (sym (rem-mul p pos c (line_power p c m (suc j))) ∙ ap₂ K.mul (sym (neg-neg K (rem p pos c))) (line_at c m (suc j))) (line_at c m j)
      ∙ sym (ap (λ x. x (suc j)) (pow-suc (Series K) (lin K d) m) ∙ lin-mul-suc K d (lin_pow K d m) j)

  -- line_power gives the powers of Y + c
  pub line-power : (c m : ℕ) → (λ j. rem p pos (line_power p c m j)) ≡ lin_pow (Fp p pos) ((Fp p pos).neg (rem p pos c)) m
  line-power c m = fun_ext (line_at c m)

  -- and so the powers of Y − c
  pub root-power : (c : ℕ) → c < p → (m : ℕ) → (λ j. rem p pos (line_power p (p - c) m j)) ≡ lin_pow (Fp p pos) (rem p pos c) m
  root-power c h m = line-power (p - c) m ∙ ap (λ x. lin_pow (Fp p pos) x m) (ap (Fp p pos).neg (sym (neg-rem p pos c h)) ∙ neg-neg (Fp p pos) (rem p pos c))

  -- over the numbers below p each column is shifted by c
  pub shift_rem : (rows c : ℕ) (f : ℕ → ℕ → ℕ) → col p pos (shifted p rows c f) ≡ shift_columns (Fp p pos) (rem p pos c) rows (col p pos f)
  unfolding shifted
  shift_rem zero c f =
      fun_ext (λ t. fun_ext (λ j.
      rem-mod p pos _ ∙ ap (rem p pos) (sum_to-zero (λ i. f i t * line_power p c i j)) ∙ rem-zero p pos
      ∙ sym (ap (λ x. x j) (shift_zero K (rem p pos c) (col p pos f t)) ∙ zero-at K j)))
  shift_rem (suc n) c f =
      fun_ext (λ t. fun_ext (λ j.
      rem-mod p pos _ ∙ sum-rem p pos (λ i. f i t * line_power p c i j) n
      ∙ sum-ext K n (λ i l. sym (rem-mul p pos (f i t) (line_power p c i j)) ∙ ap (K.mul (rem p pos (f i t))) (line_at c i j))
      ∙ sym (shift-sum K (rem p pos c) n (col p pos f t) j)))

  shift-at : (rows c : ℕ) (f : ℕ → ℕ → ℕ) (j t : ℕ) → rem p pos (shifted p rows c f j t) ≡ shift K (rem p pos c) rows (col p pos f t) j
  shift-at rows c f j t = ap (λ x. x t j) (shift_rem rows c f)

  -- the shift of a sum is the sum of the shifts
  pub shift-sums : (rows c : ℕ) (f g : ℕ → ℕ → ℕ) (j t : ℕ)
      → shifted p rows c (λ j t. (f j t + g j t) % p) j t ≡ (shifted p rows c f j t + shifted p rows c g j t) % p
  shift-sums rows c f g j t =
      let added : col p pos (λ j t. (f j t + g j t) % p) t ≡ (Series K).add (col p pos f t) (col p pos g t) = fun_ext (λ i.
      rem-mod p pos (f i t + g i t) ∙ sym (rem-add p pos (f i t) (g i t)) ∙ sym (add_at K (col p pos f t) (col p pos g t) i)) in
      same-rem p pos (shifted-lt p rows c _ j t pos) (mod-lt _ pos)
      (shift-at rows c (λ j t. (f j t + g j t) % p) j t ∙ ap (λ x. shift K (rem p pos c) rows x j) added
      ∙ ap (λ x. x j) (shift-add K (rem p pos c) rows (col p pos f t) (col p pos g t))
      ∙ add_at K (shift K (rem p pos c) rows (col p pos f t)) (shift K (rem p pos c) rows (col p pos g t)) j
      ∙ ap₂ K.add (sym (shift-at rows c f j t)) (sym (shift-at rows c g j t))
      ∙ rem-add p pos (shifted p rows c f j t) (shifted p rows c g j t) ∙ sym (rem-mod p pos (shifted p rows c f j t + shifted p rows c g j t)))

  -- the shift of a product of n rows and k rows is the product of the shifts
  pub shift-product : (n k c : ℕ) (a b : ℕ → ℕ → ℕ) → ((i s : ℕ) → n ≤ i → a i s ≡ 0) → ((i s : ℕ) → k ≤ i → b i s ≡ 0) → (j t : ℕ)
      → shifted p (n + k - 1) c (mul p a b) j t ≡ mul p (shifted p n c a) (shifted p k c b) j t
  shift-product n k c a b h g j t =
      let A = col p pos a in
      let B = col p pos b in
      let zeros : (t : ℕ) → Below K (n + k - 1) ((Columns K).mul A B t) = λ t j l.
      sym (ap (λ x. x t j) (mul-rem p pos a b)) ∙ ap (rem p pos) (mul-past p a b n k h g j t (omega arith)) ∙ rem-zero p pos in
      same-rem p pos (shifted-lt p (n + k - 1) c (mul p a b) j t pos) (mul-lt p (shifted p n c a) (shifted p k c b) j t pos)
      (shift-at (n + k - 1) c (mul p a b) j t ∙ ap (λ x. shift K (rem p pos c) (n + k - 1) (x t) j) (mul-rem p pos a b)
      ∙ ap (λ x. x t j) (shift-columns-mul-at K (rem p pos c) n k (n + k - 1) A B (λ t i l. ap (rem p pos) (h i t l) ∙ rem-zero p pos) (λ t i l. ap (rem p pos) (g i t l) ∙ rem-zero p pos) zeros)
      ∙ ap₂ (λ x y. (Columns K).mul x y t j) (sym (shift_rem n c a)) (sym (shift_rem k c b))
      ∙ sym (ap (λ x. x t j) (mul-rem p pos (shifted p n c a) (shifted p k c b))))

  -- the shift by p − c undoes the shift by c
  pub shift_back : (rows c : ℕ) (f : ℕ → ℕ → ℕ) → c < p → ((j t : ℕ) → rows ≤ j → f j t ≡ 0) → (j t : ℕ) → f j t < p
      → shifted p rows ((p - c) % p) (shifted p rows c f) j t ≡ f j t
  shift_back rows c f l z j t b =
      let d : rem p pos ((p - c) % p) ≡ K.neg (rem p pos c) = rem-mod p pos (p - c) ∙ sym (neg-rem p pos c l) in
      same-rem p pos (shifted-lt p rows ((p - c) % p) (shifted p rows c f) j t pos) b
      (shift-at rows ((p - c) % p) (shifted p rows c f) j t
      ∙ ap₂ (λ x y. shift K x rows y j) d (ap (λ x. x t) (shift_rem rows c f))
      ∙ ap (λ x. x j) (shift-inverse K (rem p pos c) rows (col p pos f t) (λ i u. ap (rem p pos) (z i t u) ∙ rem-zero p pos)))

-- the words of the shift, read as rows
pub shift-rows : (p D N : ℕ) (f : List ℕ) (c j t : ℕ) → t < N → rows_of (row_shift p D N f c) N (D + 1) j t ≡ shifted p (D + 1) c (rows_of f N (D + 1)) j t
unfolding row_shift
shift-rows p D N f c j t h =
    ⊎_elim
    (λ (l : j < D + 1). rows-below _ N (D + 1) j t l ∙ word-table (D + 1) N _ j t l h)
    (λ (l : D + 1 ≤ j). rows-past _ N (D + 1) j t l ∙ sym (shifted_past p (D + 1) c _ j t l))
    (lt-or-ge j (D + 1))

-- what `rows::shift` by c writes, shifted by p − c, is what it was given
pub row-shift-back : (p D N : ℕ) (f : List ℕ) (c : ℕ) → c < p → length f ≡ (D + 1) * N → AllBelow p f
    → row_shift p D N (row_shift p D N f c) ((p - c) % p) ≡ f
unfolding row_shift
row-shift-back p D N f c h l b =
    table-ext (D + 1) N _ _ (λ j t u v.
    shifted-ext p (D + 1) ((p - c) % p) _ _ j t (λ i w. shift-rows p D N f c i t v)
    ∙ shift_back p (omega arith) (D + 1) c (rows_of f N (D + 1)) h (λ i s. rows-past f N (D + 1) i s) j t (rows_bound p f N (D + 1) j t (omega arith) b))
    ∙ table-rows f (D + 1) N l

shift-product-rows : (p D₁ D₂ N : ℕ) (f g : List ℕ) (c : ℕ) → 1 ≤ p → (j t : ℕ) → t < N
    → shifted p (D₁ + D₂ + 1) c (rows_of (row_product p D₁ D₂ N f g) N (D₁ + D₂ + 1)) j t
    ≡ mul p (rows_of (row_shift p D₁ N f c) N (D₁ + 1)) (rows_of (row_shift p D₂ N g c) N (D₂ + 1)) j t
shift-product-rows p D₁ D₂ N f g c pos j t v =
    let q : D₁ + D₂ + 1 ≡ D₁ + 1 + (D₂ + 1) - 1 = omega arith in
    shifted-ext p (D₁ + D₂ + 1) c _ _ j t (λ i w. product-rows p D₁ D₂ N f g i t v)
    ∙ ap (λ (k : ℕ). shifted p k c (mul p (rows_of f N (D₁ + 1)) (rows_of g N (D₂ + 1))) j t) q
    ∙ shift-product p pos (D₁ + 1) (D₂ + 1) c (rows_of f N (D₁ + 1)) (rows_of g N (D₂ + 1)) (λ i s. rows-past f N (D₁ + 1) i s) (λ i s. rows-past g N (D₂ + 1) i s) j t
    ∙ mul-ext p _ _ _ _ j t (λ i s _ w. sym (shift-rows p D₁ N f c i s (omega arith))) (λ i s _ w. sym (shift-rows p D₂ N g c i s (omega arith)))

-- the shift of what `rows::product` writes is the product of the shifts
pub row-shift-product : (p D₁ D₂ N : ℕ) (f g : List ℕ) (c : ℕ) → 1 ≤ p
    → row_shift p (D₁ + D₂) N (row_product p D₁ D₂ N f g) c ≡ row_product p D₁ D₂ N (row_shift p D₁ N f c) (row_shift p D₂ N g c)
unfolding row_shift row_product
row-shift-product p D₁ D₂ N f g c pos = table-ext (D₁ + D₂ + 1) N _ _ (λ j t u v. shift-product-rows p D₁ D₂ N f g c pos j t v)
