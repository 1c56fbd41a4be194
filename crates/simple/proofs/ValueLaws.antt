-- Values of polynomials in Y over a ring, and over series: what a product of linear factors is at s, and when it is 0 below X^k.
--   eval-lins        the product of the Y − c i is at s the product of the s − c i
--   eval-agree       the value looks at the columns below k only
--   unit-cancel      where a · u is 0 below X^k and u is not 0 at X = 0, a is 0 below X^k
--   prod-cancel      so, of a product whose factors but one are not 0 at X = 0
--   prod-none        a product with a factor that is 0 below X^k
--   value-rem        the plain value is the value over F_p
--   root-ext         the conditions of a root look at the columns below k only
-- Assumes nothing.
use Prim.Native.Nat.{ℕ, zero, suc, ◌+◌ as ◌+ₙ◌, ◌-◌, ◌*◌ as ◌*ₙ◌, ◌≤◌, ◌<◌, ◌%◌, Fin}
use native.Mathlib.Nat.{not-suc-le-zero}
use native.Mathlib.Omega.{arith}
use mathlib.Core.Path.{◌≡◌, refl, sym, ◌∙◌, ap, ap₂, fun_ext}
use mathlib.Core.Logic.{◌≢◌}
use Rattle.algebra.proofs.BridgeLaws.{rem-zero, rem-one, sum-rem, conv-rem}
use Rattle.algebra.proofs.ColumnsLaws.{mul-columns-sum, mul-rows-sum}
use Rattle.algebra.proofs.FpLaws.{rem-mod}
use Rattle.algebra.proofs.PolyLaws.{Below, below_one, below-lin, below-lin-mul, one-const, horner, horner-zero, horner-suc, eval, eval-const, eval-lin, eval_mul, eval-sum}
use Rattle.algebra.proofs.RingLaws.{IsField, no-zero-divisor, pow-zero, pow-suc, prod-zero, prod-suc}
use Rattle.algebra.proofs.SeriesLaws.{sum-ext, sum-at, add_at, zero-at, one_at, mul_at, mul-agree, prod-at-zero}
use Rattle.algebra.proofs.SumsLaws.{sum_to-ext}
use Rattle.algebra.specs.Sums.{sum_to}
use Rattle.algebra.specs.internal.Fp.{Fp, rem}
use Rattle.algebra.specs.internal.Poly.{lin, Columns}
use Rattle.algebra.specs.internal.Ring.{CommRing, zero-add, mul_comm, zero-mul, mul-zero, pow, prod}
use Rattle.algebra.specs.internal.Series.{Series, cons, tail, conv, conv-zero, conv-suc}
use Rattle.simple.specs.Simple.{series_power, value_at, IsSeriesRoot}

-- products of linear factors, over any commutative ring
module _ {R : Type 0} (𝓡 : CommRing R) where
  open 𝓡 use {𝟘, 𝟙, add as ◌+◌, mul as ◌*◌, neg}

  infixl 65 ◌+◌
  infixl 70 ◌*◌
  pub lins-below : (r : ℕ) (c : ℕ → R) → Below 𝓡 (suc r) (prod (Series 𝓡) r (λ i. lin 𝓡 (c i)))
  lins-below zero c = rw (prod-zero (Series 𝓡) (λ i. lin 𝓡 (c i))) (below_one 𝓡)
  lins-below (suc r) c = rw (prod-suc (Series 𝓡) r (λ i. lin 𝓡 (c i))) (below-lin-mul 𝓡 (c zero) (lins-below r (λ i. c (suc i))))

  pub eval-lins : (s : R) (r : ℕ) (c : ℕ → R) → eval 𝓡 s (suc r) (prod (Series 𝓡) r (λ i. lin 𝓡 (c i))) ≡ prod 𝓡 r (λ i. neg (c i) + s)
  eval-lins s zero c =
      ap (eval 𝓡 s 1) (prod-zero (Series 𝓡) (λ i. lin 𝓡 (c i)) ∙ one-const 𝓡) ∙ eval-const 𝓡 s zero 𝟙 ∙ sym (prod-zero 𝓡 (λ i. neg (c i) + s))
  eval-lins s (suc r) c =
      let rest = prod (Series 𝓡) r (λ i. lin 𝓡 (c (suc i))) in
      let b : Below 𝓡 (suc r) rest = lins-below r (λ i. c (suc i)) in
      ap (eval 𝓡 s (suc (suc r))) (prod-suc (Series 𝓡) r (λ i. lin 𝓡 (c i)))
      ∙ eval_mul 𝓡 s (suc r) rest b 2 (suc (suc r)) (lin 𝓡 (c zero)) (below-lin 𝓡 (c zero)) (below-lin-mul 𝓡 (c zero) b)
      ∙ ap₂ ◌*◌ (eval-lin 𝓡 s (c zero)) (eval-lins s r (λ i. c (suc i))) ∙ sym (prod-suc 𝓡 r (λ i. neg (c i) + s))

-- values at series: polynomials in Y whose coefficients agree below X^k
module _ {R : Type 0} (𝓡 : CommRing R) where
  abbrev 𝓢 : CommRing (ℕ → R)
  𝓢 = Series 𝓡

  horner-agree : (k n : ℕ) (s : ℕ → R) (a b : ℕ → ℕ → R) (j : ℕ) → ((i t : ℕ) → i < j +ₙ n → t < k → a i t ≡ b i t) → (t : ℕ) → t < k → horner 𝓢 s n a j t ≡ horner 𝓢 s n b j t
  horner-agree k zero s a b j h t l = ap (λ x. x t) (horner-zero 𝓢 s a j ∙ sym (horner-zero 𝓢 s b j))
  horner-agree k (suc n) s a b j h t l =
      ap (λ x. x t) (horner-suc 𝓢 s n a j) ∙ add_at 𝓡 (a j) _ t
      ∙ ap₂ 𝓡.add (h j t (omega arith) l) (mul-agree 𝓡 k (λ t u. refl) (λ t u. horner-agree k n s a b (suc j) (λ i t g. h i t (omega arith)) t u) t l)
      ∙ sym (ap (λ x. x t) (horner-suc 𝓢 s n b j) ∙ add_at 𝓡 (b j) _ t)

  pub eval-agree : (k n : ℕ) (s : ℕ → R) (a b : ℕ → ℕ → R) → ((i t : ℕ) → i < n → t < k → a i t ≡ b i t) → (t : ℕ) → t < k → eval 𝓢 s n a t ≡ eval 𝓢 s n b t
  eval-agree k n s a b h t l = horner-agree k n s a b zero (λ i t g. h i t (omega arith)) t l

  -- a product with a factor that is 0 below X^k
  pub prod-none : (k r : ℕ) (v : ℕ → ℕ → R) (i : ℕ) → i < r → ((t : ℕ) → t < k → v i t ≡ 𝓡.𝟘) → (t : ℕ) → t < k → prod 𝓢 r v t ≡ 𝓡.𝟘
  prod-none k zero v i l h t g = absurd (not-suc-le-zero l)
  prod-none k (suc r) v zero l h t g =
      ap (λ x. x t) (prod-suc 𝓢 r v) ∙ mul-agree 𝓡 k (λ t u. h t u ∙ sym (zero-at 𝓡 t)) (λ t u. refl) t g ∙ ap (λ x. x t) (zero-mul 𝓢 (prod 𝓢 r (λ i. v (suc i)))) ∙ zero-at 𝓡 t
  prod-none k (suc r) v (suc i) l h t g =
      ap (λ x. x t) (prod-suc 𝓢 r v) ∙ mul-agree 𝓡 k (λ t u. refl) (λ t u. prod-none k r (λ i. v (suc i)) i (omega arith) h t u ∙ sym (zero-at 𝓡 t)) t g ∙ ap (λ x. x t) (mul-zero 𝓢 (v zero)) ∙ zero-at 𝓡 t

  -- rows and columns of a product may change places
  mul-transpose : (f g : ℕ → ℕ → R) (t j : ℕ) → (Columns 𝓡).mul f g t j ≡ (Columns 𝓡).mul (λ j t. f t j) (λ j t. g t j) j t
  mul-transpose f g t j = mul-rows-sum 𝓡 f g t j ∙ sym (mul-columns-sum 𝓡 (λ j t. f t j) (λ j t. g t j) j t)

  pub prod-transpose : (r : ℕ) (F : ℕ → ℕ → ℕ → R) (t j : ℕ) → prod (Columns 𝓡) r F t j ≡ prod (Columns 𝓡) r (λ i j t. F i t j) j t
  prod-transpose zero F t j = ap (λ x. x t j) (prod-zero (Columns 𝓡) F) ∙ one t j ∙ sym (ap (λ x. x j t) (prod-zero (Columns 𝓡) (λ i j t. F i t j)))
    where
      at : (t : ℕ) → (Columns 𝓡).𝟙 t ≡ cons 𝓢.𝟙 (λ _. 𝓢.𝟘) t
      at t = ap (λ x. x t) (one_at 𝓢)

      one : (t j : ℕ) → (Columns 𝓡).𝟙 t j ≡ (Columns 𝓡).𝟙 j t
      one zero zero = refl
      one zero (suc j) = ap (λ x. x (suc j)) (at zero ∙ one_at 𝓡) ∙ sym (ap (λ x. x zero) (at (suc j)) ∙ zero-at 𝓡 zero)
      one (suc t) zero = ap (λ x. x zero) (at (suc t)) ∙ zero-at 𝓡 zero ∙ sym (ap (λ x. x (suc t)) (at zero ∙ one_at 𝓡))
      one (suc t) (suc j) = ap (λ x. x (suc j)) (at (suc t)) ∙ zero-at 𝓡 (suc j) ∙ sym (ap (λ x. x (suc t)) (at (suc j)) ∙ zero-at 𝓡 (suc t))
  prod-transpose (suc r) F t j =
      ap (λ x. x t j) (prod-suc (Columns 𝓡) r F) ∙ mul-transpose (F zero) (prod (Columns 𝓡) r (λ i. F (suc i))) t j
      ∙ ap (λ x. (Columns 𝓡).mul (λ j t. F zero t j) x j t) (fun_ext (λ j. fun_ext (λ t. prod-transpose r (λ i. F (suc i)) t j)))
      ∙ sym (ap (λ x. x j t) (prod-suc (Columns 𝓡) r (λ i j t. F i t j)))

  module _ (field : IsField 𝓡) where
    -- a unit is cancelled
    cancel : (u : ℕ → R) → u zero ≢ 𝓡.𝟘 → (t : ℕ) (a : ℕ → R) → ((i : ℕ) → i ≤ t → conv 𝓡 a u i ≡ 𝓡.𝟘) → a t ≡ 𝓡.𝟘
    cancel u ne zero a h = no-zero-divisor 𝓡 field (u zero) (a zero) ne (mul_comm 𝓡 (u zero) (a zero) ∙ sym (conv-zero 𝓡 a u) ∙ h zero (omega arith))
    cancel u ne (suc t) a h =
        let z : a zero ≡ 𝓡.𝟘 = no-zero-divisor 𝓡 field (u zero) (a zero) ne (mul_comm 𝓡 (u zero) (a zero) ∙ sym (conv-zero 𝓡 a u) ∙ h zero (omega arith)) in
        cancel u ne t (tail a) (λ i l.
        sym (zero-add 𝓡 (conv 𝓡 (tail a) u i)) ∙ ap (λ x. 𝓡.add x (conv 𝓡 (tail a) u i)) (sym (zero-mul 𝓡 (u (suc i))) ∙ ap (λ x. 𝓡.mul x (u (suc i))) (sym z))
        ∙ sym (conv-suc 𝓡 a u i) ∙ h (suc i) (omega arith))

    pub unit-cancel : (k : ℕ) (a u : ℕ → R) → u zero ≢ 𝓡.𝟘 → ((t : ℕ) → t < k → 𝓢.mul a u t ≡ 𝓡.𝟘) → (t : ℕ) → t < k → a t ≡ 𝓡.𝟘
    unit-cancel k a u ne h t l = cancel u ne t a (λ i g. sym (mul_at 𝓡 a u i) ∙ h i (omega arith))

    pub prod-nonzero : (r : ℕ) (x : ℕ → R) → ((l : ℕ) → l < r → x l ≢ 𝓡.𝟘) → prod 𝓡 r x ≢ 𝓡.𝟘
    prod-nonzero zero x h e = field.nontrivial (sym e ∙ prod-zero 𝓡 x)
    prod-nonzero (suc r) x h e =
        prod-nonzero r (λ l. x (suc l)) (λ l u. h (suc l) (omega arith)) (no-zero-divisor 𝓡 field (x zero) _ (h zero (omega arith)) (sym (prod-suc 𝓡 r x) ∙ e))

    pub prod-cancel : (k r : ℕ) (v : ℕ → ℕ → R) (i : ℕ) → i < r → ((l : ℕ) → l < r → l ≢ i → v l zero ≢ 𝓡.𝟘) → ((t : ℕ) → t < k → prod 𝓢 r v t ≡ 𝓡.𝟘)
        → (t : ℕ) → t < k → v i t ≡ 𝓡.𝟘
    prod-cancel k zero v i l ne h = absurd (not-suc-le-zero l)
    prod-cancel k (suc r) v zero l ne h =
        let rest = prod 𝓢 r (λ i. v (suc i)) in
        unit-cancel k (v zero) rest
        (λ e. prod-nonzero r (λ l. v (suc l) zero) (λ l u. ne (suc l) (omega arith) (λ q. let z : ⊥ = omega arith in z)) (sym (prod-at-zero 𝓡 r (λ i. v (suc i))) ∙ e))
        (λ t u. sym (ap (λ x. x t) (prod-suc 𝓢 r v)) ∙ h t u)
    prod-cancel k (suc r) v (suc i) l ne h =
        let rest = prod 𝓢 r (λ i. v (suc i)) in
        prod-cancel k r (λ i. v (suc i)) i (omega arith) (λ l u q. ne (suc l) (omega arith) (λ e. q (let z : l ≡ i = omega arith in z)))
        (unit-cancel k rest (v zero) (ne zero (omega arith) (λ e. let z : ⊥ = omega arith in z))
        (λ t u. ap (λ x. x t) (mul_comm 𝓢 rest (v zero) ∙ sym (prod-suc 𝓢 r v)) ∙ h t u))

-- from plain arithmetic
module _ (p : ℕ) (pos : zero < p) where
  abbrev K : CommRing (Fin p)
  K = Fp p pos

  abbrev q : ℕ → Fin p
  q = rem p pos

  power_rem : (s : ℕ → ℕ) (m : ℕ) → (λ (t : ℕ). q (series_power p s m t)) ≡ pow (Series K) (λ t. q (s t)) m
  unfolding series_power
  power_rem s zero = fun_ext (elim [ zero ↦ rem-one p pos | suc t ↦ rem-zero p pos ]) ∙ sym (one_at K) ∙ sym (pow-zero (Series K) (λ t. q (s t)))
  power_rem s (suc m) =
      fun_ext (λ t. rem-mod p pos _ ∙ conv-rem p pos s (series_power p s m) t ∙ ap (λ x. conv K (λ t. q (s t)) x t) (power_rem s m)
      ∙ sym (mul_at K (λ t. q (s t)) (pow (Series K) (λ t. q (s t)) m) t))
      ∙ sym (pow-suc (Series K) (λ t. q (s t)) m)

  pub value-rem : (D : ℕ) (f : ℕ → ℕ → ℕ) (s : ℕ → ℕ) (t : ℕ) → q (value_at p D f s t) ≡ eval (Series K) (λ t. q (s t)) (suc D) (λ j t. q (f j t)) t
  unfolding value_at
  value-rem D f s t =
      let c : ℕ → Fin p = λ t. q (s t) in
      rem-mod p pos _ ∙ sum-rem p pos (λ j. sum_to (suc t) (λ i. f j i *ₙ series_power p s j (t - i))) D
      ∙ sum-ext K D (λ j l. conv-rem p pos (f j) (series_power p s j) t ∙ ap (λ x. conv K (λ i. q (f j i)) x t) (power_rem s j)
      ∙ sym (mul_at K (λ i. q (f j i)) (pow (Series K) c j) t))
      ∙ sym (sum-at K (λ j. (Series K).mul (λ i. q (f j i)) (pow (Series K) c j)) D t)
      ∙ ap (λ x. x t) (sym (eval-sum (Series K) c D (λ j t. q (f j t))))

-- the value's columns below k look at those of the series only
power-ext : (p : ℕ) (s s' : ℕ → ℕ) (k : ℕ) → ((t : ℕ) → t < k → s t ≡ s' t) → (m t : ℕ) → t < k → series_power p s m t ≡ series_power p s' m t
unfolding series_power
power-ext p s s' k h zero t l = refl
power-ext p s s' k h (suc m) t l =
    ap (λ (x : ℕ). x % p) (sum_to-ext (suc t) (λ i u. ap₂ ◌*ₙ◌ (h i (omega arith)) (power-ext p s s' k h m (t - i) (omega arith))))

pub root-ext : (p D k : ℕ) (f : ℕ → ℕ → ℕ) (c : ℕ) (s s' : ℕ → ℕ) → zero < k → ((t : ℕ) → t < k → s' t ≡ s t) → IsSeriesRoot p D k f c s → IsSeriesRoot p D k f c s'
unfolding value_at
root-ext p D k f c s s' low e h = record {
  reduced = λ t l. let a = h.reduced t l in let b = e t l in omega arith;
  first = e 0 low ∙ h.first;
  value = λ t l.
      ap (λ (x : ℕ). x % p) (sum_to-ext (suc D) (λ j u. sum_to-ext (suc t) (λ i v. ap (λ (x : ℕ). f j i *ₙ x) (power-ext p s' s k e j (t - i) (omega arith)))))
      ∙ h.value t l;
}
