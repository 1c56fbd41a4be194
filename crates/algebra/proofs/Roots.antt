-- Roots of polynomials over a field, and products of powers of lines in another order.
--   root-count         a monic polynomial of degree n has at most n roots
--   at-zero-root-at    each c i is a root of the product of the (Y − c i)^(m i)
--   Powered r c n a    powers of the r lines Y − c i, with the sum n, whose product is a
--   product-in         a product of powers of lines, in any order and with repetitions, is one of powers of the distinct lines
-- Assumes nothing.
use Prim.Native.Nat.{ℕ, zero, suc, ◌+◌ as ◌+ₙ◌, ◌≤◌, ◌<◌}
use native.Mathlib.Nat.{not-suc-le-zero}
use native.Mathlib.Omega.{arith}
use mathlib.Core.Path.{◌≡◌, refl, sym, ◌∙◌, ap, ap₂, subst}
use mathlib.Core.Logic.{◌≢◌}
use Rattle.algebra.specs.Sums.{sum_to}
use Rattle.algebra.proofs.SumsLaws.{sum_to-zero, sum_to-front}
use Rattle.algebra.specs.internal.Ring.{CommRing, add-zero, zero-add, neg-add, add-cancel-left, mul_comm, mul_left_comm, one-mul, mul-zero}
use Rattle.algebra.proofs.RingLaws.{IsField, no-zero-divisor, pow-zero-mul, pow-suc-mul, prod-zero, prod-suc}
use Rattle.algebra.specs.internal.Series.{Series}
use Rattle.algebra.proofs.SeriesLaws.{one_at}
use Rattle.algebra.specs.internal.Poly.{const, lin, lin_pow}
use Rattle.algebra.proofs.PolyLaws.{const-zero, lin-coeff-suc, Below, below-lin, top-mul, eval, quot, quot_below, div, horner-zero, eval-suc, eval_mul, eval-lin, poly-pow, poly-lin, Root, root-mul}
use Rattle.algebra.proofs.Chain.{at_zero, at-zero-below, at-zero-root}

module _ {R : Type 0} (𝓡 : CommRing R) where
  open 𝓡 use {𝟘, 𝟙, add as ◌+◌, mul as ◌*◌, neg}
  open Series 𝓡 use {𝟙 as 𝟙ₛ, add as ◌⊕◌, mul as ◌⊛◌}

  infixl 65 ◌+◌
  infixl 70 ◌*◌
  infixl 65 ◌⊕◌
  infixl 70 ◌⊛◌
  module _ (field : IsField 𝓡) where
    lin-one : (x : R) → lin 𝓡 x 1 ≡ 𝟙
    lin-one x = lin-coeff-suc 𝓡 x zero ∙ ap (λ y. y zero) (one_at 𝓡)

    pub root-count : (n k : ℕ) (f : ℕ → R) (c : ℕ → R) → Below 𝓡 (suc n) f → f n ≡ 𝟙 → ((i : ℕ) → i < k → eval 𝓡 (c i) (suc n) f ≡ 𝟘)
        → ((i j : ℕ) → i < j → j < k → c i ≢ c j) → k ≤ n
    root-count n zero f c b one roots ne = omega arith
    root-count zero (suc k) f c b one roots ne =
        absurd (field.nontrivial (sym (roots zero (omega arith)) ∙ eval-suc 𝓡 (c zero) zero f
        ∙ ap₂ ◌+◌ one (ap (λ x. c zero * x) (horner-zero 𝓡 (c zero) _ zero) ∙ mul-zero 𝓡 (c zero)) ∙ add-zero 𝓡 𝟙))
    root-count (suc n) (suc k) f c b one roots ne =
        let h = quot 𝓡 (c zero) (suc (suc n)) f in
        let bh : Below 𝓡 (suc n) h = quot_below 𝓡 (c zero) (suc (suc n)) (suc n) f b in
        let e : f ≡ lin 𝓡 (c zero) ⊛ h =
        div 𝓡 (c zero) (suc (suc n)) f b ∙ ap (λ x. x ⊕ lin 𝓡 (c zero) ⊛ h) (ap (const 𝓡) (roots zero (omega arith)) ∙ const-zero 𝓡) ∙ zero-add (Series 𝓡) _ in
        let top : h n ≡ 𝟙 =
        sym (one-mul 𝓡 (h n)) ∙ ap (λ x. x * h n) (sym (lin-one (c zero)))
        ∙ sym (top-mul 𝓡 1 n (suc n) (lin 𝓡 (c zero)) h (let z : suc n ≡ 1 +ₙ n = omega arith in z) (below-lin 𝓡 (c zero)) bh) ∙ ap (λ x. x (suc n)) (sym e) ∙ one in
        let rest : k ≤ n =
        root-count n k h (λ i. c (suc i)) bh top
        (λ i g. no-zero-divisor 𝓡 field (neg (c zero) + c (suc i)) _
        (λ z. ne zero (suc i) (omega arith) (omega arith) (sym (add-cancel-left 𝓡 (neg (c zero)) (z ∙ sym (neg-add 𝓡 (c zero))))))
        (ap (λ x. x * eval 𝓡 (c (suc i)) (suc n) h) (sym (eval-lin 𝓡 (c (suc i)) (c zero)))
        ∙ sym (eval_mul 𝓡 (c (suc i)) (suc n) h bh 2 (suc (suc n)) (lin 𝓡 (c zero)) (below-lin 𝓡 (c zero)) (subst (Below 𝓡 (suc (suc n))) e b))
        ∙ ap (eval 𝓡 (c (suc i)) (suc (suc n))) (sym e) ∙ roots (suc i) (omega arith)))
        (λ i j u v. ne (suc i) (suc j) (omega arith) (omega arith)) in
        omega arith

  pub at-zero-root-at : (r : ℕ) (c : ℕ → R) (m : ℕ → ℕ) → ((i : ℕ) → i < r → 1 ≤ m i) → (i : ℕ) → i < r → Root 𝓡 (c i) (at_zero 𝓡 r c m)
  at-zero-root-at zero c m l i g = absurd (not-suc-le-zero g)
  at-zero-root-at (suc r) c m l zero g = at-zero-root 𝓡 r c m (l zero g)
  at-zero-root-at (suc r) c m l (suc i) g =
      let rest = at_zero 𝓡 r (λ i. c (suc i)) (λ i. m (suc i)) in
      let P = lin_pow 𝓡 (c zero) (m zero) in
      subst (Root 𝓡 (c (suc i))) (mul_comm (Series 𝓡) rest P ∙ sym (prod-suc (Series 𝓡) r (λ i. lin_pow 𝓡 (c i) (m i))))
      (root-mul 𝓡 (c (suc i)) rest P (_, at-zero-below 𝓡 r (λ i. c (suc i)) (λ i. m (suc i))) (poly-pow 𝓡 (poly-lin 𝓡 (c zero)) (m zero))
      (at-zero-root-at r (λ i. c (suc i)) (λ i. m (suc i)) (λ i u. l (suc i) (omega arith)) i (omega arith)))

  pub record Powered (r : ℕ) (c : ℕ → R) (n : ℕ) (a : ℕ → R) : Type 0 where
    pub powers : ℕ → ℕ
    pub sum : sum_to r powers ≡ n
    pub product : a ≡ at_zero 𝓡 r c powers

  pub powered-cast : (r : ℕ) (c : ℕ → R) (n n' : ℕ) (a a' : ℕ → R) → n ≡ n' → a ≡ a' → Powered r c n a → Powered r c n' a'
  powered-cast r c n n' a a' e e' h = record { powers = h.powers; sum = h.sum ∙ e; product = sym e' ∙ h.product }

  abbrev put : ℕ → (ℕ → ℕ) → ℕ → ℕ
  put x f zero = x
  put x f (suc i) = f i

  -- one line more, with any power
  powered-front : (r : ℕ) (c : ℕ → R) (n : ℕ) (a : ℕ → R) (k : ℕ) → Powered r (λ i. c (suc i)) n a → Powered (suc r) c (k +ₙ n) (lin_pow 𝓡 (c zero) k ⊛ a)
  powered-front r c n a k h = record {
    powers = put k h.powers;
    sum = sum_to-front r (put k h.powers) ∙ ap (λ x. k +ₙ x) h.sum;
    product = ap (λ x. lin_pow 𝓡 (c zero) k ⊛ x) h.product ∙ sym (prod-suc (Series 𝓡) r (λ i. lin_pow 𝓡 (c i) (put k h.powers i)));
  }

  powered-tail : (r : ℕ) (c : ℕ → R) (m : ℕ → ℕ) → Powered r (λ i. c (suc i)) (sum_to r (λ i. m (suc i))) (at_zero 𝓡 r (λ i. c (suc i)) (λ i. m (suc i)))
  powered-tail r c m = record { powers = λ i. m (suc i); sum = refl; product = refl }

  nothing-in : (r : ℕ) (c : ℕ → R) → Powered r c zero 𝟙ₛ
  nothing-in zero c = record { powers = λ _. zero; sum = sum_to-zero _; product = sym (prod-zero (Series 𝓡) _) }
  nothing-in (suc r) c =
      powered-cast (suc r) c (zero +ₙ zero) zero _ _ (omega arith) (pow-zero-mul (Series 𝓡) (lin 𝓡 (c zero)) 𝟙ₛ)
      (powered-front r c zero 𝟙ₛ zero (nothing-in r (λ i. c (suc i))))

  line-in : (r : ℕ) (c : ℕ → R) (n : ℕ) (a : ℕ → R) (j : ℕ) → j < r → Powered r c n a → Powered r c (suc n) (lin 𝓡 (c j) ⊛ a)
  line-in zero c n a j l h = absurd (not-suc-le-zero l)
  line-in (suc r) c n a zero l h =
      let m = h.powers in
      powered-cast (suc r) c _ _ _ _ (let s = sum_to-front r m in let t = h.sum in let z : suc (m zero) +ₙ sum_to r (λ i. m (suc i)) ≡ suc n = omega arith in z)
      (pow-suc-mul (Series 𝓡) (lin 𝓡 (c zero)) (m zero) _ ∙ ap (λ x. lin 𝓡 (c zero) ⊛ x) (sym (h.product ∙ prod-suc (Series 𝓡) r (λ i. lin_pow 𝓡 (c i) (m i)))))
      (powered-front r c _ _ (suc (m zero)) (powered-tail r c m))
  line-in (suc r) c n a (suc j) l h =
      let m = h.powers in
      powered-cast (suc r) c _ _ _ _ (let s = sum_to-front r m in let t = h.sum in let z : m zero +ₙ suc (sum_to r (λ i. m (suc i))) ≡ suc n = omega arith in z)
      (mul_left_comm (Series 𝓡) _ _ _ ∙ ap (λ x. lin 𝓡 (c (suc j)) ⊛ x) (sym (h.product ∙ prod-suc (Series 𝓡) r (λ i. lin_pow 𝓡 (c i) (m i)))))
      (powered-front r c _ _ (m zero) (line-in r (λ i. c (suc i)) _ _ j (omega arith) (powered-tail r c m)))

  power_in : (r : ℕ) (c : ℕ → R) (n : ℕ) (a : ℕ → R) (x : R) (k j : ℕ) → j < r → x ≡ c j → Powered r c n a → Powered r c (k +ₙ n) (lin_pow 𝓡 x k ⊛ a)
  power_in r c n a x zero j l q h = powered-cast r c n (zero +ₙ n) a _ (omega arith) (sym (pow-zero-mul (Series 𝓡) (lin 𝓡 x) a)) h
  power_in r c n a x (suc k) j l q h =
      powered-cast r c (suc (k +ₙ n)) (suc k +ₙ n) _ _ (omega arith) (ap (λ y. lin 𝓡 y ⊛ (lin_pow 𝓡 x k ⊛ a)) (sym q) ∙ sym (pow-suc-mul (Series 𝓡) (lin 𝓡 x) k a))
      (line-in r c (k +ₙ n) (lin_pow 𝓡 x k ⊛ a) j l (power_in r c n a x k j l q h))

  pub product-in : (r : ℕ) (c : ℕ → R) (n : ℕ) (x : ℕ → R) (k : ℕ → ℕ) → ((i : ℕ) → i < n → (j : ℕ) × (j < r) × (x i ≡ c j)) → Powered r c (sum_to n k) (at_zero 𝓡 n x k)
  product-in r c zero x k at = powered-cast r c zero _ 𝟙ₛ _ (sym (sum_to-zero k)) (sym (prod-zero (Series 𝓡) _)) (nothing-in r c)
  product-in r c (suc n) x k at =
      let (j, l, q) = at zero (omega arith) in
      powered-cast r c _ _ _ _ (sym (sum_to-front n k)) (sym (prod-suc (Series 𝓡) n (λ i. lin_pow 𝓡 (x i) (k i))))
      (power_in r c _ _ (x zero) (k zero) j l q (product-in r c n (λ i. x (suc i)) (λ i. k (suc i)) (λ i u. at (suc i) (omega arith))))
