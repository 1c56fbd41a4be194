-- Laws of the least divisor (trial division, primes) and of the inverse modulo a prime.
-- Assumes nothing.
use mathlib.Core.Path.{◌≡◌, sym, ap, subst, ◌∙◌}
use mathlib.Core.Logic.{⊎_elim}
use Prim.Native.Nat.{ℕ, zero, suc, ◌+◌, ◌-◌, ◌*◌, ◌/◌, ◌%◌, ◌≤◌, ◌<◌}
use native.Mathlib.Nat.{eq-or-lt_of_le, mul-le-mul, div-add-mod, div-add-mod', mul-mod_right, mul_comm, mul-add, mul_right_comm, le_refl, zero-mul, one-mul, suc-mul, mod-lt, mod_self, mod-eq_of_lt, mod-eq-zero_of_dvd, dvd_of_mod-eq-zero, dvd_trans, le_of_dvd, div-le_self, sub-add_cancel, mul-add-mod_self_left}
use native.Mathlib.Omega.{arith}
use borrow.Author.Tests.{eq-eqb, eqb-true}
use lib.Dec.{eqb}
use Rattle.algebra.specs.Prime.{Prime}
use Rattle.algebra.specs.internal.Fp.{mod-mul-mod}
use Rattle.numbers.specs.Words.{first_where}
use Rattle.numbers.specs.Divisor.{least_divisor, inverse_of}
use Rattle.numbers.proofs.WordsLaws.{lt-or-ge, first-is, first-le, first_range, first_found}

-- no number from 2 up to d, d left out, divides p
abbrev pub None : ℕ → ℕ → Type 0
None p d = (k : ℕ) → 2 ≤ k → k < d → p % k ≡ 0 → ⊥

pub none-two : (p : ℕ) → None p 2
none-two p k lo hi e = omega arith

pub divisor-le : (p d : ℕ) → 2 ≤ p → p % d ≡ 0 → d ≤ p
divisor-le p d two e = le_of_dvd (omega arith) (dvd_of_mod-eq-zero d e)

pub divides-through : (p k d : ℕ) → p % k ≡ 0 → k % d ≡ 0 → p % d ≡ 0
divides-through p k d e g = mod-eq-zero_of_dvd d (dvd_trans d (dvd_of_mod-eq-zero d g) (dvd_of_mod-eq-zero k e))

pub none_more : (p d : ℕ) → None p d → (p % d ≡ 0 → ⊥) → None p (d + 1)
none_more p d none here k lo hi e =
    ⊎_elim (λ (q : k ≡ d). here (subst (λ (j : ℕ). p % j ≡ 0) q e)) (λ (l : k < d). none k lo l e)
    (eq-or-lt_of_le {n = k} {m = d} (omega arith))

-- the first divisor of p among n numbers from 2 on, or the number after them: none below it divides p
abbrev pub trial_divisor : ℕ → ℕ → ℕ
trial_divisor p n = first_where (λ d. eqb (p % d) 0) 2 n

pub trial-none : (p n : ℕ) → None p (trial_divisor p n)
trial-none p n k lo hi e =
    let f = first-le (λ d. eqb (p % d) 0) 2 n k lo (omega (arith, first_range (λ d. eqb (p % d) 0) 2 n)) (eq-eqb (p % k) 0 e) in
    omega arith

pub trial-divides : (p n : ℕ) → trial_divisor p n < 2 + n → p % trial_divisor p n ≡ 0
trial-divides p n l = eqb-true _ 0 (first_found (λ d. eqb (p % d) 0) 2 n l)

-- the least divisor is the number above 1 that divides p and below which none does
pub least-is : (p r : ℕ) → 2 ≤ r → r ≤ p → p % r ≡ 0 → None p r → least_divisor p ≡ r
unfolding least_divisor
least-is p r lo hi at none =
    first-is (λ d. eqb (p % d) 0) 2 (p - 2) r lo (omega arith) (λ _. eq-eqb (p % r) 0 at) (λ k lo' hi' e. none k lo' hi' (eqb-true (p % k) 0 e))

pub least-none : (p : ℕ) → None p (least_divisor p)
unfolding least_divisor
least-none p = trial-none p (p - 2)

pub least-divides : (p : ℕ) → 2 ≤ p → (2 ≤ least_divisor p) × (least_divisor p ≤ p) × (p % least_divisor p ≡ 0)
unfolding least_divisor
least-divides p two =
    let (lo, hi) = first_range (λ d. eqb (p % d) 0) 2 (p - 2) in (
      lo,
      omega arith,
      ⊎_elim (λ (e : trial_divisor p (p - 2) ≡ p). ap (λ (d : ℕ). p % d) e ∙ mod_self p) (λ (l : trial_divisor p (p - 2) < p). trial-divides p (p - 2) (omega arith))
          (eq-or-lt_of_le {n = trial_divisor p (p - 2)} {m = p} (omega arith)),
    )

-- a number that is not prime is the first divisor of none
pub composite-none : (p d : ℕ) → 2 ≤ d → None p d → (least_divisor d ≡ d → ⊥) → p % d ≡ 0 → ⊥
composite-none p d two none composite e =
    let (lo, hi, divides) = least-divides d two in
    ⊎_elim composite (λ (l : least_divisor d < d). none (least_divisor d) lo l (divides-through p d (least_divisor d) e divides)) (eq-or-lt_of_le hi)

-- a number that is its own least divisor is prime, and only such a one
pub least-prime : (p : ℕ) → 2 ≤ p → p ≤ least_divisor p → Prime p
least-prime p two h = record { two-le = two; no-divisor = λ d lo hi e. least-none p d lo (omega arith) (mod-eq-zero_of_dvd d e) }

pub prime-none : {p : ℕ} → Prime p → None p p
prime-none prime k lo hi e = prime.no-divisor k lo hi (dvd_of_mod-eq-zero k e)

pub prime-least : {p : ℕ} → Prime p → least_divisor p ≡ p
prime-least {p} prime = least-is p p prime.two-le (le_refl p) (mod_self p) (prime-none prime)

-- a divisor k of p, with p < d * d, is below d or its cofactor is
cofactor : (p d k : ℕ) → p < d * d → d ≤ k → p % k ≡ 0 → p / k < d
cofactor p d k small ge e =
    ⊎_elim (λ (l : p / k < d). l)
    (λ (g : d ≤ p / k). absurd (let f : d * d ≤ p / k * k = mul-le-mul g ge in omega (arith, div-add-mod' p k)))
    (lt-or-ge (p / k) d)

-- trial division may stop where d * d is past p
pub none-root : (p d : ℕ) → 2 ≤ p → p < d * d → None p d → None p p
none-root p d two small none k lo hi e =
    ⊎_elim (λ (l : k < d). none k lo l e)
    (λ (g : d ≤ k).
    let q : ℕ = p / k in
    let whole : q * k ≡ p = omega (arith, div-add-mod' p k) in
    let less : q < d = cofactor p d k small g e in
    let more : 2 ≤ q = ⊎_elim (λ (l : q < 2). absurd (two_cases q l whole)) (λ (m : 2 ≤ q). m) (lt-or-ge q 2) in
    none q more less (subst (λ (j : ℕ). j % q ≡ 0) whole (mul-mod_right q k)))
    (lt-or-ge k d)
  where
    two_cases : (q : ℕ) → q < 2 → q * k ≡ p → ⊥
    two_cases zero l w = omega (arith, zero-mul k)
    two_cases (suc zero) l w = omega (arith, one-mul k)
    two_cases (suc (suc q)) l w = omega arith

pub trial-prime : (p d : ℕ) → 2 ≤ p → p < d * d → None p d → Prime p
trial-prime p d two small none =
    let e = least-is p p two (le_refl p) (mod_self p) (none-root p d two small none) in
    least-prime p two (omega arith)

turned : (p k : ℕ) → 0 < p → suc k * (p - p / suc k) ≡ p * k + p % suc k
turned p k pos =
    let q : ℕ = p / suc k in
    let le : q ≤ p = div-le_self p (suc k) in
    omega (arith, mul-add (suc k) (p - q) q, ap (λ (x : ℕ). suc k * x) (sub-add_cancel le), suc-mul k p, mul_comm k p, div-add-mod p (suc k))

-- a step of the search for the inverse: what c * a is modulo p goes from m to p % m
pub inverse-step : (p a c m : ℕ) → 1 ≤ m → m < p → (c * a) % p ≡ m → (c * (p - p / m) % p * a) % p ≡ p % m
inverse-step p a c zero lo hi e = omega arith
inverse-step p a c (suc k) lo hi e =
    let q : ℕ = p - p / suc k in
    mod-mul-mod (c * q) a p
    ∙ ap (λ (x : ℕ). x % p) (mul_right_comm c q a)
    ∙ sym (mod-mul-mod (c * a) q p)
    ∙ ap (λ (x : ℕ). (x * q) % p) e
    ∙ ap (λ (x : ℕ). x % p) (turned p k (omega arith))
    ∙ mul-add-mod_self_left p k (p % suc k)
    ∙ mod-eq_of_lt (let l : p % suc k < suc k = mod-lt p (omega arith) in omega arith)

only : (p a x k : ℕ) → x < p → k < p → a * x % p ≡ 1 → a * k % p ≡ 1 → k ≡ x
only p a x k hx hk ex ek =
    sym (mod-eq_of_lt hk) ∙ ap (λ (j : ℕ). j % p) (sym (one-mul k) ∙ ap (λ (j : ℕ). j * k) (sym ex))
    ∙ mod-mul-mod (a * x) k p ∙ ap (λ (j : ℕ). j % p) (mul_right_comm a x k) ∙ sym (mod-mul-mod (a * k) x p)
    ∙ ap (λ (j : ℕ). (j * x) % p) ek ∙ ap (λ (j : ℕ). j % p) (one-mul x) ∙ mod-eq_of_lt hx

pub inverse-is : (p a x : ℕ) → x < p → x * a % p ≡ 1 → inverse_of p a ≡ x
unfolding inverse_of
inverse-is p a x hx e =
    let ex : a * x % p ≡ 1 = ap (λ (j : ℕ). j % p) (mul_comm a x) ∙ e in
    first-is (λ y. eqb (a * y % p) 1) 0 p x (omega arith) (omega arith) (λ _. eq-eqb (a * x % p) 1 ex)
    (λ k lo hi t. let s : k ≡ x = only p a x k hx (omega arith) ex (eqb-true (a * k % p) 1 t) in omega arith)
