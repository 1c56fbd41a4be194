-- Laws of plain sums.
-- Assumes nothing.
use Prim.Native.Nat.{ℕ, zero, suc, ◌+◌, ◌-◌, ◌*◌, ◌≤◌, ◌<◌}
use native.Mathlib.Nat.{add-zero, add-suc, eq-or-lt_of_le, le_of_suc-le-suc}
use native.Mathlib.Omega.{arith}
use mathlib.Core.Path.{◌≡◌, refl, sym, ◌∙◌, ap}
use mathlib.Core.Logic.{◌≢◌, ⊎_elim}
use Rattle.algebra.specs.Sums.{sum_to}

pub sum_to-zero : (f : ℕ → ℕ) → sum_to zero f ≡ 0
unfolding sum_to
sum_to-zero f = refl

pub sum_to-suc : (n : ℕ) (f : ℕ → ℕ) → sum_to (suc n) f ≡ sum_to n f + f n
unfolding sum_to
sum_to-suc n f = refl

-- the first summand taken off
pub sum_to-front : (n : ℕ) (f : ℕ → ℕ) → sum_to (suc n) f ≡ f zero + sum_to n (λ i. f (suc i))
sum_to-front zero f = omega (arith, sum_to-suc zero f, sum_to-zero f, sum_to-zero (λ i. f (suc i)))
sum_to-front (suc n) f = omega (arith, sum_to-suc (suc n) f, sum_to-front n f, sum_to-suc n (λ i. f (suc i)))

-- a sum looks only at what is below its bound
pub sum_to-ext : (n : ℕ) {f g : ℕ → ℕ} → ((i : ℕ) → i < n → f i ≡ g i) → sum_to n f ≡ sum_to n g
sum_to-ext zero {f} {g} h = sum_to-zero f ∙ sym (sum_to-zero g)
sum_to-ext (suc n) {f} {g} h = rw (sum_to-suc n f, sum_to-suc n g, sum_to-ext n {f = f} {g = g} (λ i l. h i (omega arith)), h n (omega arith))

pub sum_to-bound : (n b : ℕ) (f : ℕ → ℕ) → ((i : ℕ) → i < n → f i ≤ b) → sum_to n f ≤ n * b
sum_to-bound zero b f h = omega (arith, sum_to-zero f)
sum_to-bound (suc n) b f h = omega (arith, sum_to-suc n f, sum_to-bound n b f (λ i l. h i (omega arith)), h n (omega arith))

pub sum_to-zeros : (n : ℕ) (f : ℕ → ℕ) → ((i : ℕ) → i < n → f i ≡ 0) → sum_to n f ≡ 0
sum_to-zeros n f h = let l = sum_to-bound n 0 f (λ i g. let z = h i g in omega arith) in omega arith

pub sum_to-add : (n : ℕ) (f g : ℕ → ℕ) → sum_to n (λ i. f i + g i) ≡ sum_to n f + sum_to n g
sum_to-add zero f g = omega (arith, sum_to-zero f, sum_to-zero g, sum_to-zero (λ i. f i + g i))
sum_to-add (suc n) f g = omega (arith, sum_to-suc n f, sum_to-suc n g, sum_to-suc n (λ i. f i + g i), sum_to-add n f g)

pub sum_to-append : (n m : ℕ) (f : ℕ → ℕ) → sum_to (n + m) f ≡ sum_to n f + sum_to m (λ i. f (n + i))
sum_to-append n zero f = rw (sum_to-zero (λ i. f (n + i)), add-zero n, add-zero (sum_to n f))
sum_to-append n (suc m) f =
    rw (add-suc n m) (omega (arith, sum_to-suc (n + m) f, sum_to-append n m f, sum_to-suc m (λ i. f (n + i))))

-- a sum of fewer is at most the sum of more
pub sum_to-mono : (n k : ℕ) (f : ℕ → ℕ) → n ≤ k → sum_to n f ≤ sum_to k f
sum_to-mono n k f l = let e : n + (k - n) ≡ k = omega arith in omega (arith, sum_to-append n (k - n) f, ap (λ x. sum_to x f) e)

-- a sum from its end
pub sum_to-reverse : (n : ℕ) (f : ℕ → ℕ) → sum_to n f ≡ sum_to n (λ i. f (n - (i + 1)))
sum_to-reverse zero f = sum_to-zero f ∙ sym (sum_to-zero _)
sum_to-reverse (suc n) f =
    omega (
      arith,
      sum_to-suc n f,
      sum_to-reverse n f,
      sum_to-front n (λ i. f (suc n - (i + 1))),
      ap f (let e : suc n - (0 + 1) ≡ n = omega arith in e),
      sum_to-ext n {f = λ i. f (suc n - (suc i + 1))} {g = λ i. f (n - (i + 1))} (λ i _. ap f (let e : suc n - (suc i + 1) ≡ n - (i + 1) = omega arith in e)),
    )

pub sum_to-const : (n k : ℕ) → sum_to n (λ _. k) ≡ n * k
sum_to-const zero k = omega (arith, sum_to-zero (λ _. k))
sum_to-const (suc n) k = omega (arith, sum_to-suc n (λ _. k), sum_to-const n k)

-- a summand is at most the sum
pub sum_to-at : (n i : ℕ) (f : ℕ → ℕ) → i < n → f i ≤ sum_to n f
sum_to-at n i f l = omega (arith, sum_to-suc i f, sum_to-mono (suc i) n f l)

-- a sum with at most one summand that is not 0
pub sum_to-single : (n i : ℕ) (f : ℕ → ℕ) → i < n → ((j : ℕ) → j < n → j ≢ i → f j ≡ 0) → sum_to n f ≡ f i
sum_to-single zero i f l h = absurd (let z : ⊥ = omega arith in z)
sum_to-single (suc n) i f l h = ⊎_elim
    (λ (e : i ≡ n). omega (arith, sum_to-suc n f, sum_to-zeros n f (λ j u. h j (omega arith) (λ q. let z : ⊥ = omega arith in z)), ap f e))
    (λ (g : i < n). omega (arith, sum_to-suc n f, sum_to-single n i f g (λ j u. h j (omega arith)), h n (omega arith) (λ q. let z : ⊥ = omega arith in z)))
    (eq-or-lt_of_le (le_of_suc-le-suc l))

-- as many as there are numbers, each 1 or more, is at most their sum
pub sum_to-count : (n : ℕ) (f : ℕ → ℕ) → ((i : ℕ) → i < n → 1 ≤ f i) → n ≤ sum_to n f
sum_to-count zero f h = omega arith
sum_to-count (suc n) f h = omega (arith, sum_to-suc n f, sum_to-count n f (λ i l. h i (omega arith)), h n (omega arith))

-- a sum that is not 0 has summands
pub sum_to-some : (n : ℕ) (f : ℕ → ℕ) → 1 ≤ sum_to n f → 1 ≤ n
sum_to-some zero f l = absurd (let z = sum_to-zero f in let y : ⊥ = omega arith in y)
sum_to-some (suc n) f l = omega arith
