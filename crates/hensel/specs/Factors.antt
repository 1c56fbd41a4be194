-- Hensel factors of a row polynomial, by their conditions.
--   root_power p c m j       the coefficient of Y^j of (Y − c)^m
--   product p n F           F 0 · F 1 · .. · F (n − 1)
--   flat a, one             the polynomial a in Y alone, and the polynomial 1
--   split p r root power j  the coefficient of Y^j of the product of the (Y − c_i)^(m_i)
--   IsFactors ..            the conditions: a i are the rows of factor i below its degree, power i
--   SameFactors ..          two factor lists agree below X^j
--   SamePolynomial ..       two polynomials agree below X^j
-- Roots, powers and factors are counted from 0 here.
-- Assumes nothing.
use Rattle.std.specs.Prelude.{ℕ, zero, suc, ◌-◌, ◌≤◌, ◌<◌, ◌≡◌}
use Rattle.algebra.specs.Sums.{sum_to}
use Rattle.rows.specs.Rows.{mul, line_power, unit, monic}

abbrev pub root_power : ℕ → ℕ → ℕ → ℕ → ℕ
root_power p c m j = line_power p (p - c) m j

-- a polynomial in Y alone
abbrev pub flat : (ℕ → ℕ) → ℕ → ℕ → ℕ
flat a j zero = a j
flat a j (suc t) = 0

abbrev pub one : ℕ → ℕ → ℕ
one zero t = unit t
one (suc j) t = 0

unfoldable pub product : ℕ → ℕ → (ℕ → ℕ → ℕ → ℕ) → ℕ → ℕ → ℕ
product p zero F = one
product p (suc n) F = mul p (F zero) (product p n (λ i. F (suc i)))

abbrev pub split : ℕ → ℕ → (ℕ → ℕ) → (ℕ → ℕ) → ℕ → ℕ
split p r root power j = product p r (λ i. flat (root_power p (root i) (power i))) j zero

pub record IsFactors (p D k r : ℕ) (f : ℕ → ℕ → ℕ) (root power : ℕ → ℕ) (a : ℕ → ℕ → ℕ → ℕ) : Type 0 where
  pub rising : (i : ℕ) → suc i < r → root i < root (suc i)
  pub reduced : (i : ℕ) → i < r → root i < p
  pub powers : (i : ℕ) → i < r → 1 ≤ power i
  pub degree : sum_to r power ≡ D
  pub splits : (j : ℕ) → j ≤ D → split p r root power j ≡ f j zero
  pub first : (i : ℕ) → i < r → (j : ℕ) → j < power i → a i j zero ≡ root_power p (root i) (power i) j
  pub same : (j : ℕ) → j ≤ D → (t : ℕ) → t < k → product p r (λ i. monic (power i) (a i)) j t ≡ f j t

pub record SameFactors (j r r' : ℕ) (root root' power power' : ℕ → ℕ) (a a' : ℕ → ℕ → ℕ → ℕ) : Type 0 where
  pub counts : r ≡ r'
  pub roots : (i : ℕ) → i < r → root i ≡ root' i
  pub powers : (i : ℕ) → i < r → power i ≡ power' i
  pub columns : (i : ℕ) → i < r → (q : ℕ) → q < power i → (t : ℕ) → t < j → a i q t ≡ a' i q t

pub record SamePolynomial (j D D' : ℕ) (f f' : ℕ → ℕ → ℕ) : Type 0 where
  pub degrees : D ≡ D'
  pub columns : (q : ℕ) → q ≤ D → (t : ℕ) → t < j → f q t ≡ f' q t
