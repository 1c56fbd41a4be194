-- Soundness as a test that computes. `sound-test` shows that it is `Sound`, so who believes the one need not read the other.
--   prime_test p          p is a prime
--   factors_test ..       the conditions of Hensel factors
--   header_test, body_test   the header, and what comes after it
--   sound_test s          all of them
-- Assumes nothing.
use Rattle.std.specs.Prelude.{ℕ, zero, suc, ◌+◌, ◌-◌, Bool, true, false, List, [], ◌∷◌, leb, ltb, eqb, length}
use Rattle.algebra.specs.Sums.{sum_to}
use Rattle.numbers.specs.Words.{word, all_to, all, least}
use Rattle.numbers.specs.Divisor.{least_divisor}
use Rattle.numbers.specs.Limits.{largest_modulus, largest_degree, largest_width}
use Rattle.series.specs.Known.{rows_known}
use Rattle.rows.specs.Rows.{unit, monic}
use Rattle.hensel.specs.Factors.{product, split, root_power}
use Rattle.layout.specs.Layout.{modulus, degree, width, terms, count, reach, known, lengths_from, header_of, root, power, end, polynomial, factor_rows, factor}

unfoldable pub prime_test : ℕ → Bool
prime_test p = all (leb 2 p ∷ eqb (least_divisor p) p ∷ [])

unfoldable pub factors_test : (p D k r : ℕ) (f : ℕ → ℕ → ℕ) (root power : ℕ → ℕ) (a : ℕ → ℕ → ℕ → ℕ) → Bool
factors_test p D k r f root power a =
    all (
    all_to (r - 1) (λ i. ltb (root i) (root (suc i)))
    ∷ all_to r (λ i. ltb (root i) p)
    ∷ all_to r (λ i. leb 1 (power i))
    ∷ eqb (sum_to r power) D
    ∷ all_to (suc D) (λ j. eqb (split p r root power j) (f j zero))
    ∷ all_to r (λ i. all_to (power i) (λ j. eqb (a i j zero) (root_power p (root i) (power i) j)))
    ∷ all_to (suc D) (λ j. all_to k (λ t. eqb (product p r (λ i. monic (power i) (a i)) j t) (f j t)))
    ∷ []
    )

unfoldable pub header_test : List ℕ → Bool
header_test s =
    all (
    prime_test (modulus s)
    ∷ leb (modulus s) largest_modulus
    ∷ leb 1 (degree s)
    ∷ leb (degree s) largest_degree
    ∷ leb (width s) largest_width
    ∷ leb 1 (terms s)
    ∷ leb (terms s) (reach s)
    ∷ all_to lengths_from (λ i. eqb (word s i) (word (header_of (modulus s) (degree s) (width s) (terms s) (count s) (reach s)) i))
    ∷ leb (end s) (length s)
    ∷ []
    )

unfoldable pub body_test : List ℕ → Bool
body_test s =
    all (
    all_to (suc (degree s)) (λ j. all_to (width s) (λ t. ltb (polynomial s j t) (modulus s)))
    ∷ all_to (width s) (λ t. eqb (polynomial s (degree s) t) (unit t))
    ∷ rows_known (width s) (degree s) (known s) (polynomial s)
    ∷ eqb (reach s) (least (width s) (degree s) (known s))
    ∷ factors_test (modulus s) (degree s) (terms s) (count s) (polynomial s) (root s) (power s) (factor s)
    ∷ all_to (degree s) (λ j. all_to (terms s) (λ t. ltb (factor_rows s j t) (modulus s)))
    ∷ all_to (degree s) (λ j. all_to (width s - terms s) (λ t. eqb (factor_rows s j (terms s + t)) 0))
    ∷ []
    )

unfoldable pub sound_test : List ℕ → Bool
sound_test s = elim (header_test s) [ true ↦ body_test s | false ↦ false ]
