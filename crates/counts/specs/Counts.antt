-- How often a monic polynomial over F_p splits, by the number of its distinct roots.
--   lists p n            all lists of n words below p
--   count test ls        how many of the lists pass the test
--   subsets n r          C(n, r), the number of r-element subsets of n things: each is a rising list of r words below n
--   in_y p D f            the monic polynomial of degree D whose lower coefficients are f, as find is given it: one term of each row
--   root_count p D f      how many distinct roots it has
--   splits p D f         some powers of its roots, none of them 0, give it: find would not refuse it by 9
--   splits_with p D r f   it splits, and has exactly r distinct roots
--   counted p D r        how many of the monic polynomials of degree D split with r distinct roots; for r = 0, how many do not split
--   count_words p D       these numbers, from r = 0 up to D
--   most_polynomials      the most polynomials that are counted
--   many_check p D        refusal 24
--   counts_checks ..      the checks: refusals 1, 2, 3, 24 and 10; `room` is the length of the output
-- Assumes nothing.
use Rattle.std.specs.Prelude.{ℕ, zero, suc, ◌+◌, ◌^◌, Bool, not, ◌&&◌, List, [], ◌∷◌, ◌++◌, map, ltb, eqb, length}
use Rattle.numbers.specs.Words.{choose, rising, tabulate, each}
use Rattle.numbers.specs.Refusals.{Check, check, modulus_checks, degree_check, room_check}
use Rattle.sheet.specs.Sheet.{Given, whole_of}
use Rattle.open.specs.Open.{powers_of, is_none}
use Rattle.open.specs.Find.{with_roots}

unfoldable pub lists : ℕ → ℕ → List (List ℕ)
lists p zero = [] ∷ []
lists p (suc n) = each p (λ c. map (λ l. c ∷ l) (lists p n))

unfoldable pub count : (List ℕ → Bool) → List (List ℕ) → ℕ
count test [] = 0
count test (l ∷ ls) = choose (test l) 1 0 + count test ls

unfoldable pub subsets : ℕ → ℕ → ℕ
subsets n r = count rising (lists n r)

abbrev pub in_y : (p D : ℕ) → List ℕ → Given
in_y p D f = whole_of p D 1 (f ++ (1 ∷ [])) []

abbrev pub root_count : (p D : ℕ) → List ℕ → ℕ
root_count p D f = length (with_roots (in_y p D f)).roots

abbrev pub splits : (p D : ℕ) → List ℕ → Bool
splits p D f = not (is_none (powers_of (with_roots (in_y p D f))))

abbrev pub splits_with : (p D r : ℕ) → List ℕ → Bool
splits_with p D r f = splits p D f && eqb (root_count p D f) r

-- the polynomials themselves are counted, all p^D of them
unfoldable pub counted : (p D r : ℕ) → ℕ
counted p D zero = count (λ f. not (splits p D f)) (lists p D)
counted p D (suc r) = count (splits_with p D (suc r)) (lists p D)

abbrev pub count_words : (p D : ℕ) → List ℕ
count_words p D = tabulate (suc D) (counted p D)

abbrev pub most_polynomials : ℕ
most_polynomials = 65536

abbrev pub many_check : (p D : ℕ) → Check
many_check p D = check 24 (ltb most_polynomials (p ^ D)) 0

abbrev pub counts_checks : (p D room : ℕ) → List Check
counts_checks p D room = modulus_checks p ++ (degree_check D ∷ many_check p D ∷ room_check room (D + 1) ∷ [])
