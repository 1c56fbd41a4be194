-- Laws of the table of primes. The checker computes one test over the table (`table_test`, for each of its two parts): whether it is the list that trial division finds there. Then it is the
-- list of all primes there (`table_is`): it rises, holds primes only and misses none. So the search comes to the least divisor of every number below the square of the table's end
-- (`among-least`), and a number below 2^24 that no prime of the table up to its root divides is prime.
-- Assumes nothing.
use mathlib.Core.Path.{◌≡◌, refl, sym, ap, ap₂, subst, ◌∙◌}
use mathlib.Core.Bool.{Bool, true, false}
use mathlib.Core.Logic.{⊎_elim, ◌⊎◌, inl, inr}
use mathlib.Core.List.{List, [], ◌∷◌}
use Prim.Native.Nat.{ℕ, zero, suc, ◌+◌, ◌-◌, ◌*◌, ◌%◌, ◌≤◌, ◌<◌}
use native.Mathlib.Nat.{eq-zero-or-pos, le_of_suc-le-suc}
use native.Mathlib.Omega.{arith}
use native.Mathlib.Numerals.{add-one}
use borrow.Author.Tests.{eqb-true, eqb-false, ltb-true, ltb-false, lt-ltb, le-ltb, eq-eqb, ne_eqb}
use lib.Dec.{eqb, ltb}
use lib.ListN.{length, drop}
use lib.Seq.{drop-cons, drop-length}
use Rattle.algebra.specs.Prime.{Prime}
use Rattle.numbers.specs.Words.{word, choose, outside, all_where}
use Rattle.numbers.specs.Divisor.{least_divisor}
use Rattle.numbers.specs.internal.Limits.{modulus_bound, table_bound}
use Rattle.numbers.specs.internal.Primes.{is_prime, primes_between, first_among, in_table}
use Rattle.numbers.proofs.WordsLaws.{lt-or-ge, true-false, first_range}
use Rattle.numbers.proofs.TestsLaws.{both_true}
use Rattle.numbers.proofs.ListedLaws.{where-step, where-ext}
use Rattle.numbers.proofs.RefusalsLaws.{inside}
use Rattle.numbers.proofs.DivisorLaws.{None, none-two, none_more, composite-none, divisor-le, trial_divisor, trial-none, trial-divides, least-is, least-none, least-prime, prime-least, trial-prime}

-- The first divisor below 64, or the number itself: for a number below 64 times 64 that is the least divisor.
abbrev by_trial : ℕ → ℕ
by_trial k = choose (ltb (trial_divisor k 62) 64) (trial_divisor k 62) k

trial-least : (k : ℕ) → 2 ≤ k → k < 64 * 64 → least_divisor k ≡ by_trial k
trial-least k two small = at (ltb (trial_divisor k 62) 64) refl
  where
    at : (b : Bool) → ltb (trial_divisor k 62) 64 ≡ b → least_divisor k ≡ choose b (trial_divisor k 62) k
    at true e =
        let divides = trial-divides k 62 (ltb-true _ 64 e) in
        least-is k _ (first_range _ 2 62).0 (divisor-le k _ two divides) divides (trial-none k 62)
    at false e = prime-least (trial-prime k 64 two small (λ d lo hi. trial-none k 62 d lo (omega (arith, ltb-false (trial_divisor k 62) 64 e))))

-- The test of a part of the table, and what it says.
unfoldable pub same : List ℕ → List ℕ → Bool
same [] [] = true
same [] (y ∷ t) = false
same (x ∷ s) [] = false
same (x ∷ s) (y ∷ t) = choose (eqb x y) (same s t) false

same-eq : (s t : List ℕ) → same s t ≡ true → s ≡ t
unfolding same
same-eq [] [] e = refl
same-eq [] (y ∷ t) e = true-false (sym e)
same-eq (x ∷ s) [] e = true-false (sym e)
same-eq (x ∷ s) (y ∷ t) e = let (here, rest) = both_true (eqb x y) (same s t) e in ap₂ ◌∷◌ (eqb-true x y here) (same-eq s t rest)

abbrev table_test : ℕ → ℕ → List ℕ → Bool
table_test a b s = same s (all_where (λ k. eqb (by_trial k) k) a (b - a))

pub table_is : (a b : ℕ) (s : List ℕ) → 2 ≤ a → b ≤ table_bound → table_test a b s ≡ true → s ≡ primes_between a b
table_is a b s two small e =
    same-eq s (all_where (λ k. eqb (by_trial k) k) a (b - a)) e
    ∙ where-ext (λ k. eqb (by_trial k) k) is_prime a (b - a) (λ k lo hi. ap (λ r. eqb r k) (sym (trial-least k (omega arith) (omega arith))))

-- The search, one number after the other.
in-table-head : (x : ℕ) (b c : Bool) → outside 2 (table_bound - 1) x ≡ b → choose b false c ≡ true → (2 ≤ x) × (x < table_bound) × (c ≡ true)
in-table-head x true c o e = true-false (sym e)
in-table-head x false c o e = let (low, high) = inside 2 (table_bound - 1) x o in (low, omega arith, e)

pub in-table-at : (s : List ℕ) → in_table s ≡ true → (i : ℕ) → i < length s → (2 ≤ word s i) × (word s i < table_bound)
unfolding in_table
in-table-at [] e i l = absurd (let z : ⊥ = omega arith in z)
in-table-at (x ∷ s) e zero l = let (low, high, _) = in-table-head x _ (in_table s) refl e in (low, high)
in-table-at (x ∷ s) e (suc i) l = in-table-at s (in-table-head x _ (in_table s) refl e).2 i (le_of_suc-le-suc l)

among-step : (p : ℕ) (s : List ℕ) (i : ℕ) → i < length s
    → first_among p (drop i s) ≡ choose (ltb p (word s i * word s i)) p (choose (eqb (p % word s i) 0) (word s i) (first_among p (drop (suc i) s)))
unfolding first_among
among-step p s i l = ap (first_among p) (drop-cons s i 0 l)

pub among-end : (p : ℕ) (s : List ℕ) (i : ℕ) → i ≡ length s → first_among p (drop i s) ≡ p
unfolding first_among
among-end p s i e = ap (λ k. first_among p (drop k s)) e ∙ ap (first_among p) (drop-length s)

pub among-past : (p : ℕ) (s : List ℕ) (i : ℕ) → i < length s → p < word s i * word s i → first_among p (drop i s) ≡ p
among-past p s i l h = among-step p s i l ∙ rw (lt-ltb p (word s i * word s i) h)

pub among-found : (p : ℕ) (s : List ℕ) (i : ℕ) → i < length s → word s i * word s i ≤ p → p % word s i ≡ 0 → first_among p (drop i s) ≡ word s i
among-found p s i l h e = among-step p s i l ∙ rw (le-ltb p (word s i * word s i) h, eq-eqb (p % word s i) 0 e)

pub among_next : (p : ℕ) (s : List ℕ) (i : ℕ) → i < length s → word s i * word s i ≤ p → (p % word s i ≡ 0 → ⊥) → first_among p (drop i s) ≡ first_among p (drop (i + 1) s)
among_next p s i l h n =
    among-step p s i l ∙ rw (le-ltb p (word s i * word s i) h, ne_eqb (p % word s i) 0 n, add-one i)

-- Where no number below d divides p, the search among the primes from d on comes to the least divisor; or it comes to p, and no number below the end divides p.
abbrev Comes : ℕ → ℕ → List ℕ → Type 0
Comes p end s = (first_among p s ≡ least_divisor p) ⊎ ((first_among p s ≡ p) × None p end)

comes-prime : (p d end : ℕ) (s : List ℕ) → 2 ≤ p → 2 ≤ d → None p d → (None p (d + 1) → Comes p end s) → Comes p end (d ∷ s)
comes-prime p d end s two low none rest =
    ⊎_elim (λ (l : p < d * d). inl (among-past p (d ∷ s) 0 (omega arith) l ∙ sym (prime-least (trial-prime p d two l none))))
    (λ (g : d * d ≤ p).
    ⊎_elim (λ (e : p % d ≡ 0). inl (among-found p (d ∷ s) 0 (omega arith) g e ∙ sym (least-is p d low (divisor-le p d two e) e none)))
    (λ (h : 0 < p % d).
    let n : p % d ≡ 0 → ⊥ = λ e. omega arith in
    subst (λ r. (r ≡ least_divisor p) ⊎ ((r ≡ p) × None p end)) (sym (among_next p (d ∷ s) 0 (omega arith) g n)) (rest (none_more p d none n)))
    (eq-zero-or-pos (p % d)))
    (lt-or-ge p (d * d))

comes : (p d n end : ℕ) → end ≡ d + n → 2 ≤ p → 2 ≤ d → None p d → Comes p end (all_where is_prime d n)
unfolding all_where first_among
comes p d zero end e two low none = inr (refl, subst (None p) (let z : d ≡ end = omega arith in z) none)
comes p d (suc n) end e two low none =
    let rest : None p (d + 1) → Comes p end (all_where is_prime (suc d) n) = λ h. comes p (suc d) n end (omega arith) two (omega arith) (subst (None p) (add-one d) h) in
    where-step is_prime d n (Comes p end)
    (λ _. comes-prime p d end (all_where is_prime (suc d) n) two low none rest)
    (λ f. rest (none_more p d none (composite-none p d low none (eqb-false (least_divisor d) d f))))

between : (p a b : ℕ) → 2 ≤ p → 2 ≤ a → a ≤ b → None p a → Comes p b (primes_between a b)
between p a b two low le none = comes p a (b - a) b (omega arith) two low none

-- So below b times b every answer is the least divisor: a number there that no prime up to its root divides is prime.
pub among-least : (p a b : ℕ) → 2 ≤ p → 2 ≤ a → a ≤ b → None p a → p < b * b → first_among p (primes_between a b) ≡ least_divisor p
among-least p a b two low le none small =
    ⊎_elim (λ (e : first_among p (primes_between a b) ≡ least_divisor p). e) (λ h. h.0 ∙ sym (prime-least (trial-prime p b two small h.1))) (between p a b two low le none)

-- An answer below p always is; and where the answer is p, no number below b divides p.
pub among_below : (p a b : ℕ) → 2 ≤ p → 2 ≤ a → a ≤ b → None p a → first_among p (primes_between a b) < p → first_among p (primes_between a b) ≡ least_divisor p
among_below p a b two low le none l =
    ⊎_elim (λ (e : first_among p (primes_between a b) ≡ least_divisor p). e) (λ h. absurd (omega (arith, h.0))) (between p a b two low le none)

pub among_none : (p a b : ℕ) → 2 ≤ p → 2 ≤ a → a ≤ b → None p a → p ≤ first_among p (primes_between a b) → b ≤ p → None p b
among_none p a b two low le none l large =
    ⊎_elim (λ (e : first_among p (primes_between a b) ≡ least_divisor p). λ k lo hi. least-none p k lo (omega arith)) (λ h. h.1) (between p a b two low le none)

-- And so, of the whole table: a number from 2 to 16,777,215 that no prime of it up to the number's root divides is prime.
pub table-prime : (p : ℕ) → 2 ≤ p → p < modulus_bound → first_among p (primes_between 2 table_bound) ≡ p → Prime p
table-prime p two small e = least-prime p two (omega (arith, e, among-least p 2 table_bound two (omega arith) (omega arith) (none-two p) small))
