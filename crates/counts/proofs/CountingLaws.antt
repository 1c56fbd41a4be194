-- The steps of counting.
--   sets-bound, powers-bound      C(p, r) and C(D − 1, r) are small
--   split-made                    C(p, r + 1) · C(D − 1, r) is a count, and small
--   taken, total_first, taken-enough, taken_next, taken-all   what the counts leave of p^D
--   Writes, writes-none, writes-next, writes-all   words 1 to r are written, and at last word 0
-- Assumes nothing.
use Prim.Native.Nat.{ℕ, suc, ◌+◌, ◌-◌, ◌*◌, ◌^◌, min, ◌≤◌, ◌<◌}
use native.Mathlib.Nat.{pow-le-pow_right, pow-le-pow_left}
use native.Mathlib.Numerals.{add-one}
use native.Mathlib.Omega.{arith}
use mathlib.Core.Path.{◌≡◌, sym, ◌∙◌, ap, ap₂, subst}
use mathlib.Core.List.{List, [], ◌∷◌, ◌++◌}
use lib.ListN.{length, set}
use Rattle.algebra.specs.Sums.{sum_to}
use Rattle.algebra.proofs.SumsLaws.{sum_to-zero, sum_to-suc, sum_to-front, sum_to-mono}
use Rattle.numbers.specs.Words.{word, tabulate, over}
use Rattle.numbers.proofs.WordsLaws.{length-tabulate, tabulate-suc, tabulate-front, Writing, writing-later, writing-store, writing-first}
use Rattle.counts.specs.Counts.{subsets, counted, count_words, most_polynomials}
use Rattle.counts.specs.internal.Counting.{Countable}
use Rattle.counts.proofs.SubsetsLaws.{subsets-le, subsets-low}
use Rattle.counts.proofs.CountsLaws.{counts-formula, counts-total, counted-le}

-- what the first r counts come to, r = 0 left out
abbrev pub taken : (p D r : ℕ) → ℕ
taken p D r = sum_to r (λ i. counted p D (suc i))

module _ (p D : ℕ) (h : Countable p D) where
  pub sets-bound : (r : ℕ) → r ≤ D → subsets p r ≤ most_polynomials
  sets-bound r l =
      let t = h.prime.two-le in
      let y = pow-le-pow_right {n = p} (omega arith) l in
      omega (arith, subsets-le p r, h.total)

  pub powers-bound : (r : ℕ) → subsets (D - 1) r ≤ most_polynomials
  powers-bound r =
      let y = pow-le-pow_right {n = 2} (omega arith) {i = D - 1} {j = D} (omega arith) in
      let z = pow-le-pow_left h.prime.two-le D in
      omega (arith, subsets-low (D - 1) r, h.total)

  pub split-made : (r sets powers : ℕ) → sets ≡ subsets p (r + 1) → powers ≡ subsets (D - 1) r
      → (sets * powers ≡ counted p D (suc r)) × (sets * powers ≤ most_polynomials)
  split-made r sets powers e g =
      let z : sets * powers ≡ counted p D (suc r) =
      ap₂ ◌*◌ (e ∙ ap (subsets p) (add-one r)) (g ∙ ap (subsets (D - 1)) (let y : r ≡ suc r - 1 = omega arith in y)) ∙ sym (counts-formula p D (suc r) h.prime h.low (omega arith)) in
      (z, omega (arith, counted-le p D (suc r), h.total))

  all-taken : counted p D 0 + taken p D D ≡ p ^ D
  all-taken = sym (sum_to-front D (counted p D)) ∙ counts-total p D h.low

  pub total_first : (n : ℕ) → n ≡ min (p ^ D) (most_polynomials + 1) → n + taken p D 0 ≡ p ^ D
  total_first n e = let t = h.total in omega (arith, sum_to-zero (λ i. counted p D (suc i)))

  pub taken-enough : (r n : ℕ) → r < D → n + taken p D r ≡ p ^ D → counted p D (suc r) ≤ n
  taken-enough r n l e = omega (arith, sum_to-mono (suc r) D (λ i. counted p D (suc i)) l, sum_to-suc r (λ i. counted p D (suc i)), all-taken)

  pub taken_next : (r n : ℕ) → r < D → n + taken p D r ≡ p ^ D → n - counted p D (suc r) + taken p D (r + 1) ≡ p ^ D
  taken_next r n l e = let z = taken-enough r n l e in omega (arith, sum_to-suc r (λ i. counted p D (suc i)), ap (taken p D) (add-one r))

  pub taken-all : (r n : ℕ) → r ≡ D → n + taken p D r ≡ p ^ D → (n ≡ counted p D 0) × (n ≤ most_polynomials)
  taken-all r n q e = let z : n ≡ counted p D 0 = omega (arith, all-taken, ap (taken p D) q) in (z, omega (arith, counted-le p D 0, h.total))

-- words 1 to r are written over s
abbrev pub Writes : (p D r : ℕ) (s e : List ℕ) → Type 0
Writes p D r s = Writing (word s 0 ∷ tabulate r (λ i. counted p D (suc i))) s

pub writes-none : (p D : ℕ) (s : List ℕ) → 0 < length s → Writes p D 0 s s
unfolding tabulate
writes-none p D s l = writing-later s l

pub writes-next : (p D r n : ℕ) (s e : List ℕ) → Writes p D r s e → r + 1 < length s → n ≡ counted p D (suc r) → Writes p D (r + 1) s (set e (r + 1) n)
writes-next p D r n s e w l q =
    let xs = tabulate r (λ i. counted p D (suc i)) in
    subst (λ x. Writing (word s 0 ∷ x) s (set e (r + 1) n)) (ap (λ x. xs ++ (x ∷ [])) q ∙ sym (tabulate-suc r (λ i. counted p D (suc i))))
    (writing-store (word s 0 ∷ xs) s e (r + 1) n w (let z = length-tabulate r (λ i. counted p D (suc i)) in omega arith) l)

pub writes-all : (p D r n : ℕ) (s e : List ℕ) → Writes p D r s e → r ≡ D → n ≡ counted p D 0 → set e 0 n ≡ over (count_words p D) s
writes-all p D r n s e w q v =
    (writing-first (word s 0) n (tabulate r (λ i. counted p D (suc i))) s e w).is
    ∙ ap (λ (x : List ℕ). over x s) (ap₂ (λ x k. x ∷ tabulate k (λ i. counted p D (suc i))) v q ∙ sym (tabulate-front D (counted p D)))
