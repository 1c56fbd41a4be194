-- The counts: C(p, r) · C(D − 1, r − 1) for r from 1 up, and p^D in all.
--   one-pair        a polynomial splits with r distinct roots exactly where one pair of r rising roots and their powers gives it
--   count-pairs     so there are as many as pairs
--   counts-formula  C(p, r) · C(D − 1, r − 1)
--   counts-total    each polynomial is counted once
--   counts-find     what does not split is what find refuses by 9
--   counted-le      no count is above the total
-- Assumes nothing.
use Prim.Native.Nat.{ℕ, zero, suc, ◌+◌, ◌-◌, ◌*◌, ◌^◌, ◌≤◌}
use native.Mathlib.Nat.{mul_comm}
use native.Mathlib.Omega.{arith}
use mathlib.Core.Path.{◌≡◌, refl, sym, ◌∙◌, ap, ap₂, subst, fun_ext}
use mathlib.Core.Logic.{◌↔◌}
use mathlib.Core.Bool.{Bool, true, false, not, ◌&&◌}
use mathlib.Core.Option.{some}
use mathlib.Core.List.{List}
use borrow.Author.Tests.{eqb-true, eq-eqb, ne_eqb, not-true, not-false}
use lib.Dec.{eqb}
use lib.ListN.{length}
use Rattle.algebra.specs.Prime.{Prime}
use Rattle.algebra.specs.Sums.{sum_to}
use Rattle.algebra.proofs.SumsLaws.{sum_to-front, sum_to-ext, sum_to-zeros, sum_to-single, sum_to-count, sum_to-some}
use Rattle.numbers.specs.Words.{word, rising}
use Rattle.numbers.specs.Refusals.{judge, refusal, unreduced, Pass, Refuse}
use Rattle.numbers.proofs.WordsLaws.{true-false}
use Rattle.numbers.proofs.RefusalsLaws.{both, reduced}
use Rattle.numbers.proofs.EnumerationLaws.{bit, none as no-sum, sum_over, sum_over-add, sum_over-scale, sum_over-swap, sum_over-sum_to, sum_over-every}
use Rattle.rootfinding.proofs.RootsLaws.{all-rising}
use Rattle.open.specs.Open.{choices, splits_test, powers_of, is_none}
use Rattle.open.specs.Find.{find_verdict}
use Rattle.open.proofs.OpenChecksLaws.{rows-passes}
use Rattle.open.proofs.FindLaws.{nine-none}
use Rattle.open.proofs.OpenLaws.{Powers, choices-enumerate, some_of, none_of, found}
use Rattle.counts.specs.Counts.{lists, count, subsets, in_y, root_count, splits, splits_with, counted, counts_checks}
use Rattle.counts.proofs.SubsetsLaws.{Member, lists-enumerate, length-lists, count-sum, count-le, subsets-sum, choice_count, choices-subsets}
use Rattle.counts.proofs.CheckLaws.{counts-pass}
use Rattle.counts.proofs.PolynomialsLaws.{listed, own, own_below, find-rows, one_way, one-polynomial}

both_bits : (a b : Bool) → (a ≡ true → b ≡ true → ⊥) → bit a * bit b ≡ 0
both_bits true true h = absurd (h refl refl)
both_bits true false h = refl
both_bits false b h = omega arith

-- a polynomial splits where powers of its roots are found
found-splits : (p D : ℕ) (f m : List ℕ) → powers_of (own p D f) ≡ some m → splits p D f ≡ true
found-splits p D f m e = ap (λ o. not (is_none o)) e

splits-found : (p D : ℕ) (f : List ℕ) → splits p D f ≡ true → (m : List ℕ) × (powers_of (own p D f) ≡ some m)
splits-found p D f e = some_of (powers_of (own p D f)) (not-true _ e)

-- it is counted under r where it splits, and has r roots
module _ (p D r : ℕ) (f : List ℕ) where
  with-splits : splits_with p D r f ≡ true → splits p D f ≡ true
  with-splits e = (both _ _ (ap not e)).0

  with-roots : splits_with p D r f ≡ true → root_count p D f ≡ r
  with-roots e = eqb-true (root_count p D f) r (both (splits p D f) _ (ap not e)).1

  splits-with : splits p D f ≡ true → root_count p D f ≡ r → splits_with p D r f ≡ true
  splits-with s n = ap₂ ◌&&◌ s (eq-eqb (root_count p D f) r n)

module _ {p : ℕ} (prime : Prime p) (D r : ℕ) where
  -- r roots, rising, and their powers, that give f
  abbrev pair_bit : List ℕ → List ℕ → List ℕ → ℕ
  pair_bit f c m = bit (rising c) * bit (splits_test (listed p D f c) m)

  abbrev pairs : List ℕ → ℕ
  pairs f = sum_over (lists p r) (λ c. sum_over (choices r D) (pair_bit f c))

  module _ (f : List ℕ) (hf : Member p D f) where
    pairs-none : splits_with p D r f ≡ false → pairs f ≡ 0
    pairs-none e =
        no-sum (lists-enumerate p r) (λ c. sum_over (choices r D) (pair_bit f c)) (λ c hc.
        no-sum (choices-enumerate r D) (pair_bit f c) (λ m hm. both_bits (rising c) (splits_test (listed p D f c) m) (λ up g.
        let (z, w) = one_way prime D f hf r c m hc hm up g in
        let n : root_count p D f ≡ r = ap (λ g. length g.roots) z ∙ hc.long in
        true-false (sym (splits-with p D r f (found-splits p D f m w) n) ∙ e))))

    pairs-one : splits_with p D r f ≡ true → pairs f ≡ 1
    pairs-one e =
        let long : root_count p D f ≡ r = with-roots p D r f e in
        let (m₀, q) = splits-found p D f (with-splits p D r f e) in
        let (h₀, t₀) = found (own p D f) m₀ q in
        let c₀ = (own p D f).roots in
        (lists-enumerate p r).single (λ c. sum_over (choices r D) (pair_bit f c)) c₀ (record { long = long; below = own_below prime D f })
        (λ c hc ne. no-sum (choices-enumerate r D) (pair_bit f c) (λ m hm.
        both_bits (rising c) (splits_test (listed p D f c) m) (λ up g. ne (sym (ap (λ g. g.roots) (one_way prime D f hf r c m hc hm up g).0)))))
        ∙ (choices-enumerate r D).single (pair_bit f c₀) m₀ (subst (λ n. Powers n D m₀) long h₀)
        (λ m hm ne. both_bits (rising c₀) (splits_test (listed p D f c₀) m) (λ up g.
        let w : some m ≡ some m₀ = sym (one_way prime D f hf r c₀ m (record { long = long; below = own_below prime D f }) hm up g).1 ∙ q in ne cc))
        ∙ ap₂ (λ a b. bit a * bit b) (all-rising p _) t₀

    one-pair : bit (splits_with p D r f) ≡ pairs f
    one-pair = go (splits_with p D r f) refl
      where
        go : (b : Bool) → splits_with p D r f ≡ b → bit (splits_with p D r f) ≡ pairs f
        go true e = ap bit e ∙ sym (pairs-one e)
        go false e = ap bit e ∙ sym (pairs-none e)

  count-pairs : count (splits_with p D r) (lists p D) ≡ subsets p r * choice_count r D
  count-pairs =
      count-sum (splits_with p D r) (lists p D)
      ∙ sum_over-every (Member p D) (lists p D) (λ f. bit (splits_with p D r f)) pairs (lists-enumerate p D).every one-pair
      ∙ sum_over-swap (lists p D) (lists p r) (λ f c. sum_over (choices r D) (pair_bit f c))
      ∙ sum_over-every (Member p r) (lists p r) _ (λ c. choice_count r D * bit (rising c)) (lists-enumerate p r).every (λ c hc.
      sum_over-swap (lists p D) (choices r D) (λ f m. pair_bit f c m)
      ∙ sum_over-every (Powers r D) (choices r D) _ (λ m. bit (rising c) * 1) (choices-enumerate r D).every (λ m hm.
      sum_over-scale (bit (rising c)) (lists p D) (λ f. bit (splits_test (listed p D f c) m)) ∙ ap (λ x. bit (rising c) * x) (one-polynomial prime D r c m hc hm))
      ∙ sum_over-scale (bit (rising c)) (choices r D) (λ _. 1) ∙ mul_comm (bit (rising c)) (choice_count r D))
      ∙ sum_over-scale (choice_count r D) (lists p r) (λ c. bit (rising c)) ∙ ap (λ x. choice_count r D * x) (sym (subsets-sum p r)) ∙ mul_comm (choice_count r D) (subsets p r)

pub counts-formula : (p D r : ℕ) → Prime p → 1 ≤ D → 1 ≤ r → counted p D r ≡ subsets p r * subsets (D - 1) (r - 1)
unfolding counted
counts-formula p zero r prime l g = absurd (let z : ⊥ = omega arith in z)
counts-formula p (suc D) zero prime l g = absurd (let z : ⊥ = omega arith in z)
counts-formula p (suc D) (suc r) prime l g =
    count-pairs prime (suc D) (suc r) ∙ ap (λ x. subsets p (suc r) * x) (choices-subsets r D)
    ∙ ap₂ (λ x y. subsets p (suc r) * subsets x y) (let z : D ≡ suc D - 1 = omega arith in z) (let z : r ≡ suc r - 1 = omega arith in z)

-- each polynomial is counted once
module _ (p D : ℕ) (degree : 1 ≤ D) (f : List ℕ) where
  abbrev s : ℕ
  s = root_count p D f

  abbrev split_bit : ℕ → ℕ
  split_bit i = bit (splits_with p D (suc i) f)

  some-roots : splits p D f ≡ true → (1 ≤ s) × (s ≤ D)
  some-roots e =
      let (m, q) = splits-found p D f e in
      let h = (found (own p D f) m q).0 in
      let z = h.sum in
      (sum_to-some s (word m) (omega arith), let y = sum_to-count s (word m) h.low in omega arith)

  counted-once : bit (not (splits p D f)) + sum_to D split_bit ≡ 1
  counted-once = go (splits p D f) refl
    where
      go : (b : Bool) → splits p D f ≡ b → bit (not (splits p D f)) + sum_to D split_bit ≡ 1
      go true e =
          let (l, h) = some-roots e in
          ap₂ ◌+◌ (ap (λ b. bit (not b)) e)
          (sum_to-single D (s - 1) split_bit (omega arith)
          (λ i u ne. ap₂ (λ a b. bit (a && b)) e (ne_eqb s (suc i) (λ q. ne (let z : i ≡ s - 1 = omega arith in z))))
          ∙ ap₂ (λ a b. bit (a && b)) e (eq-eqb s (suc (s - 1)) (let z : s ≡ suc (s - 1) = omega arith in z)))
      go false e = ap₂ ◌+◌ (ap (λ b. bit (not b)) e) (sum_to-zeros D split_bit (λ i u. ap (λ a. bit (a && eqb s (suc i))) e))

pub counts-total : (p D : ℕ) → 1 ≤ D → sum_to (suc D) (counted p D) ≡ p ^ D
unfolding counted
counts-total p D l =
    sum_to-front D (counted p D)
    ∙ ap₂ ◌+◌ (count-sum (λ f. not (splits p D f)) (lists p D))
    (sum_to-ext D (λ i _. count-sum (splits_with p D (suc i)) (lists p D)) ∙ sum_over-sum_to D (lists p D) (λ i f. bit (splits_with p D (suc i) f)))
    ∙ sym (sum_over-add (lists p D) (λ f. bit (not (splits p D f))) (λ f. sum_to D (λ i. bit (splits_with p D (suc i) f))))
    ∙ ap (sum_over (lists p D)) (fun_ext (counted-once p D l)) ∙ length-lists p D

pub counted-le : (p D r : ℕ) → counted p D r ≤ p ^ D
unfolding counted
counted-le p D zero = count-le _ p D
counted-le p D (suc r) = count-le _ p D

-- what does not split is what find refuses by 9
pub counts-find : (p D : ℕ) (f : List ℕ) → judge (counts_checks p D (D + 1)) ≡ Pass → length f ≡ D → unreduced p f ≡ false → (room : ℕ)
    → (find_verdict (in_y p D f) room ≡ Refuse (refusal 9 0)) ↔ (splits p D f ≡ false)
counts-find p D f pass long low room =
    let h = (counts-pass p D (D + 1) pass).0 in
    let prime = h.prime in
    let g = in_y p D f in
    let R = find-rows prime D f (record { long = long; below = reduced p f low }) (let z = h.small in omega arith) h.low h.high in
    let nine = nine-none g room (rows-passes g R) in
    (λ v. ap (λ o. not (is_none o)) (nine.0 v), λ e. nine.1 (none_of (powers_of (own p D f)) (not-false _ e)))
