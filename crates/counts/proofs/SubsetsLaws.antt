-- All lists of n words below p, and how many of them rise: the number of subsets.
--   Member, lists-enumerate   what `lists p n` lists
--   count-sum, count-le       a count is a sum of bits, and at most p^n
--   pascal n r                C(n, r) by Pascal's rule
--   subsets-pascal            it is the number of rising lists
--   choices-subsets           there are C(D − 1, r − 1) lists of r numbers, each 1 or more, whose sum is D
--   subsets-none, subsets-past, subsets-next   C(n, r) from C(n, 0) up
--   subsets-le, subsets-low   bounds
-- Assumes nothing.
use Prim.Native.Nat.{ℕ, zero, suc, ◌+◌, ◌-◌, ◌*◌, ◌^◌, ◌/◌, ◌≤◌, ◌<◌}
use native.Mathlib.Nat.{not-suc-le-zero, pow-zero, pow-succ', two-pow-succ, mul-zero, one-le-pow, div-eq_of_eq-mul_left}
use native.Mathlib.Numerals.{add-one}
use native.Mathlib.Omega.{arith}
use mathlib.Core.Path.{◌≡◌, refl, sym, ◌∙◌, ap, ap₂, fun_ext}
use mathlib.Core.Logic.{◌⊎◌, inl, inr}
use mathlib.Core.Bool.{Bool, true, false}
use mathlib.Core.List.{List, [], ◌∷◌}
use borrow.Author.Tests.{lt-ltb, le-ltb}
use lib.Dec.{ltb}
use lib.ListN.{length}
use Rattle.algebra.specs.Sums.{sum_to}
use Rattle.algebra.proofs.SumsLaws.{sum_to-zero, sum_to-front, sum_to-ext, sum_to-zeros, sum_to-append, sum_to-const}
use Rattle.numbers.specs.Words.{word, choose, all_to, rising}
use Rattle.numbers.specs.internal.Facts.{AllBelow}
use Rattle.numbers.proofs.WordsLaws.{lt-or-ge}
use Rattle.numbers.proofs.TestsLaws.{all_to-front}
use Rattle.numbers.proofs.EnumerationLaws.{bit, sum_over, sum_over-add, sum_over-zeros, sum_over-heads, Enumerates, alone, by-head}
use Rattle.open.specs.Open.{choices}
use Rattle.counts.specs.Counts.{lists, count, subsets}

-- n words below p
pub record Member (p n : ℕ) (l : List ℕ) : Type 0 where
  pub long : length l ≡ n
  pub below : AllBelow p l

pub lists-enumerate : (p n : ℕ) → Enumerates (lists p n) (Member p n)
unfolding lists
lists-enumerate p zero = alone (Member p zero) (record { long = refl; below = λ k l. absurd (not-suc-le-zero l) }) (λ x h. h.long)
lists-enumerate p (suc n) = by-head p (λ c. c) (λ i j e. e) (λ _. lists p n) (Member p (suc n)) (λ _. Member p n) (λ _ _. lists-enumerate p n) put parts
  where
    put : (c : ℕ) → c < p → (l : List ℕ) → Member p n l → Member p (suc n) (c ∷ l)
    put c u l h = record { long = ap suc h.long; below = elim [ zero ↦ λ g. u | suc k ↦ λ g. h.below k (omega arith) ] }

    parts : (x : List ℕ) → Member p (suc n) x → (c : ℕ) × (l : List ℕ) × (c < p) × Member p n l × (c ∷ l ≡ x)
    parts [] h = absurd (let z = h.long in let w : ⊥ = omega arith in w)
    parts (c ∷ l) h = (c, l, h.below zero (omega arith), record { long = let z = h.long in omega arith; below = λ k g. h.below (suc k) (omega arith) }, refl)

-- by the first word
sum-none : (p : ℕ) (h : List ℕ → ℕ) → sum_over (lists p zero) h ≡ h []
unfolding lists sum_over
sum-none p h = omega arith

sum-lists : (p n : ℕ) (h : List ℕ → ℕ) → sum_over (lists p (suc n)) h ≡ sum_to p (λ c. sum_over (lists p n) (λ l. h (c ∷ l)))
unfolding lists
sum-lists p n h = sum_over-heads p (λ c. c) (λ _. lists p n) h

-- there are p^n
pub length-lists : (p n : ℕ) → sum_over (lists p n) (λ _. 1) ≡ p ^ n
length-lists p zero = sum-none p (λ _. 1) ∙ sym (pow-zero p)
length-lists p (suc n) = sum-lists p n (λ _. 1) ∙ sum_to-ext p (λ c _. length-lists p n) ∙ sum_to-const p (p ^ n) ∙ sym (pow-succ' p n)

pub count-sum : (test : List ℕ → Bool) (ls : List (List ℕ)) → count test ls ≡ sum_over ls (λ l. bit (test l))
unfolding count sum_over
count-sum test [] = refl
count-sum test (l ∷ ls) = ap (λ x. bit (test l) + x) (count-sum test ls)

-- those that pass, and those that don't
pub count-le : (test : List ℕ → Bool) (p n : ℕ) → count test (lists p n) ≤ p ^ n
count-le test p n =
    let z = sum_over-add (lists p n) (λ l. bit (test l)) (λ l. choose (test l) 0 1) in
    let y : sum_over (lists p n) (λ l. bit (test l) + choose (test l) 0 1) ≡ p ^ n = ap (sum_over (lists p n)) (fun_ext (λ l. one (test l))) ∙ length-lists p n in
    omega (arith, count-sum test (lists p n))
  where
    one : (b : Bool) → bit b + choose b 0 1 ≡ 1
    one true = refl
    one false = refl

unfoldable pascal : ℕ → ℕ → ℕ
pascal n zero = 1
pascal zero (suc r) = 0
pascal (suc n) (suc r) = pascal n r + pascal n (suc r)

pascal-one : (n : ℕ) → pascal n zero ≡ 1
unfolding pascal
pascal-one n = refl

pascal-none : (r : ℕ) → pascal zero (suc r) ≡ 0
unfolding pascal
pascal-none r = refl

pascal-suc : (n r : ℕ) → pascal (suc n) (suc r) ≡ pascal n r + pascal n (suc r)
unfolding pascal
pascal-suc n r = refl

-- g (d − 1) + .. + g 0, the first summand taken off
falling : (d : ℕ) (g : ℕ → ℕ) → sum_to (suc d) (λ i. g (suc d - suc i)) ≡ g d + sum_to d (λ i. g (d - suc i))
falling d g =
    sum_to-front d (λ i. g (suc d - suc i))
    ∙ ap₂ ◌+◌ (ap g (let z : suc d - 1 ≡ d = omega arith in z)) (sum_to-ext d (λ i l. ap g (let z : suc d - suc (suc i) ≡ d - suc i = omega arith in z)))

column-sum : (d r : ℕ) → sum_to d (λ i. pascal (d - suc i) r) ≡ pascal d (suc r)
column-sum zero r = sum_to-zero _ ∙ sym (pascal-none r)
column-sum (suc d) r = falling d (λ n. pascal n r) ∙ ap (λ x. pascal d r + x) (column-sum d r) ∙ sym (pascal-suc d r)

-- a rising list, by its first two words
rising-cons : (k c : ℕ) (l : List ℕ) (b : Bool) → ltb k c ≡ b → rising (k ∷ c ∷ l) ≡ choose b (rising (c ∷ l)) false
rising-cons k c l b e =
    let n = length l in
    ap (λ n. all_to n (λ i. ltb (word (k ∷ c ∷ l) i) (word (c ∷ l) i))) (let z : suc (suc n) - 1 ≡ suc n = omega arith in z)
    ∙ all_to-front n (λ i. ltb (word (k ∷ c ∷ l) i) (word (c ∷ l) i))
    ∙ ap₂ (λ (b : Bool) n. choose b (all_to n (λ i. ltb (word (c ∷ l) i) (word l i))) false) e (let z : n ≡ suc n - 1 = omega arith in z)

rising-one : (k : ℕ) → rising (k ∷ []) ≡ true
unfolding all_to
rising-one k = refl

-- the rising lists of words above k
rising-above : (p r k : ℕ) → k < p → sum_over (lists p r) (λ l. bit (rising (k ∷ l))) ≡ pascal (p - suc k) r
rising-above p zero k g = sum-none p (λ l. bit (rising (k ∷ l))) ∙ ap bit (rising-one k) ∙ sym (pascal-one (p - suc k))
rising-above p (suc r) k g =
    let f : ℕ → ℕ = λ c. sum_over (lists p r) (λ l. bit (rising (k ∷ c ∷ l))) in
    let e : suc k + (p - suc k) ≡ p = omega arith in
    sum-lists p r (λ l. bit (rising (k ∷ l))) ∙ ap (λ n. sum_to n f) (sym e) ∙ sum_to-append (suc k) (p - suc k) f
    ∙ ap₂ ◌+◌
    (sum_to-zeros (suc k) f (λ c u. ap (sum_over (lists p r)) (fun_ext (λ l. ap bit (rising-cons k c l false (le-ltb k c (omega arith))))) ∙ sum_over-zeros (lists p r)))
    (sum_to-ext (p - suc k) (λ i u.
    ap (sum_over (lists p r)) (fun_ext (λ l. ap bit (rising-cons k (suc k + i) l true (lt-ltb k (suc k + i) (omega arith)))))
    ∙ rising-above p r (suc k + i) (omega arith) ∙ ap (λ n. pascal n r) (let z : p - suc (suc k + i) ≡ p - suc k - suc i = omega arith in z)))
    ∙ (let z : 0 + sum_to (p - suc k) (λ i. pascal (p - suc k - suc i) r) ≡ sum_to (p - suc k) (λ i. pascal (p - suc k - suc i) r) = omega arith in z)
    ∙ column-sum (p - suc k) r

pub subsets-sum : (n r : ℕ) → subsets n r ≡ sum_over (lists n r) (λ l. bit (rising l))
unfolding subsets
subsets-sum n r = count-sum rising (lists n r)

subsets-pascal : (n r : ℕ) → subsets n r ≡ pascal n r
unfolding all_to
subsets-pascal n zero = subsets-sum n zero ∙ sum-none n (λ l. bit (rising l)) ∙ sym (pascal-one n)
subsets-pascal n (suc r) = subsets-sum n (suc r) ∙ sum-lists n r (λ l. bit (rising l)) ∙ sum_to-ext n (λ c u. rising-above n r c u) ∙ column-sum n r

-- how many lists of r numbers, each 1 or more, have the sum D
abbrev pub choice_count : ℕ → ℕ → ℕ
choice_count r D = sum_over (choices r D) (λ _. 1)

choices-heads : (r D : ℕ) → choice_count (suc r) D ≡ sum_to D (λ i. choice_count r (D - suc i))
unfolding choices
choices-heads r D = sum_over-heads D suc (λ i. choices r (D - suc i)) (λ _. 1)

choices-step : (r D : ℕ) → choice_count (suc r) (suc D) ≡ choice_count r D + choice_count (suc r) D
choices-step r D = choices-heads r (suc D) ∙ falling D (choice_count r) ∙ ap (λ x. choice_count r D + x) (sym (choices-heads r D))

choices-zero : (r : ℕ) → choice_count (suc r) zero ≡ 0
choices-zero r = choices-heads r zero ∙ sum_to-zero _

choices-none : (D : ℕ) → (choice_count zero zero ≡ 1) × (choice_count zero (suc D) ≡ 0)
unfolding choices sum_over
choices-none D = (refl, refl)

choices-pascal : (r D : ℕ) → choice_count (suc r) (suc D) ≡ pascal D r
choices-pascal zero zero = choices-step zero zero ∙ ap₂ ◌+◌ (choices-none zero).0 (choices-zero zero) ∙ sym (pascal-one zero)
choices-pascal zero (suc D) = choices-step zero (suc D) ∙ ap₂ ◌+◌ (choices-none D).1 (choices-pascal zero D ∙ pascal-one D) ∙ sym (pascal-one (suc D))
choices-pascal (suc r) zero = choices-step (suc r) zero ∙ ap₂ ◌+◌ (choices-zero r) (choices-zero (suc r)) ∙ sym (pascal-none r)
choices-pascal (suc r) (suc D) = choices-step (suc r) (suc D) ∙ ap₂ ◌+◌ (choices-pascal r D) (choices-pascal (suc r) D) ∙ sym (pascal-suc D r)

pub choices-subsets : (r D : ℕ) → choice_count (suc r) (suc D) ≡ subsets D r
choices-subsets r D = choices-pascal r D ∙ sym (subsets-pascal D r)

pub subsets-none : (n : ℕ) → subsets n 0 ≡ 1
subsets-none n = subsets-pascal n 0 ∙ pascal-one n

pascal-past : (n k : ℕ) → n < k → pascal n k ≡ 0
pascal-past n zero l = absurd (let z : ⊥ = omega arith in z)
pascal-past zero (suc k) l = pascal-none k
pascal-past (suc n) (suc k) l = omega (arith, pascal-suc n k, pascal-past n k (omega arith), pascal-past n (suc k) (omega arith))

pub subsets-past : (n k : ℕ) → n < k → subsets n k ≡ 0
subsets-past n k l = subsets-pascal n k ∙ pascal-past n k l

next-step : (X Y Z r k : ℕ) → X * suc r ≡ Y * suc k → Z * suc (suc r) ≡ X * k → (X + Z) * suc (suc r) ≡ (Y + X) * suc k
next-step X Y Z r k e f = omega arith

-- C(n, r + 1) · (r + 1) = C(n, r) · (n − r)
pascal-next : (n r : ℕ) → pascal n (suc r) * suc r ≡ pascal n r * (n - r)
pascal-next zero r =
    ap (λ x. x * suc r) (pascal-none r) ∙ (let z : 0 * suc r ≡ 0 = omega arith in z)
    ∙ sym (ap (λ x. pascal zero r * x) (let z : 0 - r ≡ 0 = omega arith in z) ∙ mul-zero (pascal zero r))
pascal-next (suc n) zero =
    let z : pascal n 1 * 1 ≡ pascal n zero * (n - 0) = pascal-next n zero in
    let y : pascal n zero * (n - 0) ≡ n - 0 = ap (λ x. x * (n - 0)) (pascal-one n) ∙ (let w : 1 * (n - 0) ≡ n - 0 = omega arith in w) in
    ap (λ x. x * 1) (pascal-suc n zero ∙ ap (λ x. x + pascal n 1) (pascal-one n)) ∙ (let w : (1 + pascal n 1) * 1 ≡ 1 * (suc n - 0) = omega arith in w)
    ∙ ap (λ x. x * (suc n - 0)) (sym (pascal-one (suc n)))
pascal-next (suc n) (suc r) =
    ap (λ x. x * suc (suc r)) (pascal-suc n (suc r))
    ∙ go (lt-or-ge r n) (pascal-next n r) (pascal-next n (suc r))
    ∙ ap₂ ◌*◌ (sym (pascal-suc n r)) (let z : n - r ≡ suc n - suc r = omega arith in z)
  where
    go : (r < n) ⊎ (n ≤ r) → pascal n (suc r) * suc r ≡ pascal n r * (n - r) → pascal n (suc (suc r)) * suc (suc r) ≡ pascal n (suc r) * (n - suc r)
        → (pascal n (suc r) + pascal n (suc (suc r))) * suc (suc r) ≡ (pascal n r + pascal n (suc r)) * (n - r)
    go (inl l) e f =
        let k : n - r ≡ suc (n - suc r) = omega arith in
        next-step (pascal n (suc r)) (pascal n r) (pascal n (suc (suc r))) r (n - suc r) (e ∙ ap (λ x. pascal n r * x) k) f
        ∙ ap (λ x. (pascal n r + pascal n (suc r)) * x) (sym k)
    go (inr l) e f =
        ap₂ (λ u v. (u + v) * suc (suc r)) (pascal-past n (suc r) (omega arith)) (pascal-past n (suc (suc r)) (omega arith)) ∙ (let z : (0 + 0) * suc (suc r) ≡ 0 = omega arith in z)
        ∙ sym (ap (λ x. (pascal n r + pascal n (suc r)) * x) (let k : n - r ≡ 0 = omega arith in k) ∙ mul-zero (pascal n r + pascal n (suc r)))

pub subsets-next : (n i : ℕ) → subsets n i * (n - i) / (i + 1) ≡ subsets n (i + 1)
subsets-next n i =
    ap₂ (λ x y. x * (n - i) / y) (subsets-pascal n i) (add-one i)
    ∙ div-eq_of_eq-mul_left (omega arith) (sym (pascal-next n i)) ∙ sym (subsets-pascal n (suc i)) ∙ ap (subsets n) (sym (add-one i))

-- C(n, r) ≤ n^r, and ≤ 2^n
pub subsets-le : (n r : ℕ) → subsets n r ≤ n ^ r
unfolding subsets
subsets-le n r = count-le rising n r

pascal-le : (n r : ℕ) → pascal n r ≤ 2 ^ n
pascal-le zero zero = omega (arith, pascal-one zero, pow-zero 2)
pascal-le zero (suc r) = omega (arith, pascal-none r)
pascal-le (suc n) zero = omega (arith, pascal-one (suc n), one-le-pow (suc n) 2 (omega arith))
pascal-le (suc n) (suc r) = omega (arith, pascal-suc n r, pascal-le n r, pascal-le n (suc r), two-pow-succ n)

pub subsets-low : (n r : ℕ) → subsets n r ≤ 2 ^ n
subsets-low n r = let z = pascal-le n r in omega (arith, subsets-pascal n r)
