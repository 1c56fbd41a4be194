-- A file that is longer than any right one.
--   too_long       it is refused by 1 to 4 as its head says, and else by 5
--   too-long-not   so it never passes
--   cut-same       and its verdict is that of its first bytes
-- Assumes nothing.
use Prim.Native.Nat.{ℕ, zero, suc, ◌+◌, ◌*◌, ◌≤◌, ◌<◌}
use native.Mathlib.Omega.{arith}
use mathlib.Core.Path.{◌≡◌, refl, sym, ap, ap₂, ◌∙◌}
use mathlib.Core.Bool.{Bool, true, false, ◌||◌, or-true}
use mathlib.Core.List.{List, [], ◌∷◌, ◌++◌}
use lib.Dec.{ltb, eqb}
use lib.ListN.{length, take}
use lib.Seq.{get_or-take, length-take-le}
use borrow.Author.Tests.{ltb-false, ne_eqb}
use Rattle.numbers.specs.Words.{word, choose, outside}
use Rattle.numbers.specs.Refusals.{Check, check, judge, modulus_checks, Pass}
use Rattle.numbers.proofs.RefusalsLaws.{after_same, pass-check, pass-parts, inside}
use Rattle.numbers.proofs.WordsLaws.{true-false}
use Rattle.job.specs.Limits.{most_degree, most_width, head_fields}
use Rattle.job.specs.Job.{number, is_wide, fields_from, field_size, place, field, job_modulus, job_degree, job_width, job_count, misplaced, job_checks}
use Rattle.job.specs.internal.Form.{longest_job}
use Rattle.job.proofs.JobLaws.{form_small, place-next, place_mono, place-few, place-head, words_small, past_head}

-- what is left of the checks where the length is wrong anyway
abbrev long_checks : (p D N : ℕ) → List Check
long_checks p D N = modulus_checks p ++ (check 3 (outside 1 most_degree D) 0 ∷ check 4 (outside 1 most_width N) 0 ∷ check 5 true 0 ∷ [])

-- within the limits no right file is so long
misplaced-long : (b : List ℕ) (D N : ℕ) → longest_job < length b → D ≤ most_degree → N ≤ most_width → (ltb most_degree (job_count b) || misplaced b D N) ≡ true
misplaced-long b D N h d n = go (ltb most_degree (job_count b)) refl
  where
    go : (t : Bool) → ltb most_degree (job_count b) ≡ t → (t || misplaced b D N) ≡ true
    go true e = refl
    go false e =
        let r = ltb-false most_degree (job_count b) e in
        let w = words_small D N d n in
        let z = form_small b in
        let end : ℕ = head_fields + job_count b + (D + 1) * N in
        let short = place-few (field_size b) end z.2 (omega arith) in
        simp (ne_eqb (length b) (place b end) (λ q. let z : ⊥ = omega arith in z), or-true)

-- a later check that applies wherever it is asked
last-applies : (a b x : Bool) → (a ≡ false → b ≡ false → x ≡ true) → judge (check 3 a 0 ∷ check 4 b 0 ∷ check 5 x 0 ∷ []) ≡ judge (check 3 a 0 ∷ check 4 b 0 ∷ check 5 true 0 ∷ [])
unfolding judge
last-applies true b x h = refl
last-applies false true x h = refl
last-applies false false x h = ap (λ (t : Bool). judge (check 3 false 0 ∷ check 4 false 0 ∷ check 5 t 0 ∷ [])) (h refl refl)

pub too_long : (b : List ℕ) → longest_job < length b → judge (job_checks b) ≡ judge (long_checks (job_modulus b) (job_degree b) (job_width b))
too_long b h =
    past_head b (omega (arith, (place-head b).1))
    ∙ after_same (modulus_checks (job_modulus b)) _ _ (last-applies (outside 1 most_degree (job_degree b)) (outside 1 most_width (job_width b)) _
    (λ d n. misplaced-long b (job_degree b) (job_width b) h (inside 1 most_degree (job_degree b) d).1 (inside 1 most_width (job_width b) n).1))

pub too-long-not : {A : Type 0} (b : List ℕ) → longest_job < length b → judge (job_checks b) ≡ Pass → A
too-long-not b h e =
    let m = (pass-parts (modulus_checks (job_modulus b)) _ (sym (too_long b h) ∙ e)).1 in
    true-false (pass-check (check 5 true 0) [] (pass-check (check 4 _ 0) _ (pass-check (check 3 _ 0) _ m).1).1).0

-- two files with the same first 26 bytes have the same head
number_same : (b c : List ℕ) (at n : ℕ) → ((k : ℕ) → k < at + n → word b k ≡ word c k) → number b at n ≡ number c at n
unfolding number
number_same b c at zero h = refl
number_same b c at (suc n) h = ap₂ (λ (x y : ℕ). x + 256 * y) (h at (omega arith)) (number_same b c (suc at) n (λ k l. h k (omega arith)))

module _ (b c : List ℕ) (same : (k : ℕ) → k < 26 → word b k ≡ word c k) where
  wide-same : is_wide b ≡ is_wide c
  unfolding is_wide
  wide-same = ap (λ (x : ℕ). eqb x 0) (number_same b c 0 2 (λ k l. same k (omega arith)))

  from-same : fields_from b ≡ fields_from c
  unfolding fields_from
  from-same = ap (λ (w : Bool). choose w 2 0) wide-same

  size_same : field_size b ≡ field_size c
  unfolding field_size
  size_same = ap (λ (w : Bool). choose w 4 2) wide-same

  field-same : (i : ℕ) → i < head_fields → field b i ≡ field c i
  unfolding field
  field-same i h =
      let end : place b i + field_size b ≤ 26 = omega (arith, place-next b i, place_mono b (i + 1) head_fields (omega arith), (place-head b).1) in
      number_same b c (place b i) (field_size b) (λ k l. same k (omega arith))
      ∙ ap₂ (λ (x y : ℕ). number c (x + y * i) y) from-same size_same

pub cut-same : (b : List ℕ) (n : ℕ) → longest_job < n → n ≤ length b → judge (job_checks (take n b)) ≡ judge (job_checks b)
cut-same b n h l =
    let c = take n b in
    let long : length c ≡ n = length-take-le n b l in
    let same : (k : ℕ) → k < 26 → word c k ≡ word b k = λ k q. get_or-take n b k 0 (omega arith) in
    too_long c (omega arith)
    ∙ ap (λ (p : ℕ). judge (long_checks p (job_degree c) (job_width c))) (field-same c b same 0 (omega arith))
    ∙ ap₂ (λ (D N : ℕ). judge (long_checks (job_modulus b) D N)) (field-same c b same 1 (omega arith)) (field-same c b same 2 (omega arith))
    ∙ sym (too_long b (omega arith))
