-- Laws of a job file.
--   number-start, number_more, number-done, number_fits   a number read byte after byte, from the last one down
--   form_small, wide_form, narrow-form       the form is one of two, by the first word
--   narrow-reads                             fields of two bytes
--   placed, place-next, place_mono, place-few, place-head   where fields stand
--   job-short, past_head, job-refused, job-sizes   what the checks come to, one after the other
--   words_small, loaded                      how many words the rows have; fields where they were loaded
--   job-pass                                 what is known of a job whose own checks pass
-- Assumes nothing.
use Prim.Native.Nat.{ℕ, zero, suc, ◌+◌, ◌-◌, ◌*◌, ◌≤◌, ◌<◌}
use native.Mathlib.Nat.{le_refl, mul-le-mul, mul-add}
use native.Mathlib.Omega.{arith}
use mathlib.Core.Path.{◌≡◌, refl, ap, ap₂, ◌∙◌}
use mathlib.Core.Bool.{Bool, true, false, not, ◌||◌}
use mathlib.Core.List.{List, [], ◌∷◌, ◌++◌}
use lib.Dec.{ltb, eqb}
use lib.ListN.{length}
use borrow.Author.Tests.{lt-ltb, le-ltb, ltb-false, eqb-true, eq-eqb, ne_eqb, not-false}
use Rattle.numbers.specs.Words.{word, choose, outside}
use Rattle.numbers.specs.Refusals.{check, judge, refusal, modulus_checks, Row, Pass, Refuse}
use Rattle.numbers.proofs.RefusalsLaws.{take-check, skip-check, after-pass, after-refuse, pass-check, pass-parts, neither, inside}
use Rattle.numbers.proofs.WordsLaws.{Writing, over-whole, length-tabulate}
use Rattle.job.specs.declared.Form.{Form}
use Rattle.job.specs.Limits.{most_degree, most_width, head_fields}
use Rattle.job.specs.Job.{number, is_wide, fields_from, field_size, place, field, fields, job_modulus, job_degree, job_width, job_count, misplaced, place_checks, size_checks, job_checks}
use Rattle.job.specs.internal.Form.{FormIs, rows_room, most_fields, bytes_bound}

-- A number read from its last byte down: `left` bytes are still to come.
pub number-start : (b : List ℕ) (at size : ℕ) → (0 ≡ number b (at + size) (size - size)) × (0 < bytes_bound (size - size))
unfolding number bytes_bound
number-start b at size = let e : size - size ≡ 0 = omega arith in rw e (refl, omega arith)

pub number_more : (b : List ℕ) (at size left value byte : ℕ) → 0 < left → left ≤ size → value ≡ number b (at + left) (size - left) → value < bytes_bound (size - left)
    → byte ≡ word b (at + (left - 1)) → byte < 256
    → (byte + 256 * value ≡ number b (at + (left - 1)) (size - (left - 1))) × (byte + 256 * value < bytes_bound (size - (left - 1)))
unfolding number bytes_bound
number_more b at size left value byte some within is small here low =
    let k : ℕ = size - left in
    let e : size - (left - 1) ≡ suc k = omega arith in
    let a : at + left ≡ suc (at + (left - 1)) = omega arith in
    rw e (ap₂ (λ (x y : ℕ). x + 256 * y) here (is ∙ ap (λ (x : ℕ). number b x k) a), omega arith)

pub number-done : (b : List ℕ) (at size left value : ℕ) → value ≡ number b (at + left) (size - left) → left ≡ 0 → value ≡ number b at size
number-done b at size left value is e = is ∙ ap₂ (number b) (let z : at + left ≡ at = omega arith in z) (let z : size - left ≡ size = omega arith in z)

-- three bytes leave room for one more in 32 bits
pub number_fits : (n value : ℕ) → n ≤ 3 → value < bytes_bound n → value < 16777216
unfolding bytes_bound
number_fits zero value h l = omega arith
number_fits (suc zero) value h l = omega arith
number_fits (suc (suc zero)) value h l = omega arith
number_fits (suc (suc (suc zero))) value h l = omega arith
number_fits (suc (suc (suc (suc n)))) value h l = omega arith

-- the form is one of two
pub form_small : (b : List ℕ) → (fields_from b ≤ 2) × (2 ≤ field_size b) × (field_size b ≤ 4)
unfolding fields_from field_size
form_small b = go (is_wide b)
  where
    go : (w : Bool) → (choose w 2 0 ≤ 2) × (2 ≤ choose w 4 2) × (choose w 4 2 ≤ 4)
    go true = (omega arith, omega arith, omega arith)
    go false = (omega arith, omega arith, omega arith)

-- it is known by the first word
form : (b : List ℕ) (f : Form) → f.first ≡ fields_from b → f.size ≡ field_size b → FormIs b f
form b f e s = let z = form_small b in record { first-is = e; size_is = s; first-high = omega arith; size_low = omega arith; size-high = omega arith }

pub wide_form : (b : List ℕ) (f : Form) → number b 0 2 ≡ 0 → f.first ≡ 2 → f.size ≡ 4 → FormIs b f
unfolding fields_from field_size is_wide
wide_form b f zeros e s = let w = eq-eqb (number b 0 2) 0 zeros in form b f (rw w e) (rw w s)

pub narrow-form : (b : List ℕ) (f : Form) → (number b 0 2 ≡ 0 → ⊥) → f.first ≡ 0 → f.size ≡ 2 → FormIs b f
unfolding fields_from field_size is_wide
narrow-form b f other e s = let w = ne_eqb (number b 0 2) 0 other in form b f (rw w e) (rw w s)

-- a file that does not begin with a word of 0 has its fields, of two bytes, from its beginning on
pub narrow-reads : (b : List ℕ) (i : ℕ) → 0 < word b 0 + 256 * word b 1 → (field b i ≡ word b (2 * i) + 256 * word b (2 * i + 1)) × (place b i ≡ 2 * i)
unfolding field fields_from field_size is_wide number
narrow-reads b i h =
    let low : word b (0 + 2 * i) ≡ word b (2 * i) = ap (word b) (let z : 0 + 2 * i ≡ 2 * i = omega arith in z) in
    let high : word b (suc (0 + 2 * i)) ≡ word b (2 * i + 1) = ap (word b) (let z : suc (0 + 2 * i) ≡ 2 * i + 1 = omega arith in z) in
    rw (ne_eqb (word b 0 + 256 * (word b 1 + 256 * 0)) 0 (λ e. let z : ⊥ = omega arith in z)) (omega arith, omega arith)

-- where fields stand
pub placed : (b : List ℕ) (f : Form) (i : ℕ) → FormIs b f → f.first + f.size * i ≡ place b i
placed b f i is = ap₂ (λ (x y : ℕ). x + y * i) is.first-is is.size_is

pub place-next : (b : List ℕ) (i : ℕ) → place b (i + 1) ≡ place b i + field_size b
place-next b i = omega (arith, mul-add (field_size b) i 1)

pub place_mono : (b : List ℕ) (i k : ℕ) → i ≤ k → place b i ≤ place b k
place_mono b i k h = let m : field_size b * i ≤ field_size b * k = mul-le-mul (le_refl (field_size b)) h in omega arith

pub place-few : (size i : ℕ) → size ≤ 4 → i ≤ most_fields → size * i ≤ 3400
place-few size i s h = mul-le-mul s h

-- so a head has 12 bytes at least, and 26 at most
pub place-head : (b : List ℕ) → (12 ≤ place b head_fields) × (place b head_fields ≤ 26)
place-head b = let z = form_small b in (omega arith, omega arith)

-- the checks, one after the other
pub job-short : (b : List ℕ) → length b < place b head_fields → judge (job_checks b) ≡ Refuse (refusal 5 0)
job-short b h = take-check (check 5 (ltb (length b) (place b head_fields)) 0) _ (lt-ltb (length b) (place b head_fields) h)

pub past_head : (b : List ℕ) → place b head_fields ≤ length b → judge (job_checks b) ≡ judge (modulus_checks (job_modulus b) ++ size_checks b)
past_head b h = skip-check (check 5 (ltb (length b) (place b head_fields)) 0) (modulus_checks (job_modulus b) ++ size_checks b) (le-ltb (length b) (place b head_fields) h)

pub job-refused : (b : List ℕ) (r : Row) → place b head_fields ≤ length b → judge (modulus_checks (job_modulus b)) ≡ Refuse r → judge (job_checks b) ≡ Refuse r
job-refused b r h e = past_head b h ∙ after-refuse (modulus_checks (job_modulus b)) (size_checks b) r e

pub job-sizes : (b : List ℕ) → place b head_fields ≤ length b → judge (modulus_checks (job_modulus b)) ≡ Pass → judge (job_checks b) ≡ judge (size_checks b)
job-sizes b h e = past_head b h ∙ after-pass (modulus_checks (job_modulus b)) (size_checks b) e

-- the words of the rows, within the limits
pub words_small : (d n : ℕ) → d ≤ most_degree → n ≤ most_width → (d + 1) * n ≤ rows_room
words_small d n h l = let z : d + 1 ≤ 13 = omega arith in mul-le-mul z l

-- all the fields that a slice takes
pub loaded : (b : List ℕ) (from i : ℕ) (old out : List ℕ) → Writing (fields b from i) old out → i ≡ length old → out ≡ fields b from (length old)
loaded b from i old out w e =
    w.is ∙ over-whole (fields b from i) old (length-tabulate i (λ k. field b (from + k)) ∙ e) ∙ ap (fields b from) e

-- what is known of a job whose own checks pass
pub record JobPass (b : List ℕ) : Type 0 where
  pub degree-low : 1 ≤ job_degree b
  pub degree-high : job_degree b ≤ most_degree
  pub width_low : 1 ≤ job_width b
  pub width-high : job_width b ≤ most_width
  pub count-high : job_count b ≤ most_degree
  pub long : length b ≡ place b (head_fields + job_count b + (job_degree b + 1) * job_width b)

pub job-pass : (b : List ℕ) → judge (job_checks b) ≡ Pass → JobPass b
job-pass b e =
    let rows = place b (head_fields + job_count b) in
    let end = place b (head_fields + job_count b + (job_degree b + 1) * job_width b) in
    let c₀ = pass-check (check 5 (ltb (length b) (place b head_fields)) 0) (modulus_checks (job_modulus b) ++ size_checks b) e in
    let m = pass-parts (modulus_checks (job_modulus b)) (size_checks b) c₀.1 in
    let c₃ = pass-check (check 3 (outside 1 most_degree (job_degree b)) 0) (check 4 (outside 1 most_width (job_width b)) 0 ∷ place_checks b (job_degree b) (job_width b)) m.1 in
    let c₄ = pass-check (check 4 (outside 1 most_width (job_width b)) 0) (place_checks b (job_degree b) (job_width b)) c₃.1 in
    let c₅ = pass-check (check 5 (ltb most_degree (job_count b) || misplaced b (job_degree b) (job_width b)) 0) [] c₄.1 in
    let d = inside 1 most_degree (job_degree b) c₃.0 in
    let n = inside 1 most_width (job_width b) c₄.0 in
    let r = neither (ltb most_degree (job_count b)) (misplaced b (job_degree b) (job_width b)) c₅.0 in
    let o = neither (not (eqb (field b 4) (place b head_fields))) (not (eqb (field b 5) rows) || not (eqb (length b) end)) r.1 in
    let q = neither (not (eqb (field b 5) rows)) (not (eqb (length b) end)) o.1 in
    record {
      degree-low = d.0;
      degree-high = d.1;
      width_low = n.0;
      width-high = n.1;
      count-high = ltb-false most_degree (job_count b) r.0;
      long = eqb-true (length b) end (not-false (eqb (length b) end) q.1);
    }
