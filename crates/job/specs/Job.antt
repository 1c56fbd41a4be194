-- A job file: its fields, and the checks that come before those of open.
--   number b at n            the number that n bytes hold from byte `at` on, the low byte first
--   is_wide b                 the file is a wide one: its first 16-bit word is 0
--   fields_from b, field_size b   where the fields begin, and the bytes of each: 0 and 2, in a wide file 2 and 4
--   place b i                where field i begins, in bytes from the file's beginning
--   field b i                field i
--   fields b o n             n fields from field o on
--   job_modulus, job_degree, job_width, job_count   fields 0 to 3: p, D, N, r; fields 4 and 5 are the offsets of the roots and of the rows
--   misplaced b D N          the offsets or the length are not what the head says
--   place_checks, size_checks  r, the offsets and the length; before them the limits of D and N
--   job_checks b              under six fields; p; then these
-- Assumes nothing.
use Rattle.std.specs.Prelude.{ℕ, zero, suc, ◌+◌, ◌*◌, Bool, not, ◌||◌, List, [], ◌∷◌, ◌++◌, ltb, eqb, length}
use Rattle.numbers.specs.Words.{word, choose, outside, tabulate}
use Rattle.numbers.specs.Refusals.{Check, check, modulus_checks}
use Rattle.job.specs.Limits.{most_degree, most_width, head_fields}

unfoldable pub number : List ℕ → (at size : ℕ) → ℕ
number b at zero = 0
number b at (suc n) = word b at + 256 * number b (suc at) n

unfoldable pub is_wide : List ℕ → Bool
is_wide b = eqb (number b 0 2) 0

unfoldable pub fields_from : List ℕ → ℕ
fields_from b = choose (is_wide b) 2 0

unfoldable pub field_size : List ℕ → ℕ
field_size b = choose (is_wide b) 4 2

abbrev pub place : List ℕ → ℕ → ℕ
place b i = fields_from b + field_size b * i

unfoldable pub field : List ℕ → ℕ → ℕ
field b i = number b (place b i) (field_size b)

abbrev pub fields : List ℕ → ℕ → ℕ → List ℕ
fields b o n = tabulate n (λ i. field b (o + i))

abbrev pub job_modulus : List ℕ → ℕ
job_modulus b = field b 0

abbrev pub job_degree : List ℕ → ℕ
job_degree b = field b 1

abbrev pub job_width : List ℕ → ℕ
job_width b = field b 2

abbrev pub job_count : List ℕ → ℕ
job_count b = field b 3

-- the head is followed by r roots and (D + 1) · N words, and these by nothing
abbrev pub misplaced : List ℕ → (D N : ℕ) → Bool
misplaced b D N =
    not (eqb (field b 4) (place b head_fields))
    || (not (eqb (field b 5) (place b (head_fields + job_count b))) || not (eqb (length b) (place b (head_fields + job_count b + (D + 1) * N))))

abbrev pub place_checks : List ℕ → (D N : ℕ) → List Check
place_checks b D N = check 5 (ltb most_degree (job_count b) || misplaced b D N) 0 ∷ []

abbrev pub size_checks : List ℕ → List Check
size_checks b =
    check 3 (outside 1 most_degree (job_degree b)) 0
    ∷ check 4 (outside 1 most_width (job_width b)) 0
    ∷ place_checks b (job_degree b) (job_width b)

abbrev pub job_checks : List ℕ → List Check
job_checks b = check 5 (ltb (length b) (place b head_fields)) 0 ∷ (modulus_checks (job_modulus b) ++ size_checks b)
