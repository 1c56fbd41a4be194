-- The roots of a polynomial as series, by their conditions, and what `simple_roots` answers and leaves.
--   series_power p s m t     the coefficient of X^t of s^m
--   value_at p D f s t       the coefficient of X^t of f at s: the sum over j of row j times s^j
--   IsSeriesRoot ..         s has the value c at X = 0, and f(s) = 0 modulo X^k
--   SeriesRoots s h         row i of h is such a series for root i of the sheet s and its polynomial, and 0 from column k up
--   first_multiple s         the place of the first root of power above 1, or r
--   multiple_check s         refusal 22
--   simple_checks, simple_verdict   the checks, and what they come to; `room` is the length of the output
--   RootsDone               what an accepted call leaves: such rows, and past them what was there
--   SimpleRoots             answer and words at exit
-- (`series-root` shows that there is exactly one such series for each root of power 1.)
-- Assumes nothing.
use Rattle.std.specs.Prelude.{ℕ, zero, suc, ◌-◌, ◌*◌, ◌≤◌, ◌<◌, ◌%◌, ◌≡◌, List, [], ◌∷◌, ltb, length}
use Rattle.algebra.specs.Sums.{sum_to}
use Rattle.numbers.specs.Words.{first_where, over}
use Rattle.numbers.specs.Refusals.{Check, check, judge, Outcome, outcome_after, Leaves, room_check, Verdict}
use Rattle.rows.specs.Rows.{unit}
use Rattle.layout.specs.Layout.{rows_at, modulus, degree, width, terms, count, root, power, polynomial}
use Rattle.sheet.specs.Reading.{sound_check}

unfoldable pub series_power : (p : ℕ) (s : ℕ → ℕ) → ℕ → ℕ → ℕ
series_power p s zero t = unit t
series_power p s (suc m) t = sum_to (suc t) (λ i. s i * series_power p s m (t - i)) % p

unfoldable pub value_at : (p D : ℕ) (f : ℕ → ℕ → ℕ) (s : ℕ → ℕ) → ℕ → ℕ
value_at p D f s t = sum_to (suc D) (λ j. sum_to (suc t) (λ i. f j i * series_power p s j (t - i))) % p

pub record IsSeriesRoot (p D k : ℕ) (f : ℕ → ℕ → ℕ) (c : ℕ) (s : ℕ → ℕ) : Type 0 where
  pub reduced : (t : ℕ) → t < k → s t < p
  pub first : s 0 ≡ c
  pub value : (t : ℕ) → t < k → value_at p D f s t ≡ 0

pub record SeriesRoots (s h : List ℕ) : Type 0 where
  pub long : length h ≡ count s * width s
  pub roots : (i : ℕ) → i < count s → IsSeriesRoot (modulus s) (degree s) (terms s) (polynomial s) (root s i) (rows_at h 0 (width s) i)
  pub rest : (i : ℕ) → i < count s → (t : ℕ) → terms s ≤ t → t < width s → rows_at h 0 (width s) i t ≡ 0

unfoldable pub first_multiple : List ℕ → ℕ
first_multiple s = first_where (λ i. ltb 1 (power s i)) 0 (count s)

abbrev pub multiple_check : List ℕ → Check
multiple_check s = check 22 (ltb (first_multiple s) (count s)) (root s (first_multiple s))

abbrev pub simple_checks : (s : List ℕ) (room : ℕ) → List Check
simple_checks s room = sound_check s ∷ multiple_check s ∷ room_check room (count s * width s) ∷ []

unfoldable pub simple_verdict : (s : List ℕ) (room : ℕ) → Verdict
simple_verdict s room = judge (simple_checks s room)

abbrev pub RootsDone : (s old new : List ℕ) → Type 0
RootsDone s old new = (h : List ℕ) × SeriesRoots s h × (new ≡ over h old)

-- lent the sheet s and `old`, it answers `answer` and leaves `new`
pub record SimpleRoots (s old : List ℕ) (answer : Outcome ℕ) (new : List ℕ) : Type 0 where
  pub answers : answer ≡ outcome_after (simple_verdict s (length old)) (count s * width s)
  pub leaves : Leaves (simple_verdict s (length old)) (RootsDone s old new) old new
