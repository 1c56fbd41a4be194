-- The quotient of series that may have powers of X in common, by its conditions, and what `quotient` answers and leaves.
--   least_power s         the least power of X in s; its length where all its words are 0
--   quotient_checks ..    all checks: 12 unless g is not 0 and no power of X in f is lower than the least in g
--   IsQuotient p N f g h   h is f / g: its product with g has all N columns of f, and it ends with as many zeros as g begins with
--   QuotientDone         what an accepted call leaves: such a series, and past it what was there
--   Divided              answer and words at exit; the answer is the number of terms that are known
--   quotient_words ..     the words of the quotient: the e zeros that g begins with are left out, in f too; column is made after column; e zeros follow
-- Assumes nothing.
use Rattle.std.specs.Prelude.{ℕ, ◌-◌, ◌≤◌, ◌≡◌, not, ◌&&◌, List, [], ◌∷◌, ◌++◌, leb, ltb, length, drop}
use Rattle.numbers.specs.Words.{word, first_nonzero, tabulate, over}
use Rattle.numbers.specs.Refusals.{Check, check, judge, Outcome, outcome_after, Leaves}
use Rattle.series.specs.Series.{IsSeries, series_checks, product, quotient}

abbrev pub least_power : List ℕ → ℕ
least_power s = first_nonzero (length s) (word s)

abbrev pub quotient_checks : (p N : ℕ) (f g : List ℕ) (room : ℕ) → List Check
quotient_checks p N f g room = series_checks p N f g room ++ (check 12 (not (ltb (least_power g) N && leb (least_power g) (least_power f))) 0 ∷ [])

pub record IsQuotient (p N : ℕ) (f g h : List ℕ) : Type 0 where
  pub series : IsSeries p N h
  pub rest : (t : ℕ) → N - least_power g ≤ t → word h t ≡ 0
  pub back : product p N h N g N ≡ f

abbrev pub QuotientDone : (p N : ℕ) (f g old new : List ℕ) → Type 0
QuotientDone p N f g old new = (h : List ℕ) × IsQuotient p N f g h × (new ≡ over h old)

-- For every input this has exactly one solution, to the last word (`divided-one` in proofs/DividedLaws).
pub record Divided (p N : ℕ) (f g old : List ℕ) (answer : Outcome ℕ) (new : List ℕ) : Type 0 where
  pub answers : answer ≡ outcome_after (judge (quotient_checks p N f g (length old))) (N - least_power g)
  pub leaves : Leaves (judge (quotient_checks p N f g (length old))) (QuotientDone p N f g old new) old new

-- a second way to say it (`the-quotient` in proofs/DividedLaws)
unfoldable pub quotient_words : (p N : ℕ) (f g : List ℕ) → List ℕ
quotient_words p N f g = let e = least_power g in quotient p (N - e) (drop e f) (drop e g) ++ tabulate e (λ _. 0)
