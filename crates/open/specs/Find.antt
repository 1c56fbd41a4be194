-- What find answers and leaves: opening without a list of roots.
--   first_column g       f at X = 0
--   with_roots g         what open would be given with the list of all roots of f at X = 0
--   find_checks g room   open's checks with that list, refusal 8 left out; g has no roots of its own
--   find_verdict g room  what they come to
--   Found               find's answer and the words at exit
--   IsProduct g l m     f at X = 0 is the product of the powers m of Y minus the numbers of l, in any order
-- Refusal 9 is given exactly where there is no such product: `nine` in proofs/FindLaws.
-- Assumes nothing.
use Rattle.std.specs.Prelude.{ℕ, zero, suc, ◌≤◌, ◌<◌, ◌≡◌, List, ◌++◌, length}
use Rattle.algebra.specs.Sums.{sum_to}
use Rattle.numbers.specs.Words.{word, tabulate}
use Rattle.numbers.specs.Refusals.{Check, judge, Outcome, Verdict}
use Rattle.hensel.specs.Factors.{split}
use Rattle.sheet.specs.Sheet.{Given, given_of, given-polynomial}
use Rattle.rootfinding.specs.Roots.{all_roots}
use Rattle.open.specs.Open.{polynomial_checks, top_checks, split_checks, OpenedBy}

abbrev pub first_column : Given → List ℕ
first_column g = tabulate (suc g.D) (λ j. given-polynomial g j zero)

abbrev pub with_roots : Given → Given
with_roots g = given_of g.p g.D g.N g.rows g.lengths (all_roots g.p (first_column g))

-- 1 to 6, 21 and 7, 9 and 10
abbrev pub find_checks : Given → ℕ → List Check
find_checks g room = polynomial_checks g ++ (top_checks g ++ split_checks (with_roots g) room)

unfoldable pub find_verdict : Given → ℕ → Verdict
find_verdict g room = judge (find_checks g room)

abbrev pub Found : (g : Given) (old : List ℕ) (answer : Outcome ℕ) (new : List ℕ) → Type 0
Found g old = OpenedBy (find_verdict g (length old)) (with_roots g) old

pub record IsProduct (g : Given) (l : List ℕ) (m : ℕ → ℕ) : Type 0 where
  pub reduced : (i : ℕ) → i < length l → word l i < g.p
  pub powers : (i : ℕ) → i < length l → 1 ≤ m i
  pub degree : sum_to (length l) m ≡ g.D
  pub splits : (j : ℕ) → j ≤ g.D → split g.p (length l) (word l) m j ≡ given-polynomial g j zero
