-- What open answers and leaves.
--   choices r D        the lists of r numbers, each 1 or more, whose sum is D
--   find test ls       the first of the lists that passes the test, where there is one
--   splits_test g l     with these powers of its lines Y − c the polynomial at X = 0 is their product
--   powers_of g         such powers, none of them 0, where there are any
--   is_none o           there are none
--   needed g           T
--   polynomial_checks, list_checks, split_checks, open_checks   the checks: refusals 1 to 6, of which size_checks are 3 to 6; 21, 7 and 8, of which top_checks are 21 and 7; 9 and 10; and all of them
--   open_verdict g room what they come to
--   OpenDone           what an accepted call leaves: the sheet of what is given, with one term; no word past T is changed
--   OpenedBy v g ..    the answer and the words at exit of a call that opens the sheet of g, where its checks come to v
--   Opened             open's answer and the words at exit
-- Assumes nothing.
use Rattle.std.specs.Prelude.{ℕ, zero, suc, ◌+◌, ◌-◌, ◌*◌, ◌≡◌, Bool, true, false, not, ◌||◌, List, [], ◌∷◌, ◌++◌, map, eqb, length, drop}
use Rattle.std.proofs.Math.Option.{Option, none, some}
use Rattle.numbers.specs.Words.{word, all_to, first_large, outside, low_word, rising, each}
use Rattle.numbers.specs.Refusals.{Check, check, judge, Outcome, outcome_after, modulus_checks, unreduced, degree_check, width_check, room_check, Leaves, Verdict}
use Rattle.series.specs.Known.{rows_known, unknown_check}
use Rattle.rows.specs.Rows.{unit}
use Rattle.hensel.specs.Factors.{split}
use Rattle.layout.specs.Layout.{total, end}
use Rattle.sheet.specs.Sheet.{Given, given-polynomial, Holds}

-- the lists of r numbers, each 1 or more, whose sum is D
unfoldable pub choices : ℕ → ℕ → List (List ℕ)
choices zero zero = [] ∷ []
choices zero (suc D) = []
choices (suc r) D = each D (λ i. map (λ l. suc i ∷ l) (choices r (D - suc i)))

unfoldable pub find : (List ℕ → Bool) → List (List ℕ) → Option (List ℕ)
find test [] = none
find test (l ∷ ls) = elim (test l) [ true ↦ some l | false ↦ find test ls ]

-- f at X = 0 is the product of the lines with these powers
unfoldable pub splits_test : Given → List ℕ → Bool
splits_test g powers = all_to (suc g.D) (λ j. eqb (split g.p (length g.roots) (word g.roots) (word powers) j) (given-polynomial g j zero))

unfoldable pub powers_of : Given → Option (List ℕ)
powers_of g = find (splits_test g) (choices (length g.roots) g.D)

abbrev pub is_none : {A : Type 0} → Option A → Bool
is_none none = true
is_none (some a) = false

-- T, from what open is given
unfoldable pub needed : Given → ℕ
needed g = total g.D g.N (length g.roots)

-- refusals 3 to 6: each row but row D has a known length
abbrev pub size_checks : Given → List Check
size_checks g =
    degree_check g.D
    ∷ width_check g.N
    ∷ check 5 (not (eqb (length g.rows) ((g.D + 1) * g.N)) || not (eqb (length g.lengths) g.D)) 0
    ∷ check 6 (unreduced g.p (g.rows ++ g.roots)) (low_word (first_large g.p (g.rows ++ g.roots)))
    ∷ []

-- refusals 1 to 6: the words of the polynomial and the roots
abbrev pub polynomial_checks : Given → List Check
polynomial_checks g = modulus_checks g.p ++ size_checks g

-- refusals 21 and 7: the known lengths and the top row
abbrev pub top_checks : Given → List Check
top_checks g =
    unknown_check (rows_known g.N g.D (word g.lengths) (given-polynomial g))
    ∷ check 7 (not (all_to g.N (λ t. eqb (given-polynomial g g.D t) (unit t)))) 0
    ∷ []

-- these, and refusal 8: the list of roots
abbrev pub list_checks : Given → List Check
list_checks g = top_checks g ++ (check 8 (outside 1 g.D (length g.roots) || not (rising g.roots)) 0 ∷ [])

-- refusals 9 and 10; `room` is the length of the output
abbrev pub split_checks : Given → ℕ → List Check
split_checks g room = check 9 (is_none (powers_of g)) 0 ∷ room_check room (needed g) ∷ []

abbrev pub open_checks : Given → ℕ → List Check
open_checks g room = polynomial_checks g ++ (list_checks g ++ split_checks g room)

unfoldable pub open_verdict : Given → ℕ → Verdict
open_verdict g room = judge (open_checks g room)

pub record OpenDone (g : Given) (old new : List ℕ) (T : ℕ) : Type 0 where
  pub same_length : length new ≡ length old
  pub holds : Holds g 1 new
  pub fills : end new ≡ T
  pub rest : drop T new ≡ drop T old

-- under the verdict v: lent `old`, a call that opens the sheet of g answers `answer` and leaves `new`
pub record OpenedBy (v : Verdict) (g : Given) (old : List ℕ) (answer : Outcome ℕ) (new : List ℕ) : Type 0 where
  pub answers : answer ≡ outcome_after v (needed g)
  pub leaves : Leaves v (OpenDone g old new (needed g)) old new

abbrev pub Opened : (g : Given) (old : List ℕ) (answer : Outcome ℕ) (new : List ℕ) → Type 0
Opened g old = OpenedBy (open_verdict g (length old)) g old
