-- Lists of calls on a sheet, extends and corrections, the plain count, and when factor lists and polynomials agree: what demand 3 says.
--   Asked, Call              what a call asks for; one call: the number of words lent, and what it asks for
--   Does                     what the contract of the call says
--   Run                      the calls, one after the other, each step being what its contract says
--   Lendable n cs            no call of the list lends more than n words
--   Count, counting          what the plain count keeps: K, and what open was given, as corrected so far; where it begins
--   count_checks, count_value  what it refuses a call by that is lent T words or more, and what it answers else
--   count_answer, changed, count_next   one step of the plain count: the answer, and what it keeps then
--   count_answers, count_end   the answers of a list, and what is kept at its end
--   largest_accepted K l      the largest number among the accepted answers of a list, and K where none is larger
--   SameLists, SameGiven     two sheets' factor lists, and two polynomials as open is given them, agree below X^j
--   History                  an accepted open and a list of calls on what it wrote
--   worked x, held x         the terms that the sheet of a history has at its end, and what it holds
--   Kept, Agree, Demand3     the statement
-- Assumes nothing.
use Rattle.std.specs.Prelude.{ℕ, ◌≤◌, max, ◌≡◌, ◌↔◌, List, [], ◌∷◌, ◌++◌, ltb, length, take, drop}
use Rattle.numbers.specs.Words.{word, choose}
use Rattle.numbers.specs.Refusals.{Check, judge, beyond_check, behind_check, Outcome, accepted, refused, outcome_after}
use Rattle.hensel.specs.Factors.{SameFactors, SamePolynomial}
use Rattle.layout.specs.Layout.{count, root, power, factor, end}
use Rattle.sheet.specs.Sheet.{Given, given-reach, given-polynomial, Holds}
use Rattle.open.specs.Open.{Opened}
use Rattle.extend.specs.Extend.{Extended}
use Rattle.correct.specs.Correct.{entry_check, number_check, Corrected, corrected}

-- to work the sheet to w terms, or to make row j, column t of its polynomial this entry
pub data Asked : Type 0 where
  extend : (w : ℕ) → Asked
  correct : (j t entry : ℕ) → Asked

-- `lent` counts the first words of the slice that the call gets
pub record Call : Type 0 where
  pub lent : ℕ
  pub asked : Asked

-- the very definition that the call's contract cites
abbrev pub Does : Asked → List ℕ → Outcome ℕ → List ℕ → Type 0
Does (extend w) old answer new = Extended old w answer new
Does (correct j t entry) old answer new = Corrected old j t entry answer new

-- From the words s the calls leave `last`: each works on what the one before it left. The list may be empty.
pub data Run : List ℕ → List Call → List (Outcome ℕ) → List ℕ → Type 0 where
  done : {s : List ℕ} → Run s [] [] s
  call : {s last : List ℕ} {c : Call} {cs : List Call} {a : Outcome ℕ} {answers : List (Outcome ℕ)} (part : List ℕ)
      → c.lent ≤ length s → Does c.asked (take c.lent s) a part → Run (part ++ drop c.lent s) cs answers last → Run s (c ∷ cs) (a ∷ answers) last

-- Where every call can be lent its words, there is exactly one run: `run-one` in proofs/OneLaws.
abbrev pub Lendable : ℕ → List Call → Type 0
Lendable n [] = Unit {0}
Lendable n (c ∷ cs) = (c.lent ≤ n) × Lendable n cs

-- what the plain count keeps: K, and what open was given, with the corrections accepted so far
pub record Count : Type 0 where
  pub terms : ℕ
  pub given : Given

-- it begins at one term, as open does
abbrev pub counting : Given → Count
counting g = record { terms = 1; given = g }

-- T, the most terms that there can be and the entries that there are come from what open was given, and nothing from the sheet.
abbrev pub count_checks : Count → Asked → List Check
count_checks n (extend w) = beyond_check (given-reach n.given) w ∷ behind_check n.terms w ∷ []
count_checks n (correct j t entry) = entry_check n.given.D (word n.given.lengths) j t ∷ number_check n.given.p entry ∷ []

-- a correction is answered K
abbrev pub count_value : Count → Asked → ℕ
count_value n (extend w) = w
count_value n (correct j t entry) = n.terms

unfoldable pub count_answer : (T : ℕ) → Count → Call → Outcome ℕ
count_answer T n c = choose (ltb c.lent T) (refused 13 0) (outcome_after (judge (count_checks n c.asked)) (count_value n c.asked))

-- a correction changes its entry in what open was given
abbrev pub changed : Asked → Given → Given
changed (extend w) g = g
changed (correct j t entry) g = corrected g j t entry

-- only an accepted call moves K or an entry
abbrev pub count_next : Count → Asked → Outcome ℕ → Count
count_next n asked (accepted k) = record { terms = k; given = changed asked n.given }
count_next n asked (refused number detail) = n

unfoldable pub count_answers : (T : ℕ) → Count → List Call → List (Outcome ℕ)
count_answers T n [] = []
count_answers T n (c ∷ cs) = count_answer T n c ∷ count_answers T (count_next n c.asked (count_answer T n c)) cs

unfoldable pub count_end : (T : ℕ) → Count → List Call → Count
count_end T n [] = n
count_end T n (c ∷ cs) = count_end T (count_next n c.asked (count_answer T n c)) cs

-- From K = 1 the plain count ends at the largest number accepted, or at 1 where there is none: `count-largest` in proofs/OneLaws. (No answer is below K:
-- `accepted-up`.)
unfoldable pub largest_accepted : ℕ → List (Outcome ℕ) → ℕ
largest_accepted K [] = K
largest_accepted K (accepted w ∷ l) = max w (largest_accepted K l)
largest_accepted K (refused n d ∷ l) = largest_accepted K l

-- as many factors, and each with the same root, power and columns below j in its rows
abbrev pub SameLists : ℕ → List ℕ → List ℕ → Type 0
SameLists j s s' = SameFactors j (count s) (count s') (root s) (root s') (power s) (power s') (factor s) (factor s')

-- one degree, and the same columns below j in every row
abbrev pub SameGiven : ℕ → Given → Given → Type 0
SameGiven j g g'' = SamePolynomial j g.D g''.D (given-polynomial g) (given-polynomial g'')

-- what an accepted open was given, the slice before and after it, and a list of calls on it
pub record History : Type 0 where
  pub given : Given
  pub before : List ℕ
  pub T : ℕ
  pub start : List ℕ
  pub opened : Opened given before (accepted T) start
  pub calls : List Call
  pub answers : List (Outcome ℕ)
  pub last : List ℕ
  pub run : Run start calls answers last

-- by the plain count
abbrev pub worked : History → ℕ
worked x = (count_end x.T (counting x.given) x.calls).terms

abbrev pub held : History → Given
held x = (count_end x.T (counting x.given) x.calls).given

-- Of one history:
pub record Kept (x : History) : Type 0 where
  -- the plain count foretells every answer
  pub answers : x.answers ≡ count_answers x.T (counting x.given) x.calls
  -- the slice begins with a sound sheet of what open was given, as corrected, worked to K terms, which ends at T, and there is no other
  pub holds : Holds (held x) (worked x) x.last
  pub fills : end x.last ≡ x.T
  pub only : (s : List ℕ) → Holds (held x) (worked x) s → take x.T s ≡ take x.T x.last
  -- what comes after it is as open left it
  pub rest : drop x.T x.last ≡ drop x.T x.start

-- Of two histories over one p, unlike in all else: up to the smaller K their factor lists agree below X^j exactly where the polynomials now held do.
abbrev pub Agree : History → History → Type 0
Agree x y =
    x.given.p ≡ y.given.p → (j : ℕ) → 1 ≤ j → j ≤ worked x → j ≤ worked y
    → SameLists j x.last y.last ↔ SameGiven j (held x) (held y)

-- Both, for all lists of calls: one statement.
abbrev pub Demand3 : Type 0
Demand3 = ((x : History) → Kept x) × ((x y : History) → Agree x y)
