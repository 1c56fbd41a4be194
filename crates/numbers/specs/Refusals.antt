-- Refusals by number: how every operation judges what it is given.
--   Row, refusal n d    a row of the table of refusals with its detail word: number n, detail d
--   number r, detail r  the table's number of a refusal that the code names, and its detail word; row_of r both
--   Verdict             what a list of checks comes to: a pass, or a row
--   verdict r           the same of an answer that says no more
--   Check, check n b d  a row of the table of refusals: number n is given when b holds, with detail d
--   judge checks        the first check of the list that applies: the checks stand in number order, but that 20 comes before 6, 21 after it, 24 after 3,
--                       17 to 19 after 4, and 22 between 13 and 10
--   Outcome A           a call is accepted with an A, or refused with number and detail
--   outcome_after v x          the outcome that follows a verdict: a pass is accepted with x
--   outcome r           number and values for each case of an answer
--   written v new old   the words after the call: a refusal leaves the old ones
--   Leaves v Met old new   the same where what is written is given by conditions
--   modulus_checks p     refusals 1 and 2
--   unreduced p s       refusal 6 for the words s; its detail is first_large p s
--   degree_check, rows_check, width_check, lengths_check, reduced_check, room_check, beyond_check, behind_check   refusals 3 (of a degree, and of rows), 4, 5,
--                       6, 10, 14 and 15, as several operations have them
--   shape_checks ..      refusals 3 to 6 for an operation that takes f_rows rows f and g_rows rows g of N words each and gives `rows` rows:
--                       a degree bound is above 32 where there are more than 33 rows
--   input_checks ..      refusals 1 to 6 for such an operation
--   operation_checks ..  and refusal 10, for an output of `room` words
-- Assumes nothing.
use Rattle.std.specs.Prelude.{ℕ, ◌*◌, ◌≡◌, Bool, not, ◌||◌, List, [], ◌∷◌, ◌++◌, ltb, eqb, length, Result, Ok, Err}
use Rattle.numbers.specs.Words.{choose, first_large, outside}
use Rattle.numbers.specs.Divisor.{least_divisor}
use Rattle.numbers.specs.declared.refusal.Refusal.{Refusal}
use Rattle.numbers.specs.declared.refusal.Refusal.TheVariants.{ModulusRange, Composite, Degree, Terms, Rows, Unreduced, NotMonic, RootList, Unsplit, Short, Flat, NoUnit, Spoiled, Beyond, Behind, NoFactor, Unreadable, Deep, High, Entry, KnownTerms, MultipleRoot, Many}
use Rattle.numbers.specs.Limits.{largest_modulus, largest_degree, most_rows, largest_width}

pub record Row : Type 0 where
  pub number : ℕ
  pub detail : ℕ

abbrev pub refusal : ℕ → ℕ → Row
refusal n d = record { number = n; detail = d }

abbrev pub number : Refusal → ℕ
number ModulusRange = 1
number (Composite divisor) = 2
number Degree = 3
number Terms = 4
number Rows = 5
number (Unreduced position) = 6
number NotMonic = 7
number RootList = 8
number Unsplit = 9
number (Short needed) = 10
number Flat = 11
number NoUnit = 12
number Spoiled = 13
number Beyond = 14
number Behind = 15
number NoFactor = 16
number Unreadable = 17
number Deep = 18
number High = 19
number Entry = 20
number KnownTerms = 21
number (MultipleRoot root) = 22
number Many = 24

abbrev pub detail : Refusal → ℕ
detail (Composite divisor) = divisor
detail (Unreduced position) = position
detail (Short needed) = needed
detail (MultipleRoot root) = root
detail _ = 0

abbrev pub row_of : Refusal → Row
row_of r = refusal (number r) (detail r)

pub data Verdict : Type 0 where
  Pass : Verdict
  Refuse : Row → Verdict

abbrev pub verdict : Result Unit Refusal → Verdict
verdict (Ok _) = Pass
verdict (Err r) = Refuse (row_of r)

pub record Check : Type 0 where
  pub number : ℕ
  pub applies : Bool
  pub detail : ℕ

abbrev pub check : ℕ → Bool → ℕ → Check
check n b d = record { number = n; applies = b; detail = d }

unfoldable pub judge : List Check → Verdict
judge [] = Pass
judge (c ∷ cs) = choose c.applies (Refuse (refusal c.number c.detail)) (judge cs)

pub data Outcome (A : Type 0) : Type 0 where
  accepted : A → Outcome A
  refused : (number detail : ℕ) → Outcome A

abbrev pub outcome_after : {A : Type 0} → Verdict → A → Outcome A
outcome_after Pass x = accepted x
outcome_after (Refuse r) x = refused r.number r.detail

abbrev pub outcome : {A : Type 0} → Result A Refusal → Outcome A
outcome (Ok x) = accepted x
outcome (Err r) = refused (number r) (detail r)

abbrev pub written : Verdict → List ℕ → List ℕ → List ℕ
written Pass new old = new
written (Refuse r) new old = old

-- a refusal leaves every word
abbrev pub Leaves : Verdict → Type 0 → List ℕ → List ℕ → Type 0
Leaves Pass Met old new = Met
Leaves (Refuse r) Met old new = new ≡ old

abbrev pub modulus_checks : ℕ → List Check
modulus_checks p =
    check 1 (outside 2 largest_modulus p) 0
    ∷ check 2 (ltb (least_divisor p) p) (least_divisor p)
    ∷ []

abbrev pub unreduced : ℕ → List ℕ → Bool
unreduced p s = ltb (first_large p s) (length s)

-- rows of the table that several operations have
abbrev pub degree_check : ℕ → Check
degree_check D = check 3 (outside 1 largest_degree D) 0

abbrev pub width_check : ℕ → Check
width_check N = check 4 (outside 1 largest_width N) 0

abbrev pub rows_check : (f_rows g_rows rows : ℕ) → Check
rows_check f_rows g_rows rows = check 3 (ltb most_rows f_rows || (ltb most_rows g_rows || ltb most_rows rows)) 0

abbrev pub lengths_check : (N : ℕ) (f : List ℕ) (f_rows : ℕ) (g : List ℕ) (g_rows : ℕ) → Check
lengths_check N f f_rows g g_rows = check 5 (not (eqb (length f) (f_rows * N)) || not (eqb (length g) (g_rows * N))) 0

abbrev pub reduced_check : ℕ → List ℕ → Check
reduced_check p s = check 6 (unreduced p s) (first_large p s)

abbrev pub room_check : (room words : ℕ) → Check
room_check room words = check 10 (ltb room words) words

abbrev pub beyond_check : (most w : ℕ) → Check
beyond_check most w = check 14 (outside 1 most w) 0

abbrev pub behind_check : (terms w : ℕ) → Check
behind_check terms w = check 15 (ltb w terms) 0

abbrev pub shape_checks : (p N : ℕ) (f : List ℕ) (f_rows : ℕ) (g : List ℕ) (g_rows rows : ℕ) → List Check
shape_checks p N f f_rows g g_rows rows = rows_check f_rows g_rows rows ∷ width_check N ∷ lengths_check N f f_rows g g_rows ∷ reduced_check p (f ++ g) ∷ []

abbrev pub input_checks : (p N : ℕ) (f : List ℕ) (f_rows : ℕ) (g : List ℕ) (g_rows rows : ℕ) → List Check
input_checks p N f f_rows g g_rows rows = modulus_checks p ++ shape_checks p N f f_rows g g_rows rows

abbrev pub operation_checks : (p N : ℕ) (f : List ℕ) (f_rows : ℕ) (g : List ℕ) (g_rows rows room : ℕ) → List Check
operation_checks p N f f_rows g g_rows rows room =
    input_checks p N f f_rows g g_rows rows ++ (room_check room (rows * N) ∷ [])
