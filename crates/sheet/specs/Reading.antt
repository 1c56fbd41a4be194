-- Reading factor i: its root and power, the part of the sheet that holds its rows, and these rows passed on, as a row polynomial of bound power − 1.
--   sound_check, index_check, read_checks, read_verdict   refusals 13 and 16, and the checks of reading
--   read_factor         root and power
--   read_part v s i      the part of the sheet that holds the rows, which is empty on a refusal
--   times_checks, times_size, times_words   the product of factor i's rows and g: the checks, those of reading and then the product's own; how many words
--                       it writes, and which; room is the length of the output
--   shifted_checks, shifted_size, shifted_words   the same of the shift of these rows by c
-- Assumes nothing.
use Rattle.std.specs.Prelude.{ℕ, ◌+◌, ◌-◌, ◌*◌, List, ◌++◌, [], ◌∷◌, not, leb}
use Rattle.numbers.specs.Refusals.{Check, judge, check, Verdict, Pass, Refuse}
use Rattle.rows.specs.Rows.{product_checks, row_product, shift_checks, row_shift}
use Rattle.layout.specs.Layout.{modulus, width, power, factor_part, count, root}
use Rattle.sheet.specs.declared.Factor.{Factor}
use Rattle.sheet.specs.Test.{sound_test}

-- Reading factor i.
abbrev pub sound_check : List ℕ → Check
sound_check s = check 13 (not (sound_test s)) 0

abbrev pub index_check : List ℕ → ℕ → Check
index_check s i = check 16 (leb (count s) i) 0

abbrev pub read_checks : List ℕ → ℕ → List Check
read_checks s i = sound_check s ∷ index_check s i ∷ []

-- What reading factor i answers: its root and power, and the part of the sheet that holds its rows, which is empty on a refusal.
abbrev pub read_verdict : List ℕ → ℕ → Verdict
read_verdict s i = judge (read_checks s i)

abbrev pub read_factor : List ℕ → ℕ → Factor
read_factor s i = record { root = root s i; power = power s i }

abbrev pub read_part : Verdict → List ℕ → ℕ → List ℕ
read_part Pass s i = factor_part s i
read_part (Refuse r) s i = []

-- the product of the rows and g
abbrev pub times_checks : (s : List ℕ) (i e : ℕ) (g : List ℕ) (room : ℕ) → List Check
times_checks s i e g room = read_checks s i ++ product_checks (modulus s) (power s i - 1) e (width s) (factor_part s i) g room

abbrev pub times_size : (s : List ℕ) (i e : ℕ) → ℕ
times_size s i e = (power s i - 1 + e + 1) * width s

unfoldable pub times_words : (s : List ℕ) (i e : ℕ) (g : List ℕ) → List ℕ
times_words s i e g = row_product (modulus s) (power s i - 1) e (width s) (factor_part s i) g

-- and the shift of the rows by c
abbrev pub shifted_checks : (s : List ℕ) (i c room : ℕ) → List Check
shifted_checks s i c room = read_checks s i ++ shift_checks (modulus s) (power s i - 1) (width s) (factor_part s i) c room

abbrev pub shifted_size : (s : List ℕ) (i : ℕ) → ℕ
shifted_size s i = (power s i - 1 + 1) * width s

unfoldable pub shifted_words : (s : List ℕ) (i c : ℕ) → List ℕ
shifted_words s i c = row_shift (modulus s) (power s i - 1) (width s) (factor_part s i) c
