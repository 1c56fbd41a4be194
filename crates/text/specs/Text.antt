-- The listing's bytes. Every line ends in a line feed, and no line in a blank.
--   bytes "..."             a quoted text, byte by byte
--   signed_text x            a whole number: its decimal, after a minus where it is below 0
--   number_text              an entry modulo p as the profile's listing prints it: of the factors as it is, of the roots as a signed number
--   more_numbers             entries, each after a blank
--   join_to n f              the texts f 0, f 1, .., f (n − 1), one after the other
--   head_line                line 1: the modulus, the terms worked, the degree and the number of factors
--   root_line                a factor's first line
--   row_name, row_line        what the line of row j begins with, and this line: row j of a factor, or root j as a series
--   row_lines                the lines of m rows of N columns
--   factor_text              all lines of a factor
--   listing_text s           the listing of the sheet s
--   roots_text s h           the listing of its roots, whose series are the rows of h
--   refused_text             the one line of a refusal
-- Assumes nothing.
use Rattle.std.specs.Prelude.{ℕ, zero, suc, List, [], ◌∷◌, ◌++◌, ℤ, pos, negsuc}
use Prim.Native.Char.{code}
use Prim.Native.String.{String, [] as empty, ◌∷◌ as ◌∷ₛ◌}
use Rattle.numbers.specs.Words.{tabulate}
use Rattle.signed.specs.Signed.{signed_of}
use Rattle.layout.specs.Layout.{rows_at, modulus, degree, width, terms, count, root, power, factor}
use Rattle.text.specs.declared.Profile.{Profile}
use Rattle.text.specs.declared.Profile.TheVariants.{Factors, Roots}
use Rattle.text.specs.Decimal.{digits}

-- a quoted text, byte by byte
abbrev pub bytes : String → List ℕ
bytes empty = []
bytes (c ∷ₛ s) = code c ∷ bytes s

-- numbers
unfoldable pub signed_text : ℤ → List ℕ
signed_text (pos n) = digits n
signed_text (negsuc n) = bytes "-" ++ digits (suc n)

unfoldable pub number_text : Profile → (p v : ℕ) → List ℕ
number_text Factors p v = digits v
number_text Roots p v = signed_text (signed_of p v)

unfoldable pub more_numbers : Profile → (p : ℕ) → List ℕ → List ℕ
more_numbers profile p [] = []
more_numbers profile p (x ∷ s) = bytes " " ++ (number_text profile p x ++ more_numbers profile p s)

unfoldable pub join_to : ℕ → (ℕ → List ℕ) → List ℕ
join_to zero f = []
join_to (suc n) f = join_to n f ++ f n

-- line 1, from p, the terms worked, D and r
unfoldable pub head_line : (p k D r : ℕ) → List ℕ
head_line p k D r = bytes "mod " ++ (digits p ++ (bytes " terms " ++ (digits k ++ (bytes " degree " ++ (digits D ++ (bytes " factors " ++ (digits r ++ bytes "\n")))))))

-- a factor's first line
unfoldable pub root_line : (c m : ℕ) → List ℕ
root_line c m = bytes "root " ++ (digits c ++ (bytes " power " ++ (digits m ++ bytes "\n")))

-- the line of row j
unfoldable pub row_name : Profile → (j : ℕ) → List ℕ
row_name Factors j = bytes "Y^" ++ (digits j ++ bytes ":")
row_name Roots j = bytes "Y ="

unfoldable pub row_line : Profile → (p j : ℕ) → List ℕ → List ℕ
row_line profile p j row = row_name profile j ++ (more_numbers profile p row ++ bytes "\n")

-- m rows of N columns
unfoldable pub row_lines : Profile → (p N m : ℕ) (rows : ℕ → ℕ → ℕ) → List ℕ
row_lines profile p N m rows = join_to m (λ j. row_line profile p j (tabulate N (rows j)))

unfoldable pub factor_text : List ℕ → ℕ → List ℕ
factor_text s i = root_line (root s i) (power s i) ++ row_lines Factors (modulus s) (width s) (power s i) (factor s i)

unfoldable pub listing_text : List ℕ → List ℕ
listing_text s = head_line (modulus s) (terms s) (degree s) (count s) ++ join_to (count s) (factor_text s)

unfoldable pub roots_text : (s h : List ℕ) → List ℕ
roots_text s h = head_line (modulus s) (terms s) (degree s) (count s) ++ row_lines Roots (modulus s) (width s) (count s) (rows_at h 0 (width s))

unfoldable pub refused_text : (number detail : ℕ) → List ℕ
refused_text number detail = bytes "refused " ++ (digits number ++ (bytes " " ++ (digits detail ++ bytes "\n")))
