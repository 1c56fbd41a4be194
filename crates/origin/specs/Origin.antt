-- Moving the origin: f(Y + c) for f. No call does this in one go: `rows::shift` writes the rows, and open is given them with the roots moved.
--   moved p c x            x − c modulo p
--   IsMoved p c roots l    l lists these for all roots, in rising order
--   cut g                  what open is given, known to one length in all rows, the least of the known lengths, and 0 past it
--   variant g c l          what open is given for f(Y + c): the rows that the shift by c writes, the same known lengths, and the roots l
--   whole_factor s i        the rows of factor i as they are read, and its leading 1 after them
--   IsShifted ..           factor n of the sheet s' is factor i of s shifted by c
--   Shifted c s s'         the factors of s' are the factors of s shifted by c
--   Origin g c l           what is said of the variant of g
-- Assumes nothing.
use Rattle.std.specs.Prelude.{ℕ, ◌+◌, ◌-◌, ◌*◌, ◌%◌, ◌<◌, ◌≡◌, true, List, ◌++◌, length}
use Rattle.numbers.specs.Words.{word, rising, tabulate, up_to}
use Rattle.numbers.specs.Refusals.{judge, Pass}
use Rattle.rows.specs.Rows.{table, shift_checks, row_shift, unit}
use Rattle.layout.specs.Layout.{modulus, width, count, root, power, factor_part}
use Rattle.sheet.specs.Sheet.{Given, given_of, given-reach, given-polynomial, Holds}
use Rattle.open.specs.Open.{needed, open_verdict}
use Rattle.calls.specs.Calls.{SameLists, History, worked, held}

-- Y − x becomes Y + c − x
abbrev pub moved : (p c x : ℕ) → ℕ
moved p c x = (x + (p - c)) % p

pub record IsMoved (p c : ℕ) (roots l : List ℕ) : Type 0 where
  pub rises : rising l ≡ true
  pub long : length l ≡ length roots
  pub each : (i : ℕ) → i < length roots → (n : ℕ) × (n < length l) × (word l n ≡ moved p c (word roots i))

abbrev pub cut : Given → Given
cut g =
    let m = given-reach g in
    given_of g.p g.D g.N (table (g.D + 1) g.N (λ j. up_to m (given-polynomial g j))) (tabulate g.D (λ _. m)) g.roots

abbrev pub variant : Given → ℕ → List ℕ → Given
variant g c l = given_of g.p g.D g.N (row_shift g.p g.D g.N g.rows c) g.lengths l

-- as a row polynomial of bound m, its power: rows 0..m − 1 are in the sheet, and row m is 1, 0, 0, ..
abbrev pub whole_factor : List ℕ → ℕ → List ℕ
whole_factor s i = factor_part s i ++ tabulate (width s) unit

pub record IsShifted (c : ℕ) (s : List ℕ) (i : ℕ) (s' : List ℕ) (n : ℕ) : Type 0 where
  pub roots : root s' n ≡ moved (modulus s) c (root s i)
  pub powers : power s' n ≡ power s i
  -- the shift accepts the whole factor, and writes the other
  pub accepted : judge (shift_checks (modulus s) (power s i) (width s) (whole_factor s i) c ((power s i + 1) * width s)) ≡ Pass
  pub rows : whole_factor s' n ≡ row_shift (modulus s) (power s i) (width s) (whole_factor s i) c

-- as many factors, and to each of s the one of s' with the moved root
pub record Shifted (c : ℕ) (s s' : List ℕ) : Type 0 where
  pub counts : count s' ≡ count s
  pub each : (i : ℕ) → i < count s → (n : ℕ) × (n < count s') × IsShifted c s i s' n

pub record Origin (g : Given) (c : ℕ) (l : List ℕ) : Type 0 where
  -- Open accepts f when it is cut, in the room that f needs, and f's factors are the same; where all lengths are equal nothing is cut.
  pub cut-opens : open_verdict (cut g) (needed g) ≡ Pass
  pub cut-same : (k : ℕ) (s u : List ℕ) → Holds g k s → Holds (cut g) k u → SameLists k s u
  pub cut-none : ((j : ℕ) → j < g.D → word g.lengths j ≡ given-reach g) → cut g ≡ g
  -- The shift accepts these rows, and open what it writes with them, in the same room.
  pub shift-accepts : judge (shift_checks g.p g.D g.N (cut g).rows c ((g.D + 1) * g.N)) ≡ Pass
  pub variant_opens : open_verdict (variant (cut g) c l) (needed g) ≡ Pass
  -- The variant can be worked to as many terms as f ..
  pub reach : given-reach (variant (cut g) c l) ≡ given-reach g
  -- .. and worked to as many, it has the shifted factors of f: this is so of any two sheets ..
  pub sheets : (k : ℕ) (s s' : List ℕ) → Holds g k s → Holds (variant (cut g) c l) k s' → Shifted c s s'
  -- .. and so of those that lists of calls leave.
  pub calls : (x y : History) → held x ≡ g → held y ≡ variant (cut g) c l → worked x ≡ worked y → Shifted c x.last y.last
