-- The limits of typed input, each by name. (Those of the modulus, the terms and the degree are a job's.)
--   longest_input   the most bytes of an input: the longest polynomial, and 64 bytes more for the first line
--   rows_lent       the words lent for the rows of a polynomial: 33 rows of 64 words
-- Assumes nothing.
use Rattle.std.specs.Prelude.{ℕ}

abbrev pub longest_input : ℕ
longest_input = 4160

abbrev pub rows_lent : ℕ
rows_lent = 2112
