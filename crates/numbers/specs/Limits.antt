-- The limits of the specification, each by name.
--   largest_modulus   the largest modulus
--   largest_degree    the largest degree bound
--   most_rows         the rows of a polynomial of that degree bound
--   largest_width     the most words of a series: the largest N
-- Assumes nothing.
use Rattle.std.specs.Prelude.{ℕ}

abbrev pub largest_modulus : ℕ
largest_modulus = 16777215

abbrev pub largest_degree : ℕ
largest_degree = 32

abbrev pub most_rows : ℕ
most_rows = 33

abbrev pub largest_width : ℕ
largest_width = 256
