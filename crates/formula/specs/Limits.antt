-- The limits of typed text, each by name.
--   longest_text        the most bytes that are read
--   most_digits         the most digits of a number
--   largest_power       the largest written power
--   deepest_brackets    the most brackets that stand within each other
-- Assumes nothing.
use Rattle.std.specs.Prelude.{ℕ}

abbrev pub longest_text : ℕ
longest_text = 4096

abbrev pub most_digits : ℕ
most_digits = 9

abbrev pub largest_power : ℕ
largest_power = 255

abbrev pub deepest_brackets : ℕ
deepest_brackets = 32
