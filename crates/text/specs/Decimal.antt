-- Decimals, as bytes.
--   digit n         the byte of a digit below 10
--   digits_within    the digits of n, of which there are at most 1 + room
--   digits n        the decimal digits of n, the most significant first; those of 0 are 0
-- Assumes nothing.
use Rattle.std.specs.Prelude.{ℕ, zero, suc, ◌+◌, ◌/◌, ◌%◌, List, [], ◌∷◌, ◌++◌, ltb}
use Rattle.numbers.specs.Words.{choose}

abbrev pub digit : ℕ → ℕ
digit n = 48 + n

unfoldable pub digits_within : ℕ → ℕ → List ℕ
digits_within zero n = digit n ∷ []
digits_within (suc room) n = choose (ltb n 10) (digit n ∷ []) (digits_within room (n / 10) ++ (digit (n % 10) ∷ []))

unfoldable pub digits : ℕ → List ℕ
digits n = digits_within n n
