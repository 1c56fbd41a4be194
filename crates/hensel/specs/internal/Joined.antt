-- Roots by their number, powers and factors by their root.
--   place_of r root c    the place of c among r roots, or r
--   is_listed r root c   c is one of them
--   power_at .. c        the power of the root c, or 0
--   factor_at .. c       its factor with its leading 1, or 1
-- Assumes nothing.
use Rattle.std.specs.Prelude.{ℕ, Bool, ltb, eqb}
use Rattle.numbers.specs.Words.{choose, first_where}
use Rattle.rows.specs.Rows.{monic}

-- the place of c among r roots, and r where it is none of them
unfoldable pub place_of : (r : ℕ) (root : ℕ → ℕ) (c : ℕ) → ℕ
place_of r root c = first_where (λ i. eqb (root i) c) 0 r

abbrev pub is_listed : (r : ℕ) (root : ℕ → ℕ) (c : ℕ) → Bool
is_listed r root c = ltb (place_of r root c) r

-- its power, 0 where it is no root; its factor is 1 then
abbrev pub power_at : (r : ℕ) (root power : ℕ → ℕ) (c : ℕ) → ℕ
power_at r root power c = choose (is_listed r root c) (power (place_of r root c)) 0

abbrev pub factor_at : (r : ℕ) (root power : ℕ → ℕ) (a : ℕ → ℕ → ℕ → ℕ) (c : ℕ) → ℕ → ℕ → ℕ
factor_at r root power a c = monic (power_at r root power c) (a (place_of r root c))
