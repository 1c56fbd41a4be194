-- The roots of a polynomial over F_p. Its coefficients are given as a list, that of Y^0 first.
--   value p c e    its value at c
--   is_root p e c   this value is 0
--   all_roots p e   all its roots, each once and rising
-- Assumes nothing.
use Rattle.std.specs.Prelude.{ℕ, ◌+◌, ◌*◌, ◌%◌, Bool, List, [], ◌∷◌, eqb}
use Rattle.numbers.specs.Words.{all_where}

unfoldable pub value : (p c : ℕ) → List ℕ → ℕ
value p c [] = 0
value p c (a ∷ e) = (a + c * value p c e) % p

abbrev pub is_root : (p : ℕ) → List ℕ → ℕ → Bool
is_root p e c = eqb (value p c e) 0

abbrev pub all_roots : (p : ℕ) → List ℕ → List ℕ
all_roots p e = all_where (is_root p e) 0 p
