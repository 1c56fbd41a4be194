-- Rows of N words of which not all are known: the first n are, and 0 stands for the others.
--   KnownTo N n s     row s is known to n terms: n is from 1 to N, and 0 stands from column n on
--   known_to N n s     the same as a test that computes (`known-test` in proofs/KnownLaws)
--   rows_known N n lengths f   each of the rows 0..n − 1 of f is known to its length
--   unknown_check b    refusal 21, given where not all rows of an operation pass this test
-- Assumes nothing.
use Rattle.std.specs.Prelude.{ℕ, ◌+◌, ◌-◌, ◌≤◌, ◌<◌, ◌≡◌, Bool, not, [], ◌∷◌, leb, eqb}
use Rattle.numbers.specs.Words.{all_to, all}
use Rattle.numbers.specs.Refusals.{Check, check}

pub record KnownTo (N n : ℕ) (s : ℕ → ℕ) : Type 0 where
  pub low : 1 ≤ n
  pub high : n ≤ N
  pub rest : (t : ℕ) → n ≤ t → t < N → s t ≡ 0

unfoldable pub known_to : (N n : ℕ) → (ℕ → ℕ) → Bool
known_to N n s = all (leb 1 n ∷ leb n N ∷ all_to (N - n) (λ t. eqb (s (n + t)) 0) ∷ [])

unfoldable pub rows_known : (N n : ℕ) (lengths : ℕ → ℕ) (f : ℕ → ℕ → ℕ) → Bool
rows_known N n lengths f = all_to n (λ j. known_to N (lengths j) (f j))

abbrev pub unknown_check : Bool → Check
unknown_check known = check 21 (not known) 0
