-- What `pair` answers and leaves.
--   held         nothing is continued (h = 0), or what stands in the output is the pair to h terms
--   pair_checks   all checks, in order; old is the output before the call
--   PairDone     what an accepted call leaves: the pair's words, and past them what was there
--   Paired       answer and words at exit
-- Assumes nothing.
use Rattle.std.specs.Prelude.{ℕ, ◌+◌, ◌*◌, ◌≡◌, Bool, not, ◌&&◌, ◌||◌, List, [], ◌∷◌, ◌++◌, leb, ltb, eqb, length, drop}
use Rattle.numbers.specs.Refusals.{Check, check, judge, Outcome, outcome_after, operation_checks, beyond_check, behind_check, Leaves}
use Rattle.pair.specs.Pair.{order, PairWords}
use Rattle.pair.specs.Test.{pair_test}

unfoldable pub held : (p D N : ℕ) (f : List ℕ) (h : ℕ) (old : List ℕ) → Bool
held p D N f h old = eqb h 0 || (leb h N && pair_test p D N f h old)

abbrev pub pair_checks : (p D N : ℕ) (f : List ℕ) (h w : ℕ) (old : List ℕ) → List Check
pair_checks p D N f h w old =
    operation_checks p N f (D + 1) [] 0 (D + 1) (length old)
    ++ (check 11 (ltb D (order D N f)) 0 ∷ check 13 (not (held p D N f h old)) 0 ∷ beyond_check N w ∷ behind_check h w ∷ [])

pub record PairDone (p D N : ℕ) (f : List ℕ) (w : ℕ) (old new : List ℕ) : Type 0 where
  pub long : length new ≡ length old
  pub words : PairWords p D N f w new
  pub rest : drop ((D + 1) * N) new ≡ drop ((D + 1) * N) old

-- For every input this has exactly one solution, to the last word (`paired-one` in proofs/OneLaws), and where h is 1 or more only columns h..w − 1 of the
-- D + 1 rows change (`paired-keeps`). Starting to h and continuing to w leaves what starting to w leaves (`paired-goes`).
pub record Paired (p D N : ℕ) (f : List ℕ) (h w : ℕ) (old : List ℕ) (answer : Outcome ℕ) (new : List ℕ) : Type 0 where
  pub answers : answer ≡ outcome_after (judge (pair_checks p D N f h w old)) (order D N f)
  pub leaves : Leaves (judge (pair_checks p D N f h w old)) (PairDone p D N f w old new) old new
