-- `split::factors::begins` meets its contract. The loop's invariant: the words before j agree.
-- Assumes nothing.
use mathlib.Core.Path.{◌≡◌}
use Prim.Native.Nat.{ℕ, ◌<◌, ◌*◌}
use Rattle.numbers.specs.Words.{word}
use Rattle.split.proofs.factors.begins.Given as goal

abbrev pub invariant-loop-j : goal.invariant-loop-j
invariant-loop-j loop = (l : ℕ) → l < loop.j → word loop.rows (l * loop.n) ≡ word loop.line l
