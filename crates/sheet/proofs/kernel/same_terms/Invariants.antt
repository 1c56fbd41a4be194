-- `sheet::kernel::same_terms` meets its contract. The loop's invariant: the rows before j agree.
-- Assumes nothing.
use Prim.Native.Nat.{ℕ, ◌<◌}
use Rattle.sheet.proofs.SoundStagesLaws.{RowSame}
use Rattle.sheet.proofs.kernel.same_terms.Given as goal

abbrev pub invariant-loop-j : goal.invariant-loop-j
invariant-loop-j loop = (l : ℕ) → l < loop.j → RowSame loop.n loop.k loop.stored loop.computed l
