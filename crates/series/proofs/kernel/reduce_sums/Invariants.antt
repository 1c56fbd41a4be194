-- `series::kernel::reduce_sums` meets its contract. The invariant: the first i sums are reduced.
-- Assumes nothing.
use Prim.Native.Nat.{◌%◌}
use Rattle.numbers.specs.Words.{word, tabulate}
use Rattle.numbers.proofs.WordsLaws.{Writing}
use Rattle.series.proofs.kernel.reduce_sums.Given as goal

abbrev pub invariant-loop-i : goal.invariant-loop-i
invariant-loop-i l = Writing (tabulate l.i (λ k. word l.sums k % l.p)) l.initial.out l.out
