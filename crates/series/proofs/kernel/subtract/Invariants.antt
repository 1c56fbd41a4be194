-- `series::kernel::subtract` meets its contract. The loop's invariant: out has the words of the difference before t, and past them what it had.
-- Assumes nothing.
use Prim.Native.Nat.{◌-◌, ◌+◌, ◌%◌}
use Rattle.numbers.specs.Words.{word, tabulate}
use Rattle.numbers.proofs.WordsLaws.{Writing}
use Rattle.series.proofs.kernel.subtract.Given as goal

abbrev pub invariant-loop-t : goal.invariant-loop-t
invariant-loop-t l = Writing (tabulate l.t (λ k. (word l.g k + (l.p - word l.h k)) % l.p)) l.initial.out l.out
