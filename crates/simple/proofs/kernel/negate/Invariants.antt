-- `simple::kernel::negate` meets its contract. The invariant: the first i words are negated.
-- Assumes nothing.
use Prim.Native.Nat.{◌-◌, ◌%◌}
use Rattle.numbers.specs.Words.{word, tabulate}
use Rattle.numbers.proofs.WordsLaws.{Writing}
use Rattle.simple.proofs.kernel.negate.Given as goal

abbrev pub invariant-loop-i : goal.invariant-loop-i
invariant-loop-i l = Writing (tabulate l.i (λ k. (l.p - word l.words k) % l.p)) l.initial.out l.out
