-- `read::values::reduce` meets its contract.
-- Assumes nothing.
use Prim.Native.Nat.{◌%◌}
use Rattle.numbers.specs.Words.{word}
use Rattle.read.proofs.ValueLaws.{Mapped}
use Rattle.read.proofs.values.reduce.Given as goal

abbrev pub invariant-loop-q : goal.invariant-loop-q
invariant-loop-q l = Mapped (λ k. word l.s k % l.p) l.q l.initial.out l.out
