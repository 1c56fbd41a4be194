-- `read::values::negate` meets its contract: the words before the next one are taken from 0, the others are as they were.
-- Assumes nothing.
use Prim.Native.Nat.{◌-◌, ◌%◌}
use Rattle.numbers.specs.Words.{word}
use Rattle.read.proofs.ValueLaws.{Mapped}
use Rattle.read.proofs.values.negate.Given as goal

abbrev pub invariant-loop-x : goal.invariant-loop-x
invariant-loop-x l = Mapped (λ k. (l.p - word l.initial.x-items k % l.p) % l.p) l.x-index l.initial.x-items l.x-items
