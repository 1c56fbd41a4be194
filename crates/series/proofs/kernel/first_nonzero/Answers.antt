-- `series::kernel::first_nonzero` meets its contract. The loop's invariant: the words k · step for k below i are 0.
-- Assumes nothing.
use native.Mathlib.Omega.{arith}
use Rattle.numbers.proofs.WordsLaws.{nonzero-is}
use Rattle.series.proofs.kernel.first_nonzero.Goals as goal

pub returns-then-s-i-ne0 : goal.returns-then-s-i-ne0
returns-then-s-i-ne0 c = nonzero-is _ _ _ c.loop-i.auto.i-end c.loop-i.invariant (λ _. c.if-s-i-ne0.true)

pub returns : goal.returns
returns c = let x = c.args in nonzero-is _ _ x.count (omega arith) (λ k l. c.loop-i.invariant k (omega arith)) (λ l. omega arith)
