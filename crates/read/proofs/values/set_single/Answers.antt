-- `read::values::set_single` meets its contract.
-- Assumes nothing.
use native.Mathlib.Omega.{arith}
use Rattle.read.proofs.ValueLaws.{mapped_fill, single-set, single-none}
use Rattle.read.proofs.values.set_single.Goals as goal

pub returns-then-k-n : goal.returns-then-k-n
returns-then-k-n c =
    let a = c.args in
    single-set a.n a.i a.k a.v _ _ (mapped_fill _ _ _ (c.fill.ensures.after (λ x e. e)) (omega arith)) (omega arith) (omega arith) (omega arith)

pub returns-else-k-n : goal.returns-else-k-n
returns-else-k-n c =
    let a = c.args in
    single-none a.n a.i a.k a.v _ _ (mapped_fill _ _ _ (c.fill.ensures.after (λ x e. e)) (omega arith)) c.if-k-n.false
