-- `read::values::lead` meets its contract.
-- Assumes nothing.
use native.Mathlib.Omega.{arith}
use Rattle.read.proofs.ValueLaws.{stored-negated, leading-minus}
use Rattle.read.proofs.values.lead.Goals as goal

pub returns-then-minus : goal.returns-then-minus
returns-then-minus c =
    let the-args = c.args in
    λ f rows l e s. leading-minus _ _ f _ _ l _ e c.if-minus.true (stored-negated the-args.ring.p the-args.ring.n f rows _ _ (omega arith) c.negate.ensures s)
