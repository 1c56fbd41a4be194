-- `read::values::set_x` meets its contract.
-- Assumes nothing.
use native.Mathlib.Omega.{arith}
use Rattle.read.proofs.ValueLaws.{stored-x}
use Rattle.read.proofs.values.set_x.Goals as goal

pub returns : goal.returns
returns c = stored-x _ _ _ (omega arith) c.set_single.ensures
