-- `read::values::set_y` meets its contract.
-- Assumes nothing.
use native.Mathlib.Omega.{arith}
use Rattle.read.proofs.ValueLaws.{stored-y}
use Rattle.read.proofs.values.set_y.Goals as goal

pub returns : goal.returns
returns c = stored-y _ _ _ (omega arith) (omega arith) c.set_single.ensures
