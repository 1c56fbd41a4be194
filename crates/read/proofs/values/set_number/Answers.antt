-- `read::values::set_number` meets its contract.
-- Assumes nothing.
use native.Mathlib.Omega.{arith}
use Rattle.read.proofs.ValueLaws.{stored-constant}
use Rattle.read.proofs.values.set_number.Goals as goal

pub returns : goal.returns
returns c = stored-constant _ _ _ _ (omega arith) c.set_single.ensures
