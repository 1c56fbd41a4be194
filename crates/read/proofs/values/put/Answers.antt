-- `read::values::put` meets its contract.
-- Assumes nothing.
use Rattle.read.proofs.ValueLaws.{over-taken}
use Rattle.read.proofs.values.put.Goals as goal

pub returns : goal.returns
returns c = over-taken _ _ _ _ c.copy_from_slice.ensures.after c.requires.0
