-- `layout::power_at` meets its contract: the word read is the power's. Written out, though all of it is found, so that a wrong place is
-- reported here and not first at the callers.
-- Assumes nothing.
use mathlib.Core.Path.{refl}
use Rattle.layout.proofs.power_at.Goals as goal

pub returns : goal.returns
returns c = refl
