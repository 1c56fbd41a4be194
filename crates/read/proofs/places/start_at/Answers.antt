-- `read::places::start_at` meets its contract.
-- Assumes nothing.
use mathlib.Core.Path.{sym}
use Rattle.read.proofs.ByteLaws.{unsigned, is_signed}
use Rattle.read.proofs.places.start_at.Goals as goal

pub returns-in-None : goal.returns-in-None
returns-in-None c = unsigned _ _ _ c.look-q.ensures (sym c.in-None.ensures)

pub returns-in-Some : goal.returns-in-Some
returns-in-Some c = is_signed _ _ _ c.look-q.ensures _ _ (sym c.in-Some.ensures) c.eq.ensures
