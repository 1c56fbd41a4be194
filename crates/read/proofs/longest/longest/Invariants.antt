-- `read::longest::longest` meets its contract: the best part so far begins between the place and where the next one begins.
-- Assumes nothing.
use Prim.Native.Nat.{◌-◌, ◌≤◌}
use lib.ListN.{length}
use Rattle.read.proofs.longest.longest.Given as goal

abbrev pub invariant-loop-size : goal.invariant-loop-size
invariant-loop-size l = (l.at ≤ l.best) × (l.best ≤ l.from) × (l.from ≤ length l.text)

abbrev pub decreases-loop-size : goal.decreases-loop-size
decreases-loop-size l = length l.text - l.from
