-- `text::put_more` meets its contract: entry after entry.
-- Assumes nothing.
use Prim.Native.Nat.{◌*◌}
use lib.ListN.{take}
use Rattle.text.specs.internal.Putting.{Puts}
use Rattle.text.specs.Text.{more_numbers}
use Rattle.text.proofs.put_more.Given as goal

abbrev pub invariant-loop-v : goal.invariant-loop-v
invariant-loop-v l = Puts (11 * l.v-index) (more_numbers l.profile l.p (take l.v-index l.words)) l.at l.initial.out l.place l.out
