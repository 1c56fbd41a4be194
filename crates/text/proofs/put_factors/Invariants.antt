-- `text::put_factors` meets its contract: factor after factor.
-- Assumes nothing.
use Prim.Native.Nat.{◌+◌, ◌*◌}
use Rattle.algebra.specs.Sums.{sum_to}
use Rattle.layout.specs.Layout.{power}
use Rattle.text.specs.internal.Rooms.{root_room, row_room}
use Rattle.text.specs.internal.Putting.{Puts}
use Rattle.text.specs.Text.{join_to, factor_text}
use Rattle.text.proofs.put_factors.Given as goal

abbrev pub invariant-loop-i : goal.invariant-loop-i
invariant-loop-i l = Puts (root_room * l.i + row_room * sum_to l.i (power l.sheet)) (join_to l.i (factor_text l.sheet)) l.at l.initial.out l.place l.out
