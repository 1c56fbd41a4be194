-- `text::put_rows` meets its contract: line after line.
-- Assumes nothing.
use Prim.Native.Nat.{◌*◌}
use Rattle.layout.specs.Layout.{rows_at}
use Rattle.text.specs.internal.Rooms.{row_room}
use Rattle.text.specs.internal.Putting.{Puts}
use Rattle.text.specs.Text.{row_lines}
use Rattle.text.proofs.put_rows.Given as goal

abbrev pub invariant-loop-j : goal.invariant-loop-j
invariant-loop-j l = Puts (row_room * l.j) (row_lines l.profile l.p l.n l.j (rows_at l.words l.from l.n)) l.at l.initial.out l.place l.out
