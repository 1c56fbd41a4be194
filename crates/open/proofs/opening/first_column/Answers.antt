-- `open::opening::first_column` meets its contract.
-- Assumes nothing.
use mathlib.Core.Path.{◌≡◌, sym}
use Prim.Native.Nat.{◌+◌, ◌≤◌}
use native.Mathlib.Omega.{arith}
use lib.ListN.{length, take}
use lib.Seq.{length-take-le}
use Rattle.open.proofs.FirstColumnLaws.{column-loaded}
use Rattle.open.proofs.opening.first_column.Goals as goal
use Rattle.open.proofs.opening.first_column.Lts as step
use Rattle.open.proofs.opening.first_column.Reads as reads
use Rattle.open.proofs.opening.first_column.Tie as tie

room : (s : step.Start tie.the-claims reads.Pre reads.Post) → s.args.d + 1 ≤ length s.args.e.now
room s = let h = s.requires in omega arith

lent : (s : step.Start tie.the-claims reads.Pre reads.Post) → length (take (s.args.d + 1) s.args.e.now) ≡ s.args.d + 1
lent s = length-take-le (s.args.d + 1) s.args.e.now (room s)

pub slice_bounds-load_column-end-2 : goal.slice_bounds-load_column-end-2
slice_bounds-load_column-end-2 c = sym (lent c.before.before.before.before)

pub load_column-requires : goal.load_column-requires
load_column-requires c = let h = c.requires in let n = lent c.before.before.before.before in (h.2, h.1, omega arith, rw n (omega arith))

pub returns : goal.returns
returns c = column-loaded c.args.rows.now c.args.d c.args.n c.args.e.now _ (room c.before.before.before.before.before.before.before) c.load_column.ensures
