-- `solution::next_part` meets its contract.
-- Assumes nothing.
use Prim.Native.Nat.{◌≤◌}
use Rattle.solution.specs.internal.Table.{next_word}
use Rattle.columns.proofs.ColumnLaws.{Sinking}
use Rattle.solution.proofs.next_part.Given as goal

abbrev pub invariant-loop-j : goal.invariant-loop-j
invariant-loop-j l = (1 ≤ l.j) × Sinking (next_word l.p l.q l.b l.initial.e) l.initial.e l.e l.j
