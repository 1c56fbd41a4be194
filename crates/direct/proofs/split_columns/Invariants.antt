-- `direct::split_columns` meets its contract.
-- Assumes nothing.
use mathlib.Core.Path.{◌≡◌}
use Prim.Native.Nat.{◌+◌}
use lib.ListN.{length}
use Rattle.solution.specs.internal.Table.{SplitTo}
use Rattle.direct.proofs.split_columns.Given as goal

abbrev pub invariant-loop-t : goal.invariant-loop-t
invariant-loop-t l = (length l.e ≡ l.m + l.k) × (length l.column ≡ l.m + l.k) × SplitTo l.p l.n l.m l.k l.p0 l.a0 l.h l.t l.initial.rows l.rows
