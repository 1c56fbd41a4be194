-- `tiled::Tiling::columns` meets its contract. The loop's invariant: the columns below t are split, and stand beside the rows.
-- Assumes nothing.
use mathlib.Core.Path.{◌≡◌}
use Prim.Native.Nat.{◌+◌}
use lib.ListN.{length}
use Rattle.solution.specs.internal.Table.{SplitTo}
use Rattle.tiled.specs.internal.Tiled.{Stands}
use Rattle.tiled.proofs.Tiling.columns.Given as goal

abbrev pub invariant-loop-t : goal.invariant-loop-t
invariant-loop-t l = (length l.e ≡ l.self.m + l.self.k) × (length l.column ≡ l.self.m + l.self.k) × Stands l.self l.t l.rows l.pairs l.tiles × SplitTo l.self.p l.self.n l.self.m l.self.k l.p0 l.a0 l.h l.t l.initial.rows l.rows
