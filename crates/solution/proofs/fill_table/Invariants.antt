-- `solution::fill_table` meets its contract.
-- Assumes nothing.
use Prim.Native.Nat.{◌<◌}
use Rattle.numbers.specs.Words.{word}
use Rattle.numbers.specs.internal.Facts.{AllBelow}
use Rattle.solution.specs.internal.Table.{Solution, Table}
use Rattle.solution.proofs.fill_table.Given as goal

abbrev pub invariant-loop-j : goal.invariant-loop-j
invariant-loop-j l = AllBelow l.p l.row × Table l.p l.m l.k (word l.p0) (word l.a0) l.j l.table × (l.j < l.n → Solution l.p l.m l.k (word l.p0) (word l.a0) l.j (word l.row))
