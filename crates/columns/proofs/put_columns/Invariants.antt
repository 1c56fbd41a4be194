-- `columns::put_columns` meets its contract. The loop's invariant: the columns are put into the rows before j.
-- Assumes nothing.
use Prim.Native.Nat.{◌+◌, ◌*◌}
use Rattle.numbers.specs.Words.{word}
use Rattle.columns.specs.internal.Column.{ColumnsSet}
use Rattle.columns.proofs.put_columns.Given as goal

abbrev pub invariant-loop-j : goal.invariant-loop-j
invariant-loop-j l = ColumnsSet l.n l.h l.w l.j (λ i t. word l.f (i * l.n + t)) l.initial.rows l.rows
