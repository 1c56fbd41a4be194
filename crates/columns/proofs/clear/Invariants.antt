-- `columns::clear` meets its contract. The loop's invariant: the rows before j are cleared.
-- Assumes nothing.
use Rattle.columns.specs.internal.Column.{ColumnsSet}
use Rattle.columns.proofs.clear.Given as goal

abbrev pub invariant-loop-j : goal.invariant-loop-j
invariant-loop-j l = ColumnsSet l.n l.w l.n l.j (λ _ _. 0) l.initial.rows l.rows
