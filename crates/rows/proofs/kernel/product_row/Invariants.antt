-- `rows::kernel::product_row` meets its contract. The loop's invariant: out has the columns of the row before t.
-- Assumes nothing.
use Rattle.numbers.specs.Words.{tabulate}
use Rattle.numbers.proofs.WordsLaws.{Writing}
use Rattle.rows.specs.Rows.{rows_of, mul}
use Rattle.rows.proofs.kernel.product_row.Given as goal

abbrev pub invariant-loop-t : goal.invariant-loop-t
invariant-loop-t l = Writing (tabulate l.t (mul l.p (rows_of l.f l.n l.frows) (rows_of l.g l.n l.grows) l.j)) l.initial.out l.out
