-- `rows::kernel::multiply` meets its contract. The loop's invariant: out has the rows of the product before j, and past them what it had.
-- Assumes nothing.
use Rattle.numbers.proofs.WordsLaws.{Writing}
use Rattle.rows.specs.Rows.{rows_of, table, mul}
use Rattle.rows.proofs.kernel.multiply.Given as goal

abbrev pub invariant-loop-j : goal.invariant-loop-j
invariant-loop-j l = Writing (table l.j l.n (mul l.p (rows_of l.f l.n l.frows) (rows_of l.g l.n l.grows))) l.initial.out l.out
