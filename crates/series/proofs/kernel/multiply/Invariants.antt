-- `series::kernel::multiply` meets its contract. The loop's invariant: out has the columns of the product before t, and past them what it had.
-- Assumes nothing.
use Rattle.numbers.specs.Words.{tabulate}
use Rattle.numbers.proofs.WordsLaws.{Writing}
use Rattle.series.specs.Series.{product_column}
use Rattle.series.proofs.kernel.multiply.Given as goal

abbrev pub invariant-loop-t : goal.invariant-loop-t
invariant-loop-t l = Writing (tabulate l.t (product_column l.p l.g l.h)) l.initial.out l.out
