-- `series::kernel::divide` meets its contract. The loop's invariant: out has the columns of the quotient before t, and past them what it had.
-- Assumes nothing.
use Rattle.numbers.proofs.WordsLaws.{Writing}
use Rattle.series.specs.Series.{quotient}
use Rattle.series.proofs.kernel.divide.Given as goal

abbrev pub invariant-loop-t : goal.invariant-loop-t
invariant-loop-t l = Writing (quotient l.p l.t l.f l.g) l.initial.out l.out
