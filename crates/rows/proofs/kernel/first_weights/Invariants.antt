-- `rows::kernel::first_weights` meets its contract. The loop's invariant: the weights before i are written.
-- Assumes nothing.
use Rattle.numbers.specs.Words.{tabulate}
use Rattle.numbers.proofs.WordsLaws.{Writing}
use Rattle.rows.specs.Rows.{line_power}
use Rattle.rows.proofs.kernel.first_weights.Given as goal

abbrev pub invariant-loop-i : goal.invariant-loop-i
invariant-loop-i l = Writing (tabulate l.i (λ k. line_power l.p l.c k 0)) l.initial.weights l.weights
