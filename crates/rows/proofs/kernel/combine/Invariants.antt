-- `rows::kernel::combine` meets its contract. The loop's invariant: out has the columns of the row before t.
-- Assumes nothing.
use Prim.Native.Nat.{◌%◌}
use Rattle.numbers.specs.Words.{tabulate}
use Rattle.numbers.proofs.WordsLaws.{Writing}
use Rattle.rows.specs.internal.Passes.{weight_sum}
use Rattle.rows.proofs.kernel.combine.Given as goal

abbrev pub invariant-loop-t : goal.invariant-loop-t
invariant-loop-t l = Writing (tabulate l.t (λ k. weight_sum l.f l.n l.weights k % l.p)) l.initial.out l.out
