-- `rows::kernel::next_weights` meets its contract. The loop's invariant: the weights before i are the new ones, the others the old.
-- Assumes nothing.
use mathlib.Core.Path.{◌≡◌}
use Prim.Native.Nat.{◌-◌}
use Rattle.numbers.specs.Words.{tabulate, word}
use Rattle.numbers.proofs.WordsLaws.{Writing}
use Rattle.rows.specs.internal.Passes.{next_weight}
use Rattle.rows.proofs.RowsLaws.{before}
use Rattle.rows.proofs.kernel.next_weights.Given as goal

abbrev pub invariant-loop-i : goal.invariant-loop-i
invariant-loop-i l = Writing (tabulate l.i (next_weight l.p l.c (word (before l.initial.weights l.initial.before)))) l.initial.weights l.weights × (l.before ≡ word (before l.initial.weights l.initial.before) (l.i - 1))
