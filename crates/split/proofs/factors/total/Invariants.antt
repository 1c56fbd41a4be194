-- `split::factors::total` meets its contract.
-- Assumes nothing.
use mathlib.Core.Path.{◌≡◌}
use Rattle.numbers.specs.Words.{word}
use Rattle.algebra.specs.Sums.{sum_to}
use Rattle.split.proofs.factors.total.Given as goal

abbrev pub invariant-loop-power : goal.invariant-loop-power
invariant-loop-power l = l.sum ≡ sum_to l.power-index (word l.powers)
