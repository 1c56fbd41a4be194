-- `split::factors::spread` meets its contract.
-- Assumes nothing.
use mathlib.Core.Path.{◌≡◌}
use lib.ListN.{length}
use Rattle.numbers.specs.Words.{word}
use Rattle.algebra.specs.Sums.{sum_to}
use Rattle.split.specs.internal.Found.{Spread}
use Rattle.split.proofs.factors.spread.Given as goal

abbrev pub invariant-loop-root : goal.invariant-loop-root
invariant-loop-root l = (l.a ≡ sum_to (length l.yielded) (word l.powers)) × (length l.c ≡ length l.initial.c) × Spread l.roots l.powers (length l.yielded) l.c
