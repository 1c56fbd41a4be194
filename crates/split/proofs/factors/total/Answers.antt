-- `split::factors::total` meets its contract.
-- Assumes nothing.
use mathlib.Core.Path.{sym}
use Prim.Native.Nat.{◌+◌}
use native.Mathlib.Omega.{arith}
use lib.ListN.{length}
use Rattle.numbers.specs.Words.{word}
use Rattle.algebra.proofs.SumsLaws.{sum_to-zero, sum_to-mono}
use Rattle.series.proofs.SeriesLaws.{sum-next}
use Rattle.split.proofs.factors.total.Goals as goal

pub loop-power-init : goal.loop-power-init
loop-power-init c = sym (sum_to-zero _)

pub overflow_add-sum : goal.overflow_add-sum
overflow_add-sum c =
    let i = c.loop-power.power-index in
    let f = word c.args.powers.now in
    omega (arith, sum_to-mono (i + 1) (length c.args.powers.now) f (omega arith), sum-next i f)

pub loop-power-preserved : goal.loop-power-preserved
loop-power-preserved c = omega (arith, sum-next c.loop-power.power-index (word c.args.powers.now))
