-- `layout::rows_before` meets its contract. The loop's invariant: the sum is that of the powers before l.
-- Assumes nothing.
use native.Mathlib.Omega.{arith}
use Rattle.algebra.proofs.SumsLaws.{sum_to-zero, sum_to-bound}
use Rattle.numbers.specs.Limits.{largest_degree}
use Rattle.series.proofs.SeriesLaws.{sum-next}
use Rattle.layout.specs.Layout.{power}
use Rattle.layout.proofs.rows_before.Goals as goal

pub loop-l-init : goal.loop-l-init
loop-l-init c = omega (arith, sum_to-zero (power c.args.s.now))

pub overflow_add-sum : goal.overflow_add-sum
overflow_add-sum c =
    let p = c.power_at.ensures in
    omega (arith, c.requires.3 c.loop-l.l (omega arith), sum_to-bound c.loop-l.l largest_degree (power c.args.s.now) (λ k g. c.requires.3 k (omega arith)))

pub loop-l-preserved : goal.loop-l-preserved
loop-l-preserved c = let p = c.power_at.ensures in omega (arith, sum-next c.loop-l.l (power c.args.s.now))
