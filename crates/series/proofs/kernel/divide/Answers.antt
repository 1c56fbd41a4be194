-- `series::kernel::divide` meets its contract. The loop's invariant: out has the columns of the quotient before t, and past them what it had.
-- Assumes nothing.
use mathlib.Core.Path.{◌≡◌}
use native.Mathlib.Omega.{arith}
use lib.ListN.{length, take}
use lib.Seq.{length-take-le}
use Rattle.numbers.proofs.WordsLaws.{writing-none, length_from, from-below}
use Rattle.series.specs.Series.{quotient}
use Rattle.series.proofs.SeriesLaws.{quotient-below, length-quotient, written-columns, turn-column, column-store}
use Rattle.series.proofs.kernel.divide.Goals as goal

pub loop-t-init : goal.loop-t-init
unfolding quotient
loop-t-init c = writing-none _

pub dot-sum-requires : goal.dot-sum-requires
dot-sum-requires c =
    let turn = c.loop-t in
    let a = c.args in
    let t = turn.t in
    let w = written-columns a.p t a.f.now a.g.now _ _ turn.invariant in
    let l : length (take t turn.out) ≡ t = length-take-le _ _ (omega arith) in (
      omega (arith, length_from a.g.now 1),
      omega arith,
      omega arith,
      λ k h. omega (arith, from-below a.p a.g.now 1 c.requires.6 k h),
      λ k h. rw w (omega (arith, quotient-below a.p (omega arith) t a.f.now a.g.now k (omega (arith, length-quotient a.p t a.f.now a.g.now)))),
    )

pub loop-t-preserved : goal.loop-t-preserved
loop-t-preserved c =
    let l = c.loop-t in
    let w = written-columns _ _ _ _ _ _ l.invariant in
    let v = turn-column _ _ _ _ _ _ _ _ w c.dot-sum.ensures c.word_or_zero-a.ensures c.inverse_of-inverse.ensures in
    column-store _ _ _ _ _ _ _ l.invariant v (omega arith)
