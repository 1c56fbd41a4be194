-- `front::powers_fit` meets its contract. The loop's invariant: the powers before i are 1 or more, and `left` is what they leave of d.
-- Assumes nothing.
use Prim.Native.Nat.{◌≤◌, ◌+◌}
use native.Mathlib.Omega.{arith}
use borrow.Author.Count.{below_more}
use Rattle.algebra.proofs.SumsLaws.{sum_to-zero, sum_to-mono}
use Rattle.numbers.proofs.TestsLaws.{decides-no}
use Rattle.series.proofs.SeriesLaws.{sum-next}
use Rattle.layout.specs.Layout.{power}
use Rattle.front.proofs.powers_fit.Goals as goal

pub loop-i-init : goal.loop-i-init
loop-i-init c = (λ k l. absurd (let z : ⊥ = omega arith in z), omega (arith, sum_to-zero (power c.args.s.now)))

pub returns-then-not-one_to : goal.returns-then-not-one_to
returns-then-not-one_to c =
    let a = c.args in
    let f = power a.s.now in
    let i = c.loop-i.i in
    let e = c.power_at-m.ensures in
    decides-no (λ h. c.one_to.ensures.no (c.if-not-one_to.true) (record {
      low = omega (arith, h.each i (omega arith));
      upto = omega (arith, h.sum, sum_to-mono (i + 1) a.r f (omega arith), sum-next i f);
    }))

pub loop-i-preserved : goal.loop-i-preserved
loop-i-preserved c =
    let turn = c.loop-i in
    let f = power c.args.s.now in
    let w = c.one_to.ensures.yes (c.if-not-one_to.false) in
    let e = c.power_at-m.ensures in
    (below_more (λ l. 1 ≤ f l) _ turn.invariant.0 (omega arith), omega (arith, sum-next turn.i f))
