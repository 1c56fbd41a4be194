-- `powers::find_powers` meets its contract. The loop's invariant is `Finding`.
-- Assumes nothing.
use mathlib.Core.Path.{ap}
use Prim.Native.Nat.{◌+◌}
use native.Mathlib.Omega.{arith}
use lib.Dec.{eqb}
use Rattle.powers.proofs.FindingLaws.{searching-none, searching-step, searching-stops, searching-ends, searching-long}
use Rattle.powers.proofs.find_powers.Goals as goal

pub loop-i-init : goal.loop-i-init
loop-i-init c =
    let h = c.requires in
    let a = c.args in
    searching-none a.p a.roots.now a.e.now a.powers.now h.0 h.2 h.3 h.5 h.7 h.8

pub returns-then-b-at : goal.returns-then-b-at
returns-then-b-at c =
    let a = c.args in
    let o = c.loop-i in
    searching-stops a.p a.roots.now a.e.now o.i o.at o.e o.powers o.invariant (omega arith) _ _ c.divide_out-b.ensures c.if-b-at.true _

pub loop-i-preserved : goal.loop-i-preserved
loop-i-preserved c =
    let a = c.args in
    let o = c.loop-i in
    searching-step a.p a.roots.now a.e.now o.i o.at o.e o.powers o.invariant (omega arith) _ _ c.divide_out-b.ensures (omega arith) (omega (arith, o.auto.powers))

pub returns : goal.returns
returns c =
    let a = c.args in
    let o = c.loop-i in
    let n = (searching-long a.p a.roots.now a.e.now o.i o.at o.e o.powers o.invariant).0 in
    searching-ends a.p a.roots.now a.e.now o.i o.at o.e o.powers o.invariant (omega arith) _ (ap (λ k. eqb (o.at + 1) k) n)
