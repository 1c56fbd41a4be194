-- `read::values::raise` meets its contract.
-- Assumes nothing.
use mathlib.Core.Path.{◌≡◌, refl, ◌∙◌}
use native.Mathlib.Omega.{arith}
use Rattle.std.specs.Prelude.{None}
use Rattle.read.proofs.ValueLaws.{power-none, power-next, power-high, power-all, stored-copy}
use Rattle.read.proofs.values.raise.Goals as goal

pub loop-init : goal.loop-init
loop-init c = (omega arith, omega arith, refl, c.copy.auto.out, λ f s. power-none _ _ f _ c.set_number.ensures)

pub returns-in_err-count : goal.returns-in_err-count
returns-in_err-count c =
    let a = c.args in
    let e : c.from_residual.result ≡ None = cc in
    rw e (λ f s. let b = stored-copy a.ring.p a.ring.n f a.rows _ _ c.copy.ensures s in let r = c.loop.invariant.4 f b in power-high a.ring.p a.ring.n f _ _ _ r _ c.loop-test.true (c.in_err-count.ensures.1 _ _ r.stored b))

pub loop-preserved : goal.loop-preserved
loop-preserved c =
    let a = c.args in
    let i = c.loop.invariant in
    let m = c.in_ok-count.ensures in
    (m.0.0, m.0.1, c.multiply.auto.out ∙ i.2, i.3, λ f b. let r = i.4 f b in power-next a.ring.p a.ring.n f _ _ _ r _ _ (m.1 _ _ r.stored b))

pub returns : goal.returns
returns c =
    let a = c.args in
    λ f s. let b = stored-copy a.ring.p a.ring.n f a.rows _ _ c.copy.ensures s in let i = c.loop.invariant in power-all a.ring.p a.ring.n f _ _ _ _ (omega arith) (i.4 f b)
