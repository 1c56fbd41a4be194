-- `modulo::Modulus::product_sums` meets its contract. The loop's invariant: the coefficients of a from i on, times b, are added up.
-- Assumes nothing.
use mathlib.Core.Path.{◌≡◌, subst}
use native.Mathlib.Omega.{arith}
use lib.ListN.{length}
use Rattle.modulo.specs.internal.Modulo.{ModulusOf}
use Rattle.modulo.proofs.ProductLaws.{multiplying-none, multiplying-step, modulus-at}
use Rattle.modulo.proofs.Modulus.product_sums.Goals as goal

pub loop-i-init : goal.loop-i-init
loop-i-init c =
    multiplying-none c.args.self.p c.args.self.f.now c.args.a.now c.args.b.now c.args.acc.now (omega arith) c.requires.5

pub loop-i-preserved : goal.loop-i-preserved
loop-i-preserved c =
    let o = c.loop-i in
    let n = o.invariant.long in
    let e : length c.args.acc.now ≡ length o.acc = omega arith in
    let t = c.turn.ensures in
    let m = subst (ModulusOf c.args.self.p c.args.self.f.now) e (modulus-at c.args.self.fits c.requires.2) in
    multiplying-step c.args.self.p c.args.self.f.now c.args.a.now c.args.b.now o.i o.acc o.invariant (omega arith) (omega arith) m c.requires.3 c.requires.4 _ t
