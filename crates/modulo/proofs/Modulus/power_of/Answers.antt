-- `modulo::Modulus::power_of` meets its contract. The loop's invariant: the power by the digits of n down to that of `bit`.
-- Assumes nothing.
use native.Mathlib.Omega.{arith}
use Rattle.modulo.proofs.ProductLaws.{powering-none, powering-step, modulus-at}
use Rattle.modulo.proofs.Modulus.power_of.Goals as goal

pub loop-bit-init : goal.loop-bit-init
loop-bit-init c =
    let m = (modulus-at c.args.self.fits c.requires.3) in
    let b = c.bit_above-bit.ensures in
    (omega (arith, b.1), powering-none c.args.self.p c.args.self.f.now c.args.c c.args.n _ _ _ b.0 b.1 (omega arith) m.some m.long c.start_row.ensures)

pub loop-bit-preserved : goal.loop-bit-preserved
loop-bit-preserved c =
    let a = c.args in
    let o = c.loop-bit in
    (omega arith, powering-step a.self.p a.self.f.now a.c a.n o.bit o.out o.invariant.1 (omega arith) _ c.digit.ensures)
