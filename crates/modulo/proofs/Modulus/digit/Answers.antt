-- `modulo::Modulus::digit` meets its contract.
-- Assumes nothing.
use native.Mathlib.Omega.{arith}
use Rattle.modulo.proofs.ProductLaws.{sums-long, digit-none, digit-one, modulus-at}
use Rattle.modulo.proofs.Modulus.digit.Goals as goal

pub times_plus-requires : goal.times_plus-requires
times_plus-requires c =
    let r = c.square.ensures in
    (c.requires.0, omega (arith, c.requires.2, sums-long (modulus-at c.args.self.fits c.requires.2) r.congruent), r.below)

pub returns-then-one-eq1 : goal.returns-then-one-eq1
returns-then-one-eq1 c =
    let a = c.args in
    let r = c.square.ensures in
    digit-one a.self.p a.self.f.now a.c a.one a.out.now _ _ (omega arith) r c.times_plus.ensures

pub returns-else-one-eq1 : goal.returns-else-one-eq1
returns-else-one-eq1 c =
    let a = c.args in
    digit-none a.self.p a.self.f.now a.c a.one a.out.now _ (omega arith) c.square.ensures
