-- `modulo::Modulus::times_plus` meets its contract.
-- Assumes nothing.
use mathlib.Core.Path.{sym}
use native.Mathlib.Omega.{arith}
use lib.ListN.{length}
use Rattle.modulo.proofs.ProductLaws.{room-long, room-empty, sums-fit, lent-long, lent-reduce, modulus-two, line-below, line-product, modulus-at}
use Rattle.modulo.proofs.Modulus.times_plus.Goals as goal

pub slice_bounds-product_sums-end-2 : goal.slice_bounds-product_sums-end-2
slice_bounds-product_sums-end-2 c = sym (room-long (length c.args.out.now) (modulus-at c.args.self.fits c.requires.1).few)

pub product_sums-requires : goal.product_sums-requires
product_sums-requires c =
    let m = (modulus-at c.args.self.fits c.requires.1) in
    let d = room-long (length c.args.out.now) m.few in
    (omega arith, sym d, omega (arith, d, c.requires.1), line-below c.args.self.p c.args.c (modulus-two m) c.requires.0, c.requires.2, room-empty (length c.args.out.now) m.few)

pub slice_bounds-acc-end-2 : goal.slice_bounds-acc-end-2
slice_bounds-acc-end-2 c = sums-fit (modulus-at c.args.self.fits c.requires.1) c.product_sums.ensures

pub slice_bounds-reduce_sums-end : goal.slice_bounds-reduce_sums-end
slice_bounds-reduce_sums-end c = sym (lent-long (modulus-at c.args.self.fits c.requires.1) c.product_sums.ensures)

pub reduce_sums-requires : goal.reduce_sums-requires
reduce_sums-requires c =
    let m = (modulus-at c.args.self.fits c.requires.1) in
    (m.positive, m.small, omega (arith, lent-long m c.product_sums.ensures))

pub returns : goal.returns
returns c =
    let a = c.args in
    lent-reduce (modulus-at c.args.self.fits c.requires.1) (line-product a.self.p a.self.f.now a.c a.out.now _ c.product_sums.ensures) _ c.reduce_sums.ensures
