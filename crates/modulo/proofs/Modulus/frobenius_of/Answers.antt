-- `modulo::Modulus::frobenius_of` meets its contract.
-- Assumes nothing.
use mathlib.Core.Path.{refl, sym, subst, ◌∙◌}
use native.Mathlib.Omega.{arith}
use lib.ListN.{length}
use Rattle.numbers.specs.internal.Facts.{AllBelow}
use Rattle.modulo.proofs.SplitLaws.{frobenius-is}
use Rattle.modulo.proofs.ProductLaws.{room-long, sums-lent, sums-fit, lent-long, modulus-at}
use Rattle.modulo.proofs.Modulus.frobenius_of.Goals as goal

pub slice_bounds-line_of-end : goal.slice_bounds-line_of-end
slice_bounds-line_of-end c = sym (room-long (length c.args.out.now) (modulus-at c.args.self.fits c.requires.1).few)

pub line_of-requires : goal.line_of-requires
line_of-requires c =
    (c.requires.0, omega (arith, c.requires.1, room-long (length c.args.out.now) (modulus-at c.args.self.fits c.requires.1).few))

pub power_of-requires : goal.power_of-requires
power_of-requires c =
    (c.requires.0, omega arith, (modulus-at c.args.self.fits c.requires.1).small, omega (arith, c.requires.1, room-long (length c.args.out.now) (modulus-at c.args.self.fits c.requires.1).few))

pub slice_bounds-powered-end-2 : goal.slice_bounds-powered-end-2
slice_bounds-powered-end-2 c = sums-fit (modulus-at c.args.self.fits c.requires.1) c.power_of.ensures.congruent

pub slice_bounds-subtract-end : goal.slice_bounds-subtract-end
slice_bounds-subtract-end c =
    let m = (modulus-at c.args.self.fits c.requires.1) in
    sym (lent-long m c.power_of.ensures.congruent)

pub slice_bounds-y-end-2 : goal.slice_bounds-y-end-2
slice_bounds-y-end-2 c =
    let m = (modulus-at c.args.self.fits c.requires.1) in
    sums-fit m c.line_of.ensures.congruent

pub slice_bounds-subtract-end-2 : goal.slice_bounds-subtract-end-2
slice_bounds-subtract-end-2 c =
    let m = (modulus-at c.args.self.fits c.requires.1) in
    sym (lent-long m c.line_of.ensures.congruent)

pub subtract-requires : goal.subtract-requires
subtract-requires c =
    let m = (modulus-at c.args.self.fits c.requires.1) in
    let a = c.power_of.ensures in
    let y = c.line_of.ensures in (
      m.positive,
      m.small,
      lent-long m y.congruent ∙ sym (lent-long m a.congruent),
      omega (arith, lent-long m a.congruent),
      subst (AllBelow c.args.self.p) (sym (sums-lent m a.congruent)) a.below,
      subst (AllBelow c.args.self.p) (sym (sums-lent m y.congruent)) y.below,
    )

pub returns : goal.returns
returns c =
    let y = c.line_of.ensures in
    let a = c.power_of.ensures in
    frobenius-is c.args.self.p _ c.args.self.f.now _ _ c.args.out.now _ (modulus-at c.args.self.fits c.requires.1) y a refl c.subtract.ensures
