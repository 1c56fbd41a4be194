-- `modulo::Modulus::line_of` meets its contract.
-- Assumes nothing.
use mathlib.Core.Path.{ap, ◌∙◌}
use native.Mathlib.Omega.{arith}
use lib.ListN.{length}
use Rattle.numbers.proofs.WordsLaws.{length-tabulate}
use Rattle.modulo.specs.internal.Modulo.{plus}
use Rattle.modulo.proofs.ProductLaws.{one_below, line-is, modulus-at}
use Rattle.modulo.proofs.Modulus.line_of.Goals as goal

pub times_plus-requires : goal.times_plus-requires
times_plus-requires c =
    let q = c.start_row.ensures in
    let m = (modulus-at c.args.self.fits c.requires.1) in (
      omega arith,
      omega (arith, c.requires.1, ap length q ∙ length-tabulate _ _),
      one_below c.args.self.p (length c.args.out.now) m.some _ (omega arith) q,
    )

pub returns : goal.returns
returns c =
    let q = c.start_row.ensures in
    line-is c.args.self.p (length c.args.out.now) (modulus-at c.args.self.fits c.requires.1).some c.args.self.f.now _ _ (plus c.args.self.p 0) q c.times_plus.ensures
