-- `solution::product_of` meets its contract.
-- Assumes nothing.
use mathlib.Core.Path.{refl, ap, ◌∙◌}
use native.Mathlib.Omega.{arith}
use lib.ListN.{length}
use Rattle.numbers.proofs.WordsLaws.{length-tabulate}
use Rattle.solution.proofs.TableLaws.{unit-words, unit-below, unit-long, unit-room}
use Rattle.columns.specs.internal.Column.{first_only}
use Rattle.solution.proofs.product_of.Goals as goal

pub expand-requires : goal.expand-requires
expand-requires c =
    let a = c.args in
    let r = c.requires in
    let q = c.start_row.ensures in (
      omega arith,
      omega arith,
      unit-room a.c.now a.out.now _ _ r.2 q,
      r.3,
      unit-below a.p a.out.now _ _ r.0 q (omega (arith, ap length q, length-tabulate (length a.out.now) (first_only 0))),
    )

pub shape_of-out : goal.shape_of-out
shape_of-out c =
    let a = c.args in
    c.expand.ensures.long ∙ unit-long a.c.now a.out.now _ _ c.requires.2 c.start_row.ensures

pub returns : goal.returns
returns c =
    let a = c.args in
    unit-words a.p a.c.now a.out.now _ _ _ c.requires.2 c.start_row.ensures refl c.expand.ensures
