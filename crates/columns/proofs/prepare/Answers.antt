-- `columns::prepare` meets its contract.
-- Assumes nothing.
use native.Mathlib.Omega.{arith}
use Rattle.columns.proofs.ColumnLaws.{length-horner, horner-below}
use Rattle.columns.proofs.prepare.Goals as goal

pub inverse_of-requires : goal.inverse_of-requires
inverse_of-requires c =
    let h = c.requires in
    let a = c.args in (
      rw c.horner.ensures h.5,
      rw c.horner.ensures (horner-below a.p (omega arith) a.c a.a.now 0 (omega (arith, length-horner a.p a.c a.a.now))),
      omega arith,
      h.0,
    )
