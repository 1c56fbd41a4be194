-- `columns::digit` meets its contract.
-- Assumes nothing.
use native.Mathlib.Omega.{arith}
use Rattle.columns.proofs.ColumnLaws.{digit-is}
use Rattle.columns.proofs.digit.Goals as goal

pub returns : goal.returns
returns c =
    let horner = c.horner in
    let a = c.args in
    digit-is a.p a.c a.inverse a.a.now a.e.now horner.new.e _ horner.ensures (omega arith) c.less_multiple.ensures
