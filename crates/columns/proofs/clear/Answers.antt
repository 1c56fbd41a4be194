-- `columns::clear` meets its contract. The loop's invariant: the rows before j are cleared.
-- Assumes nothing.
use Prim.Native.Nat.{◌-◌, ◌+◌, ◌*◌}
use native.Mathlib.Omega.{arith}
use Rattle.columns.proofs.ColumnsSetLaws.{clear_step}
use Rattle.columns.proofs.clear.Goals as goal

pub loop-j-preserved : goal.loop-j-preserved
loop-j-preserved c =
    let a = c.args in
    let l = c.loop-j in
    clear_step a.n a.w a.d l.j (l.j * a.n + a.n - (l.j * a.n + a.w)) a.rows.now l.rows _ (omega arith) (omega arith) c.requires.3 (omega arith) c.repeat.ensures l.invariant
