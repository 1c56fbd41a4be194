-- `columns::put_columns` meets its contract. The loop's invariant: the columns are put into the rows before j.
-- Assumes nothing.
use Prim.Native.Nat.{◌-◌, ◌+◌, ◌*◌}
use native.Mathlib.Omega.{arith}
use Rattle.columns.proofs.ColumnsSetLaws.{put_step}
use Rattle.columns.proofs.put_columns.Goals as goal

pub loop-j-preserved : goal.loop-j-preserved
loop-j-preserved c =
    let a = c.args in
    let l = c.loop-j in
    let r = c.requires in
    put_step a.n a.h a.w a.d l.j (l.j * a.n + a.w - (l.j * a.n + a.h)) a.f.now a.rows.now l.rows _ r.0 r.1 (omega arith) r.4 r.5 (omega arith) c.copy.ensures l.invariant
