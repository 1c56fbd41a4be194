-- `tiled::store_wide` meets its contract. The loop's invariant: the first j words of e are stored.
-- Assumes nothing.
use native.Mathlib.Omega.{arith}
use lib.ListN.{length}
use Rattle.rows.proofs.RowsLaws.{row_fits}
use Rattle.columns.proofs.ColumnLaws.{stored-none, stored_next, stored-all}
use Rattle.tiled.proofs.store_wide.Goals as goal

pub loop-j-init : goal.loop-j-init
loop-j-init c = stored-none _ _ _

pub overflow_cast-out : goal.overflow_cast-out
overflow_cast-out c = omega (arith, c.shared_slice_known-1.given c.loop-j.j)

pub overflow_mul-out : goal.overflow_mul-out
overflow_mul-out c =
    let a = c.args in
    omega (arith, row_fits c.loop-j.j (length a.e.now) a.n (omega arith))

pub overflow_add-out : goal.overflow_add-out
overflow_add-out c =
    let a = c.args in
    omega (arith, row_fits c.loop-j.j (length a.e.now) a.n (omega arith))

pub offset_bounds-out-j : goal.offset_bounds-out-j
offset_bounds-out-j c =
    let a = c.args in
    omega (arith, row_fits c.loop-j.j (length a.e.now) a.n (omega arith))

pub bounds-out-j : goal.bounds-out-j
bounds-out-j c =
    let a = c.args in
    omega (arith, row_fits c.loop-j.j (length a.e.now) a.n (omega arith))

pub loop-j-preserved : goal.loop-j-preserved
loop-j-preserved c = stored_next _ _ _ _ _ _ (omega arith) (omega arith) (omega arith) c.loop-j.invariant

pub returns : goal.returns
returns c =
    let l = c.loop-j in
    stored-all _ _ _ _ _ l.j l.invariant (omega arith)
