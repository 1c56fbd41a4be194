-- `text::put_rows` meets its contract: line after line.
-- Assumes nothing.
use mathlib.Core.Path.{refl}
use native.Mathlib.Omega.{arith}
use lib.ListN.{length}
use Rattle.text.proofs.SheetTextLaws.{rows_start, rows_on, row_fits}
use Rattle.text.proofs.put_rows.Goals as goal

pub loop-j-init : goal.loop-j-init
loop-j-init c = let a = c.args in rows_start a.profile a.p _ _ _ _ (omega arith)

pub loop-j-preserved : goal.loop-j-preserved
loop-j-preserved c =
    let a = c.args in
    let l = c.loop-j in
    rows_on a.profile a.p a.words.now a.from a.n l.j a.at (omega arith) (row_fits a.from a.m a.n l.j (length a.words.now) (omega arith) (omega arith)) refl l.invariant c.put_row-place.ensures
