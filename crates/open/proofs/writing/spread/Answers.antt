-- `open::writing::spread` meets its contract. The loop's invariant: the rows before j are written.
-- Assumes nothing.
use mathlib.Core.Path.{ap, ◌∙◌}
use Prim.Native.Nat.{ℕ, ◌*◌}
use native.Mathlib.Omega.{arith}
use lib.ListN.{length}
use Rattle.numbers.specs.Words.{word, tabulate}
use Rattle.numbers.proofs.WordsLaws.{writing-none, over-whole}
use Rattle.rows.specs.Rows.{table}
use Rattle.rows.proofs.RowsLaws.{row_fits, length_part, length-table, writing-row, writing-rows}
use Rattle.columns.specs.internal.Column.{first_only}
use Rattle.hensel.specs.Factors.{flat}
use Rattle.open.proofs.WritingLaws.{flat-row}
use Rattle.open.proofs.writing.spread.Goals as goal

pub loop-j-init : goal.loop-j-init
unfolding table
loop-j-init c = writing-none _

pub loop-j-preserved : goal.loop-j-preserved
loop-j-preserved c =
    let a = c.args in
    let l = c.loop-j in
    let z = row_fits l.j (length a.column.now) a.n (omega arith) in
    let long = length_part l.out (l.j * a.n) a.n (omega arith) in
    let q = c.start_row.ensures ∙ ap (λ (k : ℕ). tabulate k (first_only (word a.column.now l.j))) long ∙ flat-row a.n (word a.column.now) l.j in
    writing-row _ _ (flat (word a.column.now)) _ _ _ l.invariant q (omega arith)

pub returns : goal.returns
returns c =
    let a = c.args in
    let rows = table (length a.column.now) a.n (flat (word a.column.now)) in
    writing-rows _ _ _ _ _ _ c.loop-j.invariant (omega arith)
    ∙ over-whole rows a.out.now (omega (arith, length-table (length a.column.now) a.n (flat (word a.column.now))))
