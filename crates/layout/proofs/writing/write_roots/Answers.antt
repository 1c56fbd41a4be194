-- `layout::writing::write_roots` meets its contract. The loop's invariant: the roots before i are written, each with its power.
-- Assumes nothing.
use mathlib.Core.Path.{◌∙◌}
use native.Mathlib.Omega.{arith}
use lib.ListN.{length}
use Rattle.numbers.proofs.WordsLaws.{writing-none, over-whole}
use Rattle.rows.specs.Rows.{table}
use Rattle.rows.proofs.RowsLaws.{length-table, writing-rows}
use Rattle.layout.specs.internal.Places.{root_table}
use Rattle.layout.proofs.WritingLaws.{pair-more}
use Rattle.layout.proofs.writing.write_roots.Goals as goal

pub loop-i-init : goal.loop-i-init
unfolding table
loop-i-init c = writing-none _

pub loop-i-preserved : goal.loop-i-preserved
loop-i-preserved c =
    let a = c.args in
    pair-more a.roots.now a.powers.now _ _ c.loop-i.i c.loop-i.invariant (omega arith)

pub returns : goal.returns
returns c =
    let a = c.args in
    let T = table (length a.roots.now) 2 (root_table a.roots.now a.powers.now) in
    writing-rows _ _ _ _ _ _ c.loop-i.invariant (omega arith) ∙ over-whole T a.out.now (omega (arith, length-table (length a.roots.now) 2 (root_table a.roots.now a.powers.now)))
