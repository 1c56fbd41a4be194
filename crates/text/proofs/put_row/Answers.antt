-- `text::put_row` meets its contract: one piece after another.
-- Assumes nothing.
use mathlib.Core.Path.{refl}
use native.Mathlib.Omega.{arith}
use Rattle.text.specs.Text.{row_line}
use Rattle.text.proofs.TextLaws.{puts_then, puts-as}
use Rattle.text.proofs.put_row.Goals as goal

pub returns : goal.returns
unfolding row_line
returns c =
    puts-as _ _ (puts_then c.put_name-after_name.ensures (puts_then c.put_more-after_row.ensures c.put.ensures)) refl (omega arith)
