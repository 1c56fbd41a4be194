-- `text::put_root` meets its contract: one piece after another.
-- Assumes nothing.
use Rattle.text.specs.Text.{root_line}
use Rattle.text.proofs.TextLaws.{puts_then}
use Rattle.text.proofs.put_root.Goals as goal

pub returns : goal.returns
unfolding root_line
returns c = puts_then c.put_named-after_root.ensures (puts_then c.put_named-after_power.ensures c.put.ensures)
