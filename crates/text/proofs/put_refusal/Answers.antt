-- `text::put_refusal` meets its contract: one piece after another.
-- Assumes nothing.
use Rattle.text.specs.Text.{refused_text}
use Rattle.text.proofs.TextLaws.{puts_then}
use Rattle.text.proofs.put_refusal.Goals as goal

pub returns : goal.returns
unfolding refused_text
returns c = puts_then c.put_named-after_number.ensures (puts_then c.put_named-after_detail.ensures c.put.ensures)
