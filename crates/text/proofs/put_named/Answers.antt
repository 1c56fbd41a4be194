-- `text::put_named` meets its contract: one piece after another.
-- Assumes nothing.
use Rattle.text.proofs.TextLaws.{puts_then}
use Rattle.text.proofs.put_named.Goals as goal

pub returns : goal.returns
returns c = puts_then c.put-after_name.ensures c.put_decimal.ensures
