-- `text::put_refused` meets its contract: what `put_refusal` writes of its number and detail.
-- Assumes nothing.
use Rattle.text.proofs.put_refused.Goals as goal

pub returns : goal.returns
returns c = rw (← c.number.ensures, ← c.detail.ensures) c.put_refusal.ensures
