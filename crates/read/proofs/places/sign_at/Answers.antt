-- `read::places::sign_at` meets its contract.
-- Assumes nothing.
use mathlib.Core.Path.{sym, ◌∙◌}
use Rattle.read.proofs.ByteLaws.{plus-is, minus-is, no-sign-is, no_plus, no_minus}
use Rattle.read.proofs.places.sign_at.Goals as goal

pub returns-then-has_byte : goal.returns-then-has_byte
returns-then-has_byte c = plus-is _ _ (sym c.has_byte.ensures ∙ c.if-has_byte.true)

pub returns-then-has_byte-2 : goal.returns-then-has_byte-2
returns-then-has_byte-2 c = minus-is _ _ (sym c.has_byte-else-has_byte.ensures ∙ c.if-has_byte-2.true)

pub returns-else-has_byte-2 : goal.returns-else-has_byte-2
returns-else-has_byte-2 c =
    no-sign-is _ (no_plus _ _ (sym c.has_byte.ensures ∙ c.if-has_byte.false)) (no_minus _ _ (sym c.has_byte-else-has_byte.ensures ∙ c.if-has_byte-2.false))
