-- `typed::line::order_from` meets its contract.
-- Assumes nothing.
use mathlib.Core.Path.{sym, ◌∙◌}
use Rattle.typed.proofs.LineLaws.{rest-asked}
use Rattle.typed.proofs.line.order_from.Goals as goal

pub returns-then-byte_at : goal.returns-then-byte_at
returns-then-byte_at c = rest-asked _ c.args.input.now _ c.in_ok-second.ensures c.args.p _ c.after_blanks-end.ensures (sym c.byte_at.ensures ∙ c.if-byte_at.true)
