-- `typed::line::order_of` meets its contract.
-- Assumes nothing.
use mathlib.Core.Path.{sym, ◌∙◌, subst}
use Rattle.typed.specs.Order.{Order}
use Rattle.typed.specs.internal.Line.{number_in, order_of, LineIs}
use Rattle.typed.proofs.LineLaws.{from-none, from-rest, from-other}
use Rattle.typed.proofs.line.order_of.Goals as goal

pub returns-in_err-first : goal.returns-in_err-first
unfolding order_of
returns-in_err-first c = rw c.from_residual.ensures (from-none (number_in c.args.input.now) c.in_err-first.ensures)

pub returns-then-byte_at : goal.returns-then-byte_at
unfolding order_of
returns-then-byte_at c =
    subst (λ (o : Order). LineIs o c.args.input.now c.order_from.result) (from-rest _ c.args.input.now _ c.in_ok-first.ensures (sym c.byte_at.ensures ∙ c.if-byte_at.true)) c.order_from.ensures

pub returns-else-byte_at : goal.returns-else-byte_at
unfolding order_of
returns-else-byte_at c = from-other _ c.args.input.now _ c.in_ok-first.ensures (sym c.byte_at.ensures ∙ c.if-byte_at.false)
