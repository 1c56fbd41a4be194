-- `typed::text_end` meets its contract.
-- Assumes nothing.
use native.Mathlib.Omega.{arith}
use Rattle.typed.proofs.LineLaws.{unended-one, unended-none, unended-nothing}
use Rattle.typed.proofs.text_end.Goals as goal

pub returns-then-input-end-eq-LINE_FEED : goal.returns-then-input-end-eq-LINE_FEED
returns-then-input-end-eq-LINE_FEED c = (omega arith, omega arith, unended-one c.args.input.now c.args.from (omega arith) c.if-input-end-eq-LINE_FEED.true)

pub returns-else-input-end-eq-LINE_FEED : goal.returns-else-input-end-eq-LINE_FEED
returns-else-input-end-eq-LINE_FEED c = (omega arith, omega arith, unended-none c.args.input.now c.args.from (omega arith) c.if-input-end-eq-LINE_FEED.false)

pub returns-else-from-end : goal.returns-else-from-end
returns-else-from-end c = (omega arith, omega arith, unended-nothing c.args.input.now c.args.from (omega arith))
