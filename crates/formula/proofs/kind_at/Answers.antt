-- `formula::kind_at` meets its contract.
-- Assumes nothing.
use mathlib.Core.Path.{sym, ◌∙◌}
use Rattle.formula.proofs.PlaceLaws.{kind-inside, kind-outside}
use Rattle.formula.proofs.kind_at.Goals as goal

pub returns-then-at-text : goal.returns-then-at-text
returns-then-at-text c = c.kind_of.ensures ∙ sym (kind-inside _ _ c.if-at-text.true)

pub returns-else-at-text : goal.returns-else-at-text
returns-else-at-text c = sym (kind-outside _ _ c.if-at-text.false)
