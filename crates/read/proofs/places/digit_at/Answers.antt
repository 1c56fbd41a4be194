-- `read::places::digit_at` meets its contract.
-- Assumes nothing.
use mathlib.Core.Path.{sym, ap, ◌∙◌}
use Rattle.formula.proofs.PlaceLaws.{kind-inside, kind-outside}
use Rattle.read.specs.internal.Places.{digit_of}
use Rattle.read.proofs.places.digit_at.Goals as goal

pub returns-then-at-text : goal.returns-then-at-text
returns-then-at-text c = c.digit_of.ensures ∙ sym (ap digit_of (kind-inside _ _ c.if-at-text.true))

pub returns-else-at-text : goal.returns-else-at-text
returns-else-at-text c = sym (ap digit_of (kind-outside _ _ c.if-at-text.false))
