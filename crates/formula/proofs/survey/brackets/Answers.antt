-- `formula::survey::brackets` meets its contract.
-- Assumes nothing.
use mathlib.Core.Path.{sym, ◌∙◌}
use Rattle.formula.proofs.DepthLaws.{deep-end}
use Rattle.formula.proofs.survey.brackets.Goals as goal

pub returns : goal.returns
returns c = sym (c.loop-b.invariant.1 ∙ deep-end _ _ _ _ c.loop-b-test.false)
