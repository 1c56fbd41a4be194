-- `job::form_of` meets its contract: the first word is 0, or it isn't.
-- Assumes nothing.
use mathlib.Core.Path.{refl, sym, ◌∙◌}
use Rattle.job.proofs.JobLaws.{wide_form, narrow-form}
use Rattle.job.proofs.form_of.Goals as goal

pub returns-then-number-eq0 : goal.returns-then-number-eq0
returns-then-number-eq0 c = wide_form _ _ (sym c.number.ensures ∙ c.if-number-eq0.true) refl refl

pub returns-else-number-eq0 : goal.returns-else-number-eq0
returns-else-number-eq0 c = narrow-form _ _ (λ e. c.if-number-eq0.false (c.number.ensures ∙ e)) refl refl
