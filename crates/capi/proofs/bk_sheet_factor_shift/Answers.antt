-- `capi::bk_sheet_factor_shift` meets its contract.
-- Assumes nothing.
use Rattle.capi.specs.Packed.{packed}
use mathlib.Core.Path.{ap, ◌∙◌}
use Rattle.capi.proofs.bk_sheet_factor_shift.Goals as goal

pub returns : goal.returns
returns c = record { answer = c.pack.ensures ∙ ap packed c.factor_shift.ensures.answer; words = c.factor_shift.ensures.words }
