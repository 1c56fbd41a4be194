-- `capi::bk_sheet_extend` meets its contract.
-- Assumes nothing.
use Rattle.capi.specs.Packed.{packed}
use mathlib.Core.Path.{ap, ◌∙◌}
use Rattle.capi.proofs.bk_sheet_extend.Goals as goal

pub returns : goal.returns
returns c = record { answer = c.pack.ensures ∙ ap packed c.extend.ensures.answers; words = c.extend.ensures.leaves }
