-- `capi::bk_sheet_roots` meets its contract.
-- Assumes nothing.
use Rattle.capi.specs.Packed.{packed}
use mathlib.Core.Path.{ap, ◌∙◌}
use Rattle.capi.proofs.bk_sheet_roots.Goals as goal

pub returns : goal.returns
returns c = record { answer = c.pack.ensures ∙ ap packed c.simple_roots.ensures.answers; words = c.simple_roots.ensures.leaves }
