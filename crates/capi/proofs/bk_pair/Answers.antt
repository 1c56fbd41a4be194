-- `capi::bk_pair` meets its contract.
-- Assumes nothing.
use Rattle.capi.specs.Packed.{packed}
use mathlib.Core.Path.{ap, ◌∙◌}
use Rattle.capi.proofs.bk_pair.Goals as goal

pub returns : goal.returns
returns c = record { answer = c.pack.ensures ∙ ap packed c.pair.ensures.answers; words = c.pair.ensures.leaves }
