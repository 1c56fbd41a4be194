-- `capi::bk_counts` meets its contract.
-- Assumes nothing.
use Rattle.capi.specs.Packed.{packed}
use mathlib.Core.Path.{ap, ◌∙◌}
use Rattle.capi.proofs.bk_counts.Goals as goal

pub returns : goal.returns
returns c = record { answer = c.pack.ensures ∙ ap packed c.counts.ensures.answer; words = c.counts.ensures.words }
