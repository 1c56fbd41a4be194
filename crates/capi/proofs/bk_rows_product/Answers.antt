-- `capi::bk_rows_product` meets its contract.
-- Assumes nothing.
use Rattle.capi.specs.Packed.{packed}
use mathlib.Core.Path.{ap, ◌∙◌}
use Rattle.capi.proofs.bk_rows_product.Goals as goal

pub returns : goal.returns
returns c = record { answer = c.pack.ensures ∙ ap packed c.product.ensures.answer; words = c.product.ensures.words }
