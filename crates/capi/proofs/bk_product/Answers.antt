-- `capi::bk_product` meets its contract.
-- Assumes nothing.
use Rattle.capi.specs.Packed.{packed_number}
use mathlib.Core.Path.{ap, ◌∙◌}
use Rattle.capi.proofs.bk_product.Goals as goal

pub returns : goal.returns
returns c = c.pack_number.ensures ∙ ap packed_number c.product.ensures
