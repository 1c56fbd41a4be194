-- `capi::pack_refusal` meets its contract.
-- Assumes nothing.
use Rattle.capi.specs.Packed.{packed}
use borrow.Author.Rules.{rules}
use Rattle.capi.proofs.pack_refusal.Goals as goal

pub returns : goal.returns
unfolding packed
returns c = search rules
