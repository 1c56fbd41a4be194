-- `capi::pack_number` meets its contract: case by case.
-- Assumes nothing.
use Rattle.capi.specs.Packed.{packed, packed_number}
use mathlib.Core.Path.{sym, ap, ◌∙◌}
use Rattle.numbers.specs.Refusals.{outcome}
use Rattle.capi.proofs.pack_number.Goals as goal

pub returns-in-Ok : goal.returns-in-Ok
unfolding packed_number
returns-in-Ok c = ap (λ x. packed_number (outcome x)) (sym c.in-Ok.is)

pub returns-in-Err : goal.returns-in-Err
unfolding packed packed_number
returns-in-Err c = c.pack_refusal.ensures ∙ ap (λ x. packed_number (outcome x)) (sym c.in-Err.is)
