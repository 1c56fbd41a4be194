-- `capi::pack` meets its contract: case by case.
-- Assumes nothing.
use Rattle.capi.specs.Packed.{packed}
use mathlib.Core.Path.{sym, ap, ◌∙◌}
use Rattle.numbers.specs.Refusals.{outcome}
use borrow.Author.Rules.{rules}
use Rattle.capi.proofs.pack.Goals as goal

pub returns-in-Ok : goal.returns-in-Ok
unfolding packed
returns-in-Ok c = search rules

pub returns-in-Err : goal.returns-in-Err
returns-in-Err c = c.pack_refusal.ensures ∙ ap (λ x. packed (outcome x)) (sym c.in-Err.is)
