-- `read::places::digit_of` meets its contract.
-- Assumes nothing.
use mathlib.Core.Path.{ap, ◌∙◌}
use Rattle.std.specs.Prelude.{Some}
use native.Mathlib.Omega.{arith}
use Rattle.read.proofs.ByteLaws.{digit-is, no-digit-is}
use Rattle.read.proofs.places.digit_of.Goals as goal

pub returns-in-48-to-57 : goal.returns-in-48-to-57
returns-in-48-to-57 c = ap Some c.from.ensures ∙ digit-is _ (omega arith) (omega arith)

pub returns-in_default : goal.returns-in_default
returns-in_default c = no-digit-is _ (λ z. let y : ⊥ = omega arith in y)

pub returns-in_default-2 : goal.returns-in_default-2
returns-in_default-2 c = no-digit-is _ (λ z. let y : ⊥ = omega arith in y)
