-- `capi::bk_sheet_test` meets its contract. The cast makes 1 of true and 0 of false, as the clause does.
-- Assumes nothing.
use mathlib.Core.Path.{◌≡◌, refl, ap, ◌∙◌}
use mathlib.Core.Bool.{Bool, true, false, cond}
use mir.Val.{bool_byte}
use Rattle.capi.proofs.bk_sheet_test.Goals as goal

as_number : (t : Bool) → bool_byte t ≡ cond t 1 0
as_number true = refl
as_number false = refl

told : {t u : Bool} → t ≡ u → bool_byte t ≡ cond u 1 0
told {t} e = as_number t ∙ ap (λ (t : Bool). cond t 1 0) e

pub returns : goal.returns
returns c = told c.test.ensures
