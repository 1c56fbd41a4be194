-- `read::parts::closed` meets its contract.
-- Assumes nothing.
use native.Mathlib.Omega.{arith}
use mathlib.Core.Path.{sym, ◌∙◌}
use Rattle.read.proofs.ByteLaws.{byte_inside}
use Rattle.read.proofs.parts.closed.Goals as goal

pub overflow_add-result : goal.overflow_add-result
overflow_add-result c =
    let l = byte_inside _ _ _ (sym c.has_byte.ensures ∙ c.if-has_byte.true) in
    record { fits = omega arith }
