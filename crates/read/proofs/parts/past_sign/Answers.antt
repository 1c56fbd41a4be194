-- `read::parts::past_sign` meets its contract.
-- Assumes nothing.
use native.Mathlib.Omega.{arith}
use mathlib.Core.Path.{sym}
use Rattle.read.proofs.ByteLaws.{sign-inside}
use Rattle.read.proofs.parts.past_sign.Goals as goal

pub overflow_add-result : goal.overflow_add-result
overflow_add-result c =
    let l = sign-inside _ _ _ (sym c.in_ok-sign.ensures) in
    record { fits = omega arith }
