-- `signed::representative` meets its contract.
-- Assumes nothing.
use mathlib.Core.Path.{◌∙◌, sym, subst}
use Prim.Native.Nat.{◌-◌}
use native.Mathlib.Omega.{arith}
use Rattle.signed.specs.Signed.{IsSigned}
use Rattle.signed.proofs.SignedLaws.{signed_low, signed_high, signed_is, to_pos, minus-fits, minus_is}
use Rattle.signed.proofs.representative.Goals as goal

pub returns-then-v-p : goal.returns-then-v-p
returns-then-v-p c =
    let a = c.args in
    subst (IsSigned a.p a.v) (sym (to_pos a.v (omega arith) ∙ sym (signed_low a.p a.v (omega arith)))) (signed_is a.p a.v (omega arith))

pub overflow_sub-result-2 : goal.overflow_sub-result-2
overflow_sub-result-2 c = minus-fits (c.args.p - c.args.v) (omega arith)

pub returns : goal.returns
returns c =
    let a = c.args in
    subst (IsSigned a.p a.v) (sym (minus_is (a.p - a.v) (omega arith) ∙ sym (signed_high a.p a.v (omega arith)))) (signed_is a.p a.v (omega arith))
