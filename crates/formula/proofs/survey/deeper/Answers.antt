-- `formula::survey::deeper` meets its contract.
-- Assumes nothing.
use mathlib.Core.Path.{◌≡◌, ◌∙◌}
use Prim.Native.Nat.{suc, ◌+◌, ◌-◌, max}
use native.Mathlib.Omega.{arith}
use Rattle.formula.proofs.DepthLaws.{deep-other, deep-open, deep-close}
use Rattle.formula.proofs.survey.deeper.Goals as goal

pub returns-in-40 : goal.returns-in-40
returns-in-40 c =
    let a = c.args in
    let l : suc a.level ≡ a.level + 1 = omega arith in
    let m : max a.most (suc a.level) ≡ c.max.result = omega arith in
    record { goes = λ s. deep-open a.b a.level a.most s c.in-40.is ∙ cc; near = omega arith }

pub returns-in-41 : goal.returns-in-41
returns-in-41 c =
    let a = c.args in
    let l : a.level - 1 ≡ c.saturating_sub.result = omega arith in
    record { goes = λ s. deep-close a.b a.level a.most s c.in-41.is ∙ cc; near = omega arith }

pub returns-in_default : goal.returns-in_default
returns-in_default c =
    let a = c.args in
    record { goes = λ s. deep-other a.b a.level a.most s (λ e. absurd (let z : ⊥ = omega arith in z)) (λ e. absurd (let z : ⊥ = omega arith in z)); near = omega arith }
