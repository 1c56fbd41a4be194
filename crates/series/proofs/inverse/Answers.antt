-- `series::inverse` meets its contract: what the checks let pass is what the kernel requires.
-- Assumes nothing.
use mathlib.Core.Path.{◌≡◌}
use mathlib.Core.List.{[], ◌∷◌}
use native.Mathlib.Omega.{arith}
use lib.ListN.{length}
use Rattle.numbers.specs.Refusals.{judge, operation_checks, Pass}
use Rattle.numbers.proofs.RefusalsLaws.{after-refuse, Operation, operation-pass, answer-refused, answer-done, told-pass, handed-up, told-refuse}
use Rattle.series.specs.Series.{quotient}
use Rattle.series.proofs.CheckLaws.{unit-refused, unit-passed, one_below}
use Rattle.series.proofs.inverse.Goals as goal
use Rattle.series.proofs.inverse.Lts as step
use Rattle.series.proofs.inverse.Reads as reads
use Rattle.series.proofs.inverse.Tie as tie

-- where checks 1 to 10 have passed
passed : (b : step.Past-After-known_told tie.the-claims reads.Pre reads.Post tie.handed_clauses) → let a = b.args in judge (operation_checks a.p a.n a.g.now 1 [] 0 1 (length a.out.now)) ≡ Pass
passed b = told-pass b.check_operation.ensures b.in_ok-check_operation.was

facts : (b : step.Past-After-known_told tie.the-claims reads.Pre reads.Post tie.handed_clauses) → let a = b.args in Operation a.p a.n a.g.now 1 [] 0 1 (length a.out.now)
facts b = operation-pass _ _ _ _ _ _ _ _ (passed b)

pub returns-in_err-check_operation : goal.returns-in_err-check_operation
returns-in_err-check_operation c =
    let a = c.args in
    rw (handed-up c.from_residual.ensures.1) (answer-refused _ _ _ _ (after-refuse (operation_checks a.p a.n a.g.now 1 [] 0 1 (length a.out.now)) _ _ (told-refuse c.check_operation.ensures c.in_err-check_operation.was)))

pub bounds-g-0 : goal.bounds-g-0
bounds-g-0 c = let o = facts c.before.before in omega arith

pub returns-then-g-eq0 : goal.returns-then-g-eq0
returns-then-g-eq0 c =
    let a = c.args in
    answer-refused _ _ _ _ (unit-refused _ a.g.now (passed c.before.before.before) c.if-g-eq0.true)

pub divide-requires : goal.divide-requires
divide-requires c =
    let o = facts c.before.before.before.before.before.before in
    (o.inputs.modulus.prime, o.inputs.modulus.small, omega arith, omega arith, omega arith, one_below _ o.inputs.modulus.two, o.inputs.f-below, omega arith)

pub returns : goal.returns
returns c =
    let a = c.args in
    let o = facts c.before.before.before.before.before.before.before.before.before in
    answer-done (λ k. quotient a.p k (1 ∷ []) a.g.now) _ _ _ _ _ (unit-passed _ a.g.now (passed c.before.before.before.before.before.before.before.before.before) c.if-g-eq0.false) c.divide.ensures (omega arith)
