-- `series::quotient` meets its contract: at each `return` the tests that led there say which check it is.
-- Assumes nothing.
use mathlib.Core.Path.{◌≡◌, ap, ap₂, ◌∙◌}
use Prim.Native.Nat.{ℕ, ◌-◌, ◌<◌}
use native.Mathlib.Omega.{arith}
use lib.ListN.{length}
use Rattle.numbers.specs.Words.{word, over}
use Rattle.numbers.specs.Refusals.{judge, Pass}
use Rattle.numbers.proofs.WordsLaws.{nonzero-le}
use Rattle.numbers.proofs.RefusalsLaws.{after-refuse, Operation, operation-pass, told-pass, handed-up, told-refuse}
use Rattle.series.specs.Series.{series_checks}
use Rattle.series.specs.Quotient.{least_power, quotient_words}
use Rattle.series.proofs.DividedLaws.{zero-refused, lower-refused, common-passed, divided-refused, divided-done}
use Rattle.series.proofs.quotient.Goals as goal
use Rattle.series.proofs.quotient.Lts as step
use Rattle.series.proofs.quotient.Reads as reads
use Rattle.series.proofs.quotient.Tie as tie

pub returns-in_err-check_operation : goal.returns-in_err-check_operation
returns-in_err-check_operation c =
    let a = c.args in
    rw (handed-up c.from_residual.ensures.1) (divided-refused _ _ _ _ _ _ (after-refuse (series_checks a.p a.n a.f.now a.g.now (length a.out.now)) _ _ (told-refuse c.check_operation.ensures c.in_err-check_operation.was)))

-- where checks 1 to 10 have passed
passed : (b : step.Past-After-known_told tie.the-claims reads.Pre reads.Post tie.handed_clauses) → let a = b.args in judge (series_checks a.p a.n a.f.now a.g.now (length a.out.now)) ≡ Pass
passed b = told-pass b.check_operation.ensures b.in_ok-check_operation.was

operation : (b : step.Past-After-known_told tie.the-claims reads.Pre reads.Post tie.handed_clauses) → let a = b.args in Operation a.p a.n a.f.now 1 a.g.now 1 1 (length a.out.now)
operation b = operation-pass _ _ _ _ _ _ _ _ (passed b)

-- where the divisor is not 0
there : (b : step.Else1 tie.the-claims reads.Pre reads.Post tie.handed_clauses) → let a = b.args in least_power a.g.now < a.n
there b =
    let a = b.args in
    let o = operation b.before.before in
    omega (arith, o.inputs.g-long, b.least_power-e.ensures, nonzero-le (length a.g.now) (word a.g.now), b.if-e-g.false)

pub returns-then-e-g : goal.returns-then-e-g
returns-then-e-g c =
    let a = c.args in
    let o = (operation c.before.before.before).inputs in
    divided-refused _ _ _ _ _ _
    (zero-refused a.p a.n a.f.now a.g.now (length a.out.now) (passed c.before.before.before) (omega (arith, o.g-long, c.least_power-e.ensures, c.if-e-g.true)))

pub returns-then-least_power-e : goal.returns-then-least_power-e
returns-then-least_power-e c =
    let a = c.args in
    divided-refused _ _ _ _ _ _
    (lower-refused a.p a.n a.f.now a.g.now (length a.out.now) (passed c.before.before.before.before.before) (there c.before.before.before) (omega (arith, c.least_power-e.ensures, c.least_power.ensures, c.if-least_power-e.true)))

pub divide_from-requires : goal.divide_from-requires
divide_from-requires c =
    let o = operation c.before.before.before.before.before.before in
    let i = o.inputs in
    let e = c.least_power-e.ensures in
    (i.modulus.prime, i.modulus.small, omega arith, omega arith, omega arith, i.f-below, i.g-below, e, omega (arith, there c.before.before.before.before))

pub overflow_sub-result : goal.overflow_sub-result
overflow_sub-result c = let o = (operation c.before.before.before.before.before.before.before.before.before).inputs in omega (arith, o.g-long, there c.before.before.before.before.before.before.before, c.least_power-e.ensures)

pub overflow_cast-result : goal.overflow_cast-result
overflow_cast-result c = let o = (operation c.before.before.before.before.before.before.before.before.before).inputs in omega (arith, o.g-long, o.width-high)

pub returns : goal.returns
returns c =
    let a = c.args in
    let n : length a.g.now ≡ a.n = let l = (operation c.before.before.before.before.before.before.before.before.before).inputs.g-long in omega arith in
    let e = c.least_power-e.ensures in
    let f = c.least_power.ensures in
    divided-done a.p a.n a.f.now a.g.now a.out.now _ _
    (common-passed a.p a.n a.f.now a.g.now (length a.out.now) (passed c.before.before.before.before.before.before.before.before.before) (there c.before.before.before.before.before.before.before) (omega (arith, e, f, c.if-least_power-e.false)))
    (ap₂ ◌-◌ n e) (c.divide_from.ensures ∙ ap (λ (k : ℕ). over (quotient_words a.p k a.f.now a.g.now) a.out.now) n)
