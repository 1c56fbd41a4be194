-- `pair::pair` meets its contract: the first words of the output are lent to the lift.
-- Assumes nothing.
use mathlib.Core.Path.{◌≡◌, sym, ◌∙◌}
use Prim.Native.Nat.{◌+◌}
use native.Mathlib.Omega.{arith}
use Rattle.numbers.specs.Refusals.{judge, Pass}
use Rattle.numbers.proofs.RefusalsLaws.{few_words, leave-refused, leave-done, told-pass, told-refuse, handed-up}
use Rattle.pair.specs.Paired.{pair_checks}
use Rattle.pair.proofs.AnswerLaws.{PairInput, operation-of, pair-pass, given-of, lent-long, lent-held, lifted-done}
use Rattle.pair.proofs.pair.Goals as goal
use Rattle.pair.proofs.pair.Lts as step
use Rattle.pair.proofs.pair.Reads as reads
use Rattle.pair.proofs.pair.Tie as tie

pub returns-in_err-check_pair : goal.returns-in_err-check_pair
returns-in_err-check_pair c =
    rw (handed-up c.from_residual.ensures.1) (let r = leave-refused _ _ _ _ (told-refuse c.check_pair.ensures c.in_err-check_pair.was) in record { answers = r.0; leaves = r.1 })

-- where the checks have passed
passed : (b : step.Past-After-known_told tie.the-claims reads.Pre reads.Post tie.handed_clauses) → let a = b.args in judge (pair_checks a.p a.d a.n a.f.now a.h a.w a.out.now) ≡ Pass
passed b = told-pass b.check_pair.ensures b.in_ok-check_pair.was

input : (b : step.Past-After-known_told tie.the-claims reads.Pre reads.Post tie.handed_clauses) → let a = b.args in PairInput a.p a.d a.n a.f.now a.h a.w a.out.now
input b = pair-pass _ _ _ _ _ _ _ (passed b)

pub order_of-order-requires : goal.order_of-order-requires
order_of-order-requires c = let g = (operation-of (input c.before)).inputs in (g.f-long, g.width_low)

pub overflow_mul-end : goal.overflow_mul-end
overflow_mul-end c =
    let a = c.args in
    let g = (operation-of (input c.before.before)).inputs in
    omega (arith, few_words (a.d + 1) a.n g.high g.width-high)

pub slice_bounds-lift-end : goal.slice_bounds-lift-end
slice_bounds-lift-end c = (operation-of (input c.before.before)).roomy

pub slice_bounds-lift-end-2 : goal.slice_bounds-lift-end-2
slice_bounds-lift-end-2 c = sym (lent-long _ _ _ _ _ _ _ (input c.before.before.before))

pub invariant_of-given : goal.invariant_of-given
invariant_of-given c =
    let i = input c.before.before.before in
    let e = c.order_of-order.ensures in
    record { given = given-of (operation-of i) e (omega (arith, e, i.bound)) }

pub lift-requires : goal.lift-requires
lift-requires c =
    let i = input c.before.before.before.before in
    (lent-long _ _ _ _ _ _ _ i, lent-held _ _ _ _ _ _ _ i, i.upto, i.low, i.high)

pub returns : goal.returns
returns c =
    let r = leave-done _ _ _ _ _ (passed c.before.before.before.before.before.before.before) c.order_of-order.ensures (lifted-done _ _ _ _ _ _ _ (input c.before.before.before.before.before.before.before) _ (c.lift.ensures.long ∙ lent-long _ _ _ _ _ _ _ (input c.before.before.before.before.before.before.before)) c.lift.ensures.words) in
    record { answers = r.0; leaves = r.1 }
