-- `pair::check_pair` meets its contract: at each `return` the tests that led there say which row it is.
-- Assumes nothing.
use mathlib.Core.Path.{◌≡◌, ◌∙◌, sym, ap}
use mathlib.Core.Bool.{not}
use mathlib.Core.List.{[], ◌∷◌}
use Prim.Native.Nat.{◌+◌}
use native.Mathlib.Omega.{arith}
use borrow.Author.Tests.{lt-ltb, le-ltb}
use lib.ListN.{length}
use Rattle.numbers.specs.Refusals.{judge, operation_checks, beyond_check, behind_check, Pass}
use Rattle.numbers.proofs.RefusalsLaws.{after-refuse, take-check, skip-check, none-judged, Operation, operation-pass, told-pass, told-refuse, handed-up}
use Rattle.pair.specs.Pair.{order}
use Rattle.pair.specs.Paired.{pair_checks}
use Rattle.pair.proofs.AnswerLaws.{held_check, past-10, past-11, given-of}
use Rattle.pair.proofs.check_pair.Goals as goal
use Rattle.pair.proofs.check_pair.Lts as step
use Rattle.pair.proofs.check_pair.Reads as reads
use Rattle.pair.proofs.check_pair.Tie as tie

pub returns-in_err-check_operation : goal.returns-in_err-check_operation
returns-in_err-check_operation c =
    let a = c.args in
    rw (handed-up c.from_residual.ensures.1) (sym (after-refuse (operation_checks a.p a.n a.f.now (a.d + 1) [] 0 (a.d + 1) (length a.out.now)) _ _ (told-refuse c.check_operation.ensures c.in_err-check_operation.was)))

-- checks 1 to 10 have passed, and then 11, 13 and 14: what is left
passed : (b : step.Past-After-known_told tie.the-claims reads.Pre reads.Post tie.handed_clauses) → let a = b.args in judge (operation_checks a.p a.n a.f.now (a.d + 1) [] 0 (a.d + 1) (length a.out.now)) ≡ Pass
passed b = told-pass b.check_operation.ensures b.in_ok-check_operation.was

passed-11 : (b : step.Else1 tie.the-claims reads.Pre reads.Post tie.handed_clauses) → let a = b.args in judge (pair_checks a.p a.d a.n a.f.now a.h a.w a.out.now) ≡ judge (held_check a.p a.d a.n a.f.now a.h a.out.now ∷ beyond_check a.n a.w ∷ behind_check a.h a.w ∷ [])
passed-11 b = let a = b.args in past-11 a.p a.d a.n a.f.now a.h a.w a.out.now (passed b.before.before) (omega (arith, b.order_of-order.ensures, b.if-rows-order.false))

passed-13 : (b : step.Else2 tie.the-claims reads.Pre reads.Post tie.handed_clauses) → let a = b.args in judge (pair_checks a.p a.d a.n a.f.now a.h a.w a.out.now) ≡ judge (beyond_check a.n a.w ∷ behind_check a.h a.w ∷ [])
passed-13 b = passed-11 b.before.before.before ∙ skip-check _ _ (ap not (sym b.is_held.ensures ∙ b.if-not-is_held.false))

passed-14 : (b : step.Else3 tie.the-claims reads.Pre reads.Post tie.handed_clauses) → let a = b.args in judge (pair_checks a.p a.d a.n a.f.now a.h a.w a.out.now) ≡ judge (behind_check a.h a.w ∷ [])
passed-14 b = passed-13 b.before.before ∙ skip-check _ _ (sym b.outside.ensures ∙ b.if-outside.false)

operation : (b : step.Past-After-known_told tie.the-claims reads.Pre reads.Post tie.handed_clauses) → let a = b.args in Operation a.p a.n a.f.now (a.d + 1) [] 0 (a.d + 1) (length a.out.now)
operation b = operation-pass _ _ _ _ _ _ _ _ (passed b)

pub order_of-order-requires : goal.order_of-order-requires
order_of-order-requires c = let g = (operation c.before).inputs in (g.f-long, g.width_low)

pub returns-then-rows-order : goal.returns-then-rows-order
returns-then-rows-order c =
    let a = c.args in
    sym (past-10 a.p a.d a.n a.f.now a.h a.w a.out.now (passed c.before.before.before)
    ∙ take-check _ _ (lt-ltb a.d (order a.d a.n a.f.now) (omega (arith, c.order_of-order.ensures, c.if-rows-order.true))))

pub invariant_of-given : goal.invariant_of-given
invariant_of-given c = record { given = given-of (operation c.before.before.before) c.order_of-order.ensures (omega (arith, c.if-rows-order.false)) }

pub is_held-requires : goal.is_held-requires
is_held-requires c = (operation c.before.before.before.before).roomy

pub returns-then-not-is_held : goal.returns-then-not-is_held
returns-then-not-is_held c = sym (passed-11 c.before.before.before.before ∙ take-check _ _ (ap not (sym c.is_held.ensures ∙ c.if-not-is_held.true)))

pub returns-then-outside : goal.returns-then-outside
returns-then-outside c = sym (passed-13 c.before.before.before ∙ take-check _ _ (sym c.outside.ensures ∙ c.if-outside.true))

pub returns-then-w-h : goal.returns-then-w-h
returns-then-w-h c = sym (passed-14 c.before.before ∙ take-check _ _ (lt-ltb _ _ c.if-w-h.true))

pub returns : goal.returns
returns c = sym (passed-14 c.before.before ∙ skip-check _ _ (le-ltb _ _ c.if-w-h.false) ∙ none-judged)
