-- `counts::check_counts` meets its contract: at each `return` the tests that led there say which row it is.
-- Assumes nothing.
use Prim.Native.Nat.{◌+◌, ◌^◌, ◌≤◌, ◌<◌}
use native.Mathlib.Omega.{arith}
use mathlib.Core.Path.{◌≡◌, sym, ◌∙◌}
use mathlib.Core.List.{[], ◌∷◌}
use borrow.Author.Tests.{lt-ltb, le-ltb}
use Rattle.numbers.specs.Refusals.{judge, modulus_checks, degree_check, room_check, Pass}
use Rattle.numbers.specs.Limits.{largest_degree}
use Rattle.numbers.proofs.RefusalsLaws.{after-pass, after-refuse, take-check, skip-check, none-judged, inside, modulus-pass, told-pass, told-refuse, handed-up}
use Rattle.counts.specs.Counts.{many_check, counts_checks, most_polynomials}
use Rattle.counts.proofs.check_counts.Goals as goal
use Rattle.counts.proofs.check_counts.Lts as step
use Rattle.counts.proofs.check_counts.Reads as reads
use Rattle.counts.proofs.check_counts.Tie as tie

pub returns-in_err-check_modulus : goal.returns-in_err-check_modulus
returns-in_err-check_modulus c =
    rw (handed-up c.from_residual.ensures.1) (sym (after-refuse (modulus_checks c.args.p) _ _ (told-refuse c.check_modulus.ensures c.in_err-check_modulus.was)))

-- checks 1 and 2 have passed, and then 3 and 24: what is left
passed : (b : step.Past-After-known_told tie.the-claims reads.Pre reads.Post tie.handed_clauses) → judge (modulus_checks b.args.p) ≡ Pass
passed b = told-pass b.check_modulus.ensures b.in_ok-check_modulus.was

past-2 : (b : step.Past-After-known_told tie.the-claims reads.Pre reads.Post tie.handed_clauses) → let a = b.args in judge (counts_checks a.p a.d a.room) ≡ judge (degree_check a.d ∷ many_check a.p a.d ∷ room_check a.room (a.d + 1) ∷ [])
past-2 b = after-pass (modulus_checks b.args.p) _ (passed b)

past-3 : (b : step.Else1 tie.the-claims reads.Pre reads.Post tie.handed_clauses) → let a = b.args in judge (counts_checks a.p a.d a.room) ≡ judge (many_check a.p a.d ∷ room_check a.room (a.d + 1) ∷ [])
past-3 b = past-2 b.before.before ∙ skip-check _ _ (sym b.outside.ensures ∙ b.if-outside.false)

few : (b : step.Else2 tie.the-claims reads.Pre reads.Post tie.handed_clauses) → let a = b.args in a.p ^ a.d ≤ most_polynomials
few b = let e = b.polynomials.ensures in omega (arith, b.if-polynomials-gt-MOST_POLYNOMIALS.false)

past-24 : (b : step.Else2 tie.the-claims reads.Pre reads.Post tie.handed_clauses) → let a = b.args in judge (counts_checks a.p a.d a.room) ≡ judge (room_check a.room (a.d + 1) ∷ [])
past-24 b = past-3 b.before.before ∙ skip-check _ _ (le-ltb _ _ (few b))

degree : (b : step.Else1 tie.the-claims reads.Pre reads.Post tie.handed_clauses) → b.args.d ≤ largest_degree
degree b = (inside 1 largest_degree _ (sym b.outside.ensures ∙ b.if-outside.false)).1

pub returns-then-outside : goal.returns-then-outside
returns-then-outside c = sym (past-2 c.before.before ∙ take-check _ _ (sym c.outside.ensures ∙ c.if-outside.true))

pub polynomials-requires : goal.polynomials-requires
polynomials-requires c =
    let M = modulus-pass c.args.p (passed c.before.before) in
    let two = M.two in
    (omega arith, M.small)

pub returns-then-polynomials-gt-MOST_POLYNOMIALS : goal.returns-then-polynomials-gt-MOST_POLYNOMIALS
returns-then-polynomials-gt-MOST_POLYNOMIALS c =
    let a = c.args in
    let e = c.polynomials.ensures in
    let many : most_polynomials < a.p ^ a.d = omega (arith, c.if-polynomials-gt-MOST_POLYNOMIALS.true) in
    sym (past-3 c.before.before ∙ take-check _ _ (lt-ltb _ _ many))

pub overflow_add-words : goal.overflow_add-words
overflow_add-words c = let z = degree c.before.before in record { fits = omega arith }

pub returns-then-room-words : goal.returns-then-room-words
returns-then-room-words c = sym (past-24 c.before ∙ take-check _ _ (lt-ltb _ _ c.if-room-words.true))

pub returns : goal.returns
returns c = sym (past-24 c.before ∙ skip-check _ _ (le-ltb _ _ c.if-room-words.false) ∙ none-judged)
