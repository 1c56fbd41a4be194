-- `numbers::judge::check_operation` meets its contract.
-- Assumes nothing.
use mathlib.Core.Path.{◌≡◌, ◌∙◌, sym}
use mathlib.Core.List.{[], ◌∷◌}
use Prim.Native.Nat.{◌*◌, ◌≤◌}
use native.Mathlib.Omega.{arith}
use borrow.Author.Tests.{lt-ltb, le-ltb}
use Rattle.numbers.specs.Refusals.{judge, input_checks, room_check, operation_checks, Pass}
use Rattle.numbers.proofs.RefusalsLaws.{after-pass, after-refuse, take-check, skip-check, none-judged, inputs-pass, few_words, told-pass, told-refuse, handed-up}
use Rattle.numbers.proofs.judge.check_operation.Goals as goal
use Rattle.numbers.proofs.judge.check_operation.Lts as step
use Rattle.numbers.proofs.judge.check_operation.Reads as reads
use Rattle.numbers.proofs.judge.check_operation.Tie as tie

pub returns-in_err-check_inputs : goal.returns-in_err-check_inputs
returns-in_err-check_inputs c =
    let a = c.args in
    rw (handed-up c.from_residual.ensures.1) (sym (after-refuse (input_checks a.p a.n a.f.now a.frows a.g.now a.grows a.rows) _ _ (told-refuse c.check_inputs.ensures c.in_err-check_inputs.was)))

-- where checks 1 to 6 have passed
passed : (b : step.Past-After-known_told tie.the-claims reads.Pre reads.Post tie.handed_clauses) → let a = b.args in judge (input_checks a.p a.n a.f.now a.frows a.g.now a.grows a.rows) ≡ Pass
passed b = told-pass b.check_inputs.ensures b.in_ok-check_inputs.was

only-room : (b : step.Past-After-known_told tie.the-claims reads.Pre reads.Post tie.handed_clauses) → let a = b.args in
    judge (operation_checks a.p a.n a.f.now a.frows a.g.now a.grows a.rows a.room) ≡ judge (room_check a.room (a.rows * a.n) ∷ [])
only-room b =
    let a = b.args in
    after-pass (input_checks a.p a.n a.f.now a.frows a.g.now a.grows a.rows) _ (passed b)

small : (b : step.Past-After-known_told tie.the-claims reads.Pre reads.Post tie.handed_clauses) → let a = b.args in a.rows * a.n ≤ 8448
small b =
    let a = b.args in
    let i = inputs-pass a.p a.n a.f.now a.frows a.g.now a.grows a.rows (passed b) in
    few_words a.rows a.n i.high i.width-high

pub overflow_mul-words : goal.overflow_mul-words
overflow_mul-words c = let w = small c.before in record { fits = omega arith }

pub overflow_cast-result : goal.overflow_cast-result
overflow_cast-result c = let w = small c.before.before in omega arith

pub returns-then-room-words : goal.returns-then-room-words
returns-then-room-words c = sym (only-room c.before.before ∙ take-check _ _ (lt-ltb _ _ c.if-room-words.true))

pub returns : goal.returns
returns c = sym (only-room c.before.before ∙ skip-check _ _ (le-ltb _ _ c.if-room-words.false) ∙ none-judged)
