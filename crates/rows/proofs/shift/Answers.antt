-- `rows::shift` meets its contract: what the checks let pass is what the kernel requires.
-- Assumes nothing.
use mathlib.Core.Path.{◌≡◌, refl}
use mathlib.Core.List.{[]}
use Prim.Native.Nat.{◌+◌, ◌*◌, ◌≤◌}
use native.Mathlib.Omega.{arith}
use lib.ListN.{length}
use Rattle.numbers.specs.Refusals.{judge, input_checks, Pass}
use Rattle.numbers.proofs.RefusalsLaws.{after-refuse, Inputs, inputs-pass, answer-refused, answer-done, few_words, told-pass, handed-up, told-refuse}
use Rattle.rows.specs.Rows.{rows_of, table, shifted, row_shift}
use Rattle.rows.proofs.CheckLaws.{number-refused, space-refused, shift-passed}
use Rattle.rows.proofs.shift.Goals as goal
use Rattle.rows.proofs.shift.Lts as step
use Rattle.rows.proofs.shift.Reads as reads
use Rattle.rows.proofs.shift.Tie as tie

-- where the check has passed
passed : (b : step.Past-After-known_told tie.the-claims reads.Pre reads.Post tie.handed_clauses) → let a = b.args in judge (input_checks a.p a.n a.f.now (a.d + 1) [] 0 (a.d + 1)) ≡ Pass
passed b = told-pass b.check_inputs.ensures b.in_ok-check_inputs.was

facts : (b : step.Past-After-known_told tie.the-claims reads.Pre reads.Post tie.handed_clauses) → let a = b.args in Inputs a.p a.n a.f.now (a.d + 1) [] 0 (a.d + 1)
facts b =
    let a = b.args in
    inputs-pass a.p a.n a.f.now (a.d + 1) [] 0 (a.d + 1) (passed b)

small : (b : step.Past-After-known_told tie.the-claims reads.Pre reads.Post tie.handed_clauses) → let a = b.args in (a.d + 1) * a.n ≤ 8448
small b = let o = facts b in few_words _ _ o.high o.width-high

pub returns-in_err-check_inputs : goal.returns-in_err-check_inputs
returns-in_err-check_inputs c =
    let a = c.args in
    rw (handed-up c.from_residual.ensures.1) (answer-refused _ _ _ _ (after-refuse (input_checks a.p a.n a.f.now (a.d + 1) [] 0 (a.d + 1)) _ _ (told-refuse c.check_inputs.ensures c.in_err-check_inputs.was)))

pub overflow_add-words : goal.overflow_add-words
overflow_add-words c = let o = facts c.before in record { fits = omega arith }

pub overflow_mul-words : goal.overflow_mul-words
overflow_mul-words c = let s = small c.before in record { fits = omega arith }

pub returns-then-p-c : goal.returns-then-p-c
returns-then-p-c c =
    let a = c.args in
    answer-refused _ _ _ _ (number-refused a.p a.d a.n a.f.now a.c (length a.out.now) (passed c.before.before) c.if-p-c.true)

pub overflow_cast-words : goal.overflow_cast-words
overflow_cast-words c = let s = small c.before.before in omega arith

pub returns-then-out-words : goal.returns-then-out-words
returns-then-out-words c =
    let a = c.args in
    answer-refused _ _ _ _
    (space-refused a.p a.d a.n a.f.now a.c (length a.out.now) (passed c.before.before.before) c.if-p-c.false c.if-out-words.true)

pub shift-requires : goal.shift-requires
shift-requires c =
    let o = facts c.before.before.before.before in
    (omega arith, omega arith, omega arith, omega arith, omega arith, omega arith, o.f-long, omega arith, o.f-below)

pub returns : goal.returns
unfolding row_shift
returns c =
    let a = c.args in
    let v = shift-passed a.p a.d a.n a.f.now a.c (length a.out.now) (passed c.before.before.before.before.before.before.before) c.if-p-c.false c.if-out-words.false in
    answer-done (λ k. table k a.n (shifted a.p (a.d + 1) a.c (rows_of a.f.now a.n (a.d + 1)))) _ _ _ _ _ v c.shift.ensures refl
