-- `numbers::judge::check_inputs` meets its contract: at each `return` the tests that led there say which row it is.
-- Assumes nothing.
use mathlib.Core.Path.{◌≡◌, ◌∙◌, sym}
use mathlib.Core.List.{[], ◌∷◌, ◌++◌}
use Prim.Native.Nat.{◌*◌, ◌+◌, ◌≤◌, ◌<◌}
use native.Mathlib.Omega.{arith}
use borrow.Author.Tests.{lt-ltb, le-ltb}
use lib.ListN.{length, length-append}
use Rattle.numbers.specs.Refusals.{judge, modulus_checks, shape_checks, input_checks, width_check, lengths_check, reduced_check}
use Rattle.numbers.specs.Limits.{most_rows, largest_width}
use Rattle.numbers.proofs.RefusalsLaws.{after-pass, after-refuse, told-pass, told-refuse, take-check, skip-check, none-judged, few-rows, inside, right-lengths, few_words, handed-up}
use Rattle.numbers.proofs.judge.check_inputs.Goals as goal
use Rattle.numbers.proofs.judge.check_inputs.Lts as step
use Rattle.numbers.proofs.judge.check_inputs.Reads as reads
use Rattle.numbers.proofs.judge.check_inputs.Tie as tie

pub returns-in_err-check_modulus : goal.returns-in_err-check_modulus
returns-in_err-check_modulus c =
    rw (handed-up c.from_residual.ensures.1) (sym (after-refuse (modulus_checks c.args.p) _ _ (told-refuse c.check_modulus.ensures c.in_err-check_modulus.was)))

-- checks 1 and 2 have passed, and then 3, 4 and 5
passed-2 : (b : step.Past-After-known_told tie.the-claims reads.Pre reads.Post tie.handed_clauses) → let a = b.args in
    judge (input_checks a.p a.n a.f.now a.frows a.g.now a.grows a.rows) ≡ judge (shape_checks a.p a.n a.f.now a.frows a.g.now a.grows a.rows)
passed-2 b = after-pass (modulus_checks b.args.p) _ (told-pass b.check_modulus.ensures b.in_ok-check_modulus.was)

passed-3 : (b : step.Else1 tie.the-claims reads.Pre reads.Post tie.handed_clauses) → let a = b.args in
    judge (input_checks a.p a.n a.f.now a.frows a.g.now a.grows a.rows)
    ≡ judge (width_check a.n ∷ lengths_check a.n a.f.now a.frows a.g.now a.grows ∷ reduced_check a.p (a.f.now ++ a.g.now) ∷ [])
passed-3 b = passed-2 b.before.before ∙ skip-check _ _ (sym b.too_many_rows.ensures ∙ b.if-too_many_rows.false)

passed-4 : (b : step.Else2 tie.the-claims reads.Pre reads.Post tie.handed_clauses) → let a = b.args in
    judge (input_checks a.p a.n a.f.now a.frows a.g.now a.grows a.rows)
    ≡ judge (lengths_check a.n a.f.now a.frows a.g.now a.grows ∷ reduced_check a.p (a.f.now ++ a.g.now) ∷ [])
passed-4 b = passed-3 b.before.before ∙ skip-check _ _ (sym b.outside.ensures ∙ b.if-outside.false)

few : (b : step.Else1 tie.the-claims reads.Pre reads.Post tie.handed_clauses) → let a = b.args in (a.frows ≤ most_rows) × (a.grows ≤ most_rows) × (a.rows ≤ most_rows)
few b = few-rows _ _ _ (sym b.too_many_rows.ensures ∙ b.if-too_many_rows.false)

wide : (b : step.Else2 tie.the-claims reads.Pre reads.Post tie.handed_clauses) → let a = b.args in (1 ≤ a.n) × (a.n ≤ largest_width)
wide b = inside 1 largest_width _ (sym b.outside.ensures ∙ b.if-outside.false)

passed-5 : (b : step.Else3 tie.the-claims reads.Pre reads.Post tie.handed_clauses) → let a = b.args in
    judge (input_checks a.p a.n a.f.now a.frows a.g.now a.grows a.rows) ≡ judge (reduced_check a.p (a.f.now ++ a.g.now) ∷ [])
passed-5 b = passed-4 b.before.before ∙ skip-check _ _ (sym b.other_lengths.ensures ∙ b.if-other_lengths.false)

-- f and g together have few words
small : (b : step.Else3 tie.the-claims reads.Pre reads.Post tie.handed_clauses) → let a = b.args in length a.f.now + length a.g.now < 100000
small b =
    let h = few b.before.before.before.before in
    let w = (wide b.before.before).1 in
    let a = b.args in
    let l = right-lengths (length a.f.now) (a.frows * a.n) (length a.g.now) (a.grows * a.n) (sym b.other_lengths.ensures ∙ b.if-other_lengths.false) in
    omega (arith, l.0, l.1, few_words _ _ h.0 w, few_words _ _ h.1 w)

pub returns-then-too_many_rows : goal.returns-then-too_many_rows
returns-then-too_many_rows c = sym (passed-2 c.before.before.before ∙ take-check _ _ (sym c.too_many_rows.ensures ∙ c.if-too_many_rows.true))

pub returns-then-outside : goal.returns-then-outside
returns-then-outside c = sym (passed-3 c.before.before.before ∙ take-check _ _ (sym c.outside.ensures ∙ c.if-outside.true))

pub overflow_mul-frows : goal.overflow_mul-frows
overflow_mul-frows c = let w = few_words _ _ (few c.before.before.before).0 (wide c.before).1 in record { fits = omega arith }

pub overflow_mul-grows : goal.overflow_mul-grows
overflow_mul-grows c = let w = few_words _ _ (few c.before.before.before).1 (wide c.before).1 in record { fits = omega arith }

pub returns-then-other_lengths : goal.returns-then-other_lengths
returns-then-other_lengths c = sym (passed-4 c.before.before.before ∙ take-check _ _ (sym c.other_lengths.ensures ∙ c.if-other_lengths.true))

pub first_large_of_two-at-requires : goal.first_large_of_two-at-requires
first_large_of_two-at-requires c = let w = small c.before in omega arith

pub overflow_cast-result : goal.overflow_cast-result
overflow_cast-result c = let w = small c.before.before.before in omega arith

pub returns-then-at-f : goal.returns-then-at-f
returns-then-at-f c =
    sym (passed-5 c.before.before.before ∙ simp (length-append, ← c.first_large_of_two-at.ensures) (take-check _ _ (lt-ltb _ _ c.if-at-f.true)))

pub returns : goal.returns
returns c = sym (passed-5 c.before.before.before ∙ skip-check _ _ (simp (length-append, ← c.first_large_of_two-at.ensures) (le-ltb _ _ c.if-at-f.false)) ∙ none-judged)
