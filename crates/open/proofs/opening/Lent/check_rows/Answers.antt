-- `open::opening::Lent::check_rows` meets its contract: at each `return` the tests that led there say which row it is.
-- Assumes nothing.
use mathlib.Core.Path.{◌≡◌, ◌∙◌, sym, ap}
use mathlib.Core.Bool.{not}
use mathlib.Core.List.{[], ◌∷◌, ◌++◌}
use Prim.Native.Nat.{◌+◌, ◌*◌, ◌≤◌}
use native.Mathlib.Omega.{arith}
use Rattle.numbers.specs.Words.{word}
use Rattle.numbers.specs.Refusals.{check, judge, Pass}
use Rattle.numbers.proofs.RefusalsLaws.{after-pass, after-refuse, take-check, skip-check, none-judged, few_words, told-pass, told-refuse, handed-up}
use Rattle.series.specs.Known.{rows_known}
use Rattle.rows.proofs.RowsLaws.{row_fits}
use Rattle.open.specs.internal.Opening.{given}
use Rattle.sheet.specs.Sheet.{given-polynomial}
use Rattle.open.specs.Open.{polynomial_checks, top_checks}
use Rattle.open.proofs.OpenChecksLaws.{top_test, PolynomialPass, polynomial-pass, top-fits, top-long, row-test}
use Rattle.open.proofs.opening.Lent.check_rows.Goals as goal
use Rattle.open.proofs.opening.Lent.check_rows.Lts as step
use Rattle.open.proofs.opening.Lent.check_rows.Reads as reads
use Rattle.open.proofs.opening.Lent.check_rows.Tie as tie

-- checks 1 to 6 have passed, and then 21
passed : (b : step.Past-After-known_told tie.the-claims reads.Pre reads.Post tie.handed_clauses) → judge (polynomial_checks (given b.args.self)) ≡ Pass
passed b = told-pass b.check_shape.ensures b.in_ok-check_shape.was

passed-6 : (b : step.Past-After-known_told tie.the-claims reads.Pre reads.Post tie.handed_clauses) → judge (polynomial_checks (given b.args.self) ++ top_checks (given b.args.self)) ≡ judge (top_checks (given b.args.self))
passed-6 b = after-pass (polynomial_checks (given b.args.self)) (top_checks (given b.args.self)) (passed b)

shape : (b : step.Past-After-known_told tie.the-claims reads.Pre reads.Post tie.handed_clauses) → PolynomialPass (given b.args.self)
shape b = polynomial-pass (given b.args.self) (passed b)

top-is : (b : step.After-is_unit tie.the-claims reads.Pre reads.Post tie.handed_clauses) → b.is_unit.result ≡ top_test (given b.args.self)
top-is b = let g = given b.args.self in b.is_unit.ensures ∙ row-test g.rows g.D g.N (shape b.before.before.before.before.before.before.before).long

known_is : (b : step.After-rows_known tie.the-claims reads.Pre reads.Post tie.handed_clauses) → let g = given b.args.self in b.rows_known.result ≡ rows_known g.N g.D (word g.lengths) (given-polynomial g)
known_is b = let g = given b.args.self in b.rows_known.ensures ∙ ap (λ D. rows_known g.N D (word g.lengths) (given-polynomial g)) (shape b.before.before.before).lengths-long

passed-21 : (b : step.Else1 tie.the-claims reads.Pre reads.Post tie.handed_clauses) → let g = given b.args.self in judge (polynomial_checks g ++ top_checks g) ≡ judge (check 7 (not (top_test g)) 0 ∷ [])
passed-21 b = passed-6 b.before.before.before.before ∙ skip-check _ _ (ap not (sym (known_is b.before) ∙ b.if-not-rows_known.false))

-- the words before the top row are few
small : (b : step.Past-After-known_told tie.the-claims reads.Pre reads.Post tie.handed_clauses) → let g = given b.args.self in g.D * g.N ≤ 8448
small b = let h = shape b in few_words (given b.args.self).D (given b.args.self).N (let z = h.degree-high in omega arith) h.width-high

pub returns-in_err-check_shape : goal.returns-in_err-check_shape
returns-in_err-check_shape c =
    rw (handed-up c.from_residual.ensures.1) (let g = given c.args.self in sym (after-refuse (polynomial_checks g) (top_checks g) _ (told-refuse c.check_shape.ensures c.in_err-check_shape.was)))

pub rows_known-requires : goal.rows_known-requires
rows_known-requires c =
    let h = shape c.before.before in
    let n = h.lengths-long in
    let l = h.long in
    (h.width-high, omega (arith, h.degree-high), rw n (omega (arith, row_fits (given c.args.self).D ((given c.args.self).D + 1) (given c.args.self).N (omega arith))))

pub returns-then-not-rows_known : goal.returns-then-not-rows_known
returns-then-not-rows_known c = sym (passed-6 c.before.before.before.before ∙ take-check _ _ (ap not (sym (known_is c.before) ∙ c.if-not-rows_known.true)))

pub overflow_mul-a : goal.overflow_mul-a
overflow_mul-a c = omega (arith, small c.before.before.before.before)

pub overflow_cast-a : goal.overflow_cast-a
overflow_cast-a c = omega (arith, small c.before.before.before.before)

pub overflow_add-e : goal.overflow_add-e
overflow_add-e c = omega (arith, small c.before.before.before.before)

pub offset_bounds-self-a : goal.offset_bounds-self-a
offset_bounds-self-a c = omega (arith, small c.before.before.before.before.before)

pub slice_bounds-is_unit-end : goal.slice_bounds-is_unit-end
slice_bounds-is_unit-end c = let g = given c.args.self in omega (arith, top-fits g.rows g.D g.N (shape c.before.before.before.before.before).long)

pub is_unit-requires : goal.is_unit-requires
is_unit-requires c =
    let g = given c.args.self in
    let h = shape c.before.before.before.before.before.before in
    omega (arith, h.width_low, top-long g.rows g.D g.N h.long)

pub returns-then-not-is_unit : goal.returns-then-not-is_unit
returns-then-not-is_unit c = sym (passed-21 c.before.before.before.before ∙ take-check _ _ (ap not (sym (top-is c.before) ∙ c.if-not-is_unit.true)))

pub returns : goal.returns
returns c = sym (passed-21 c.before.before.before.before ∙ skip-check _ _ (ap not (sym (top-is c.before) ∙ c.if-not-is_unit.false)) ∙ none-judged)
