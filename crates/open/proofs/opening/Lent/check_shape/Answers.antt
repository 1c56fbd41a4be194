-- `open::opening::Lent::check_shape` meets its contract: at each `return` the tests that led there say which row it is.
-- Assumes nothing.
use mathlib.Core.Path.{◌≡◌, ◌∙◌, sym, ap}
use mathlib.Core.List.{[], ◌∷◌}
use Prim.Native.Nat.{ℕ, ◌+◌, ◌*◌, ◌≤◌}
use native.Mathlib.Omega.{arith}
use borrow.Author.Tests.{not-false, eqb-true}
use lib.ListN.{length}
use Rattle.numbers.specs.Refusals.{judge, refusal, modulus_checks, width_check, Refuse}
use Rattle.numbers.specs.Limits.{largest_degree, largest_width}
use Rattle.numbers.proofs.RefusalsLaws.{after-pass, after-refuse, take-check, skip-check, neither, inside, few_words, told-pass, told-refuse, handed-up}
use Rattle.numbers.proofs.WordsLaws.{large-le}
use Rattle.open.specs.internal.Opening.{given}
use Rattle.open.specs.Open.{size_checks, polynomial_checks}
use Rattle.open.proofs.OpenChecksLaws.{long_check, words_check, large-rows, large-roots, large-none}
use Rattle.open.proofs.opening.Lent.check_shape.Goals as goal
use Rattle.open.proofs.opening.Lent.check_shape.Lts as step
use Rattle.open.proofs.opening.Lent.check_shape.Reads as reads
use Rattle.open.proofs.opening.Lent.check_shape.Tie as tie

-- checks 1 and 2 have passed, and then 3, 4 and 5
passed-2 : (b : step.Past-After-known_told tie.the-claims reads.Pre reads.Post tie.handed_clauses) → judge (polynomial_checks (given b.args.self)) ≡ judge (size_checks (given b.args.self))
passed-2 b = after-pass (modulus_checks (given b.args.self).p) (size_checks (given b.args.self)) (told-pass b.check_modulus.ensures b.in_ok-check_modulus.was)

passed-3 : (b : step.Else1 tie.the-claims reads.Pre reads.Post tie.handed_clauses) → let g = given b.args.self in judge (polynomial_checks g) ≡ judge (width_check g.N ∷ long_check g ∷ words_check g ∷ [])
passed-3 b = passed-2 b.before.before ∙ skip-check _ _ (sym b.outside.ensures ∙ b.if-outside.false)

passed-4 : (b : step.Else2 tie.the-claims reads.Pre reads.Post tie.handed_clauses) → let g = given b.args.self in judge (polynomial_checks g) ≡ judge (long_check g ∷ words_check g ∷ [])
passed-4 b = passed-3 b.before.before ∙ skip-check _ _ (sym b.outside-2.ensures ∙ b.if-outside-2.false)

passed-5 : (b : step.Else3 tie.the-claims reads.Pre reads.Post tie.handed_clauses) → judge (polynomial_checks (given b.args.self)) ≡ judge (words_check (given b.args.self) ∷ [])
passed-5 b = passed-4 b.before.before ∙ skip-check _ _ (sym b.other_words.ensures ∙ b.if-other_words.false)

-- the words of the rows are few
degrees : (b : step.Else1 tie.the-claims reads.Pre reads.Post tie.handed_clauses) → let g = given b.args.self in (1 ≤ g.D) × (g.D ≤ largest_degree)
degrees b = inside 1 largest_degree _ (sym b.outside.ensures ∙ b.if-outside.false)

widths : (b : step.Else2 tie.the-claims reads.Pre reads.Post tie.handed_clauses) → let g = given b.args.self in (1 ≤ g.N) × (g.N ≤ largest_width)
widths b = inside 1 largest_width _ (sym b.outside-2.ensures ∙ b.if-outside-2.false)

small : (b : step.Else2 tie.the-claims reads.Pre reads.Post tie.handed_clauses) → let g = given b.args.self in (g.D + 1) * g.N ≤ 8448
small b =
    let g = given b.args.self in
    few_words (g.D + 1) g.N (let d = (degrees b.before.before).1 in omega arith) (widths b).1

short : (b : step.Else3 tie.the-claims reads.Pre reads.Post tie.handed_clauses) → length (given b.args.self).rows ≤ 8448
short b = let g = given b.args.self in let l = eqb-true (length g.rows) ((g.D + 1) * g.N) (not-false _ (neither _ _ (sym b.other_words.ensures ∙ b.if-other_words.false)).0) in let w = small b.before.before in omega arith

pub returns-in_err-check_modulus : goal.returns-in_err-check_modulus
returns-in_err-check_modulus c =
    rw (handed-up c.from_residual.ensures.1) (sym (after-refuse (modulus_checks c.args.self.p) _ _ (told-refuse c.check_modulus.ensures c.in_err-check_modulus.was)))

pub returns-then-outside : goal.returns-then-outside
returns-then-outside c = sym (passed-2 c.before.before ∙ take-check _ _ (sym c.outside.ensures ∙ c.if-outside.true))

pub returns-then-outside-2 : goal.returns-then-outside-2
returns-then-outside-2 c = sym (passed-3 c.before.before ∙ take-check _ _ (sym c.outside-2.ensures ∙ c.if-outside-2.true))

pub other_words-requires : goal.other_words-requires
other_words-requires c = ((degrees c.before.before).1, (widths c).1)

pub returns-then-other_words : goal.returns-then-other_words
returns-then-other_words c = sym (passed-4 c.before.before ∙ take-check _ _ (sym c.other_words.ensures ∙ c.if-other_words.true))

pub overflow_cast-result : goal.overflow_cast-result
overflow_cast-result c = let s = short c.before.before.before in omega arith

pub returns-then-at-self : goal.returns-then-at-self
returns-then-at-self c = sym (passed-5 c.before.before.before ∙ large-rows (given c.args.self) _ c.first_large-at.ensures c.if-at-self.true (short c.before.before.before))

pub position-requires : goal.position-requires
position-requires c =
    let g = given c.args.self in
    let s = short c.before.before.before.before.before.before in
    omega (arith, large-le g.p g.rows, c.first_large-at.ensures)

pub returns-then-more-self : goal.returns-then-more-self
returns-then-more-self c =
    ap (λ (x : ℕ). Refuse (refusal 6 x)) c.position.ensures
    ∙ sym (passed-5 c.before.before.before.before.before.before.before ∙ large-roots (given c.args.self) _ c.first_large-at.ensures c.if-at-self.false _ c.first_large-more.ensures c.if-more-self.true)

pub returns : goal.returns
returns c =
    sym (passed-5 c.before.before.before.before.before.before ∙ large-none (given c.args.self) _ c.first_large-at.ensures c.if-at-self.false _ c.first_large-more.ensures c.if-more-self.false)
