-- `open::opening::Lent::check_list` meets its contract: refusals 1 to 7, and 21, then 8.
-- Assumes nothing.
use mathlib.Core.Path.{◌≡◌, ◌∙◌, sym}
use mathlib.Core.List.{[], ◌∷◌, ◌++◌}
use Rattle.numbers.specs.Refusals.{judge}
use Rattle.numbers.proofs.RefusalsLaws.{after-pass, after-refuse, take-check, skip-check, none-judged, told-pass, told-refuse, handed-up}
use Rattle.open.specs.internal.Opening.{given}
use Rattle.open.specs.Open.{polynomial_checks, top_checks, list_checks}
use Rattle.open.proofs.OpenChecksLaws.{roots_check, list-split}
use Rattle.open.proofs.opening.Lent.check_list.Goals as goal
use Rattle.open.proofs.opening.Lent.check_list.Lts as step
use Rattle.open.proofs.opening.Lent.check_list.Reads as reads
use Rattle.open.proofs.opening.Lent.check_list.Tie as tie

-- only refusal 8 is left
passed : (b : step.Past-After-known_told tie.the-claims reads.Pre reads.Post tie.handed_clauses) → let g = given b.args.self in judge (polynomial_checks g ++ list_checks g) ≡ judge (roots_check g ∷ [])
passed b = let g = given b.args.self in list-split g ∙ after-pass (polynomial_checks g ++ top_checks g) (roots_check g ∷ []) (told-pass b.check_rows.ensures b.in_ok-check_rows.was)

pub returns-in_err-check_rows : goal.returns-in_err-check_rows
returns-in_err-check_rows c =
    rw (handed-up c.from_residual.ensures.1) (let g = given c.args.self in sym (list-split g ∙ after-refuse (polynomial_checks g ++ top_checks g) (roots_check g ∷ []) _ (told-refuse c.check_rows.ensures c.in_err-check_rows.was)))

pub returns-then-unlisted : goal.returns-then-unlisted
returns-then-unlisted c = sym (passed c.before.before.before ∙ take-check _ _ (sym c.unlisted.ensures ∙ c.if-unlisted.true))

pub returns : goal.returns
returns c = sym (passed c.before.before.before ∙ skip-check _ _ (sym c.unlisted.ensures ∙ c.if-unlisted.false) ∙ none-judged)
