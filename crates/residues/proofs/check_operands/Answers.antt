-- `residues::check_operands` meets its contract.
-- Assumes nothing.
use mathlib.Core.Path.{◌≡◌, ◌∙◌, sym}
use mathlib.Core.List.{[], ◌∷◌}
use borrow.Author.Tests.{lt-ltb, le-ltb}
use Rattle.numbers.specs.Refusals.{judge, modulus_checks, reduced_check}
use Rattle.numbers.proofs.RefusalsLaws.{after-pass, after-refuse, take-check, skip-check, none-judged, told-pass, told-refuse, handed-up}
use Rattle.residues.specs.Number.{operand_checks}
use Rattle.residues.proofs.check_operands.Goals as goal
use Rattle.residues.proofs.check_operands.Lts as step
use Rattle.residues.proofs.check_operands.Reads as reads
use Rattle.residues.proofs.check_operands.Tie as tie

pub returns-in_err-check_modulus : goal.returns-in_err-check_modulus
returns-in_err-check_modulus c =
    rw (handed-up c.from_residual.ensures.1) (sym (after-refuse (modulus_checks c.args.p) _ _ (told-refuse c.check_modulus.ensures c.in_err-check_modulus.was)))

-- checks 1 and 2 have passed
passed : (b : step.Past-After-known_told tie.the-claims reads.Pre reads.Post tie.handed_clauses) → let a = b.args in judge (operand_checks a.p a.operands.now) ≡ judge (reduced_check a.p a.operands.now ∷ [])
passed b = after-pass (modulus_checks b.args.p) _ (told-pass b.check_modulus.ensures b.in_ok-check_modulus.was)

pub returns-then-at-operands : goal.returns-then-at-operands
returns-then-at-operands c = sym (passed c.before.before.before ∙ rw (← c.first_large-at.ensures) (take-check _ _ (lt-ltb _ _ c.if-at-operands.true)))

pub returns : goal.returns
returns c = sym (passed c.before.before.before ∙ skip-check _ _ (rw (← c.first_large-at.ensures) (le-ltb _ _ c.if-at-operands.false)) ∙ none-judged)
