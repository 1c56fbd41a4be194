-- `residues::Number::inverse` meets its contract.
-- Assumes nothing.
use mathlib.Core.Path.{◌≡◌, ◌∙◌}
use mathlib.Core.List.{[], ◌∷◌}
use Prim.Native.Nat.{◌<◌}
use native.Mathlib.Omega.{arith}
use borrow.Author.Tests.{eq-eqb, ne_eqb}
use Rattle.numbers.specs.Refusals.{judge, Pass}
use Rattle.numbers.proofs.RefusalsLaws.{Modulus, after-pass, after-refuse, take-check, skip-check, none-judged, told-pass, told-refuse, handed-up}
use Rattle.residues.specs.Number.{operand_checks, inverse_number}
use Rattle.residues.proofs.NumberLaws.{operands-pass, refused-is, accepted-is}
use Rattle.residues.proofs.Number.inverse.Goals as goal
use Rattle.residues.proofs.Number.inverse.Lts as step
use Rattle.residues.proofs.Number.inverse.Reads as reads
use Rattle.residues.proofs.Number.inverse.Tie as tie

-- where checks 1, 2 and 6 have passed
passed : (b : step.Past-After-known_told tie.the-claims reads.Pre reads.Post tie.handed_clauses) → let a = b.args in judge (operand_checks a.self.p (a.self.value ∷ [])) ≡ Pass
passed b = told-pass b.check_operands.ensures b.in_ok-check_operands.was

facts : (b : step.Past-After-known_told tie.the-claims reads.Pre reads.Post tie.handed_clauses) → let a = b.args in Modulus a.self.p × (a.self.value < a.self.p)
facts b = let o = operands-pass _ _ (passed b) in (o.0, o.1 0 (omega arith))

pub returns-in_err-check_operands : goal.returns-in_err-check_operands
unfolding inverse_number
returns-in_err-check_operands c =
    let a = c.args in
    rw (handed-up c.from_residual.ensures.1) (refused-is _ _ (after-refuse (operand_checks a.self.p (a.self.value ∷ [])) _ _ (told-refuse c.check_operands.ensures c.in_err-check_operands.was)))

pub returns-then-value-eq0 : goal.returns-then-value-eq0
unfolding inverse_number
returns-then-value-eq0 c =
    let a = c.args in
    refused-is _ _ (after-pass (operand_checks a.self.p (a.self.value ∷ [])) _ (passed c.before) ∙ take-check _ _ (eq-eqb _ 0 c.if-value-eq0.true))

pub inverse_of-requires : goal.inverse_of-requires
inverse_of-requires c = let o = facts c.before in (omega arith, o.1, omega arith, o.0.prime)

pub returns : goal.returns
unfolding inverse_number
returns c =
    let a = c.args in
    rw c.inverse_of.ensures
    (accepted-is _ (after-pass (operand_checks a.self.p (a.self.value ∷ [])) _ (passed c.before.before) ∙ skip-check _ _ (ne_eqb _ 0 c.if-value-eq0.false) ∙ none-judged))
