-- `residues::Number::sum` meets its contract: where the check passes both operands are below p.
-- Assumes nothing.
use Rattle.numbers.proofs.RefusalsLaws.{told-pass, told-refuse, handed-up}
use mathlib.Core.Path.{◌≡◌}
use mathlib.Core.List.{[], ◌∷◌}
use native.Mathlib.Omega.{arith}
use Rattle.numbers.specs.Refusals.{judge, Pass}
use Rattle.residues.specs.Number.{operand_checks, sum_of}
use Rattle.residues.proofs.NumberLaws.{Operands, two-pass, refused-is, accepted-is}
use Rattle.residues.proofs.Number.sum.Goals as goal
use Rattle.residues.proofs.Number.sum.Lts as step
use Rattle.residues.proofs.Number.sum.Reads as reads
use Rattle.residues.proofs.Number.sum.Tie as tie

-- where the check has passed
passed : (b : step.Past-After-known_told tie.the-claims reads.Pre reads.Post tie.handed_clauses) → let a = b.args in judge (operand_checks a.self.p (a.self.value ∷ a.other ∷ [])) ≡ Pass
passed b = told-pass b.check_operands.ensures b.in_ok-check_operands.was

facts : (b : step.Past-After-known_told tie.the-claims reads.Pre reads.Post tie.handed_clauses) → let a = b.args in Operands a.self.p a.self.value a.other
facts b = two-pass _ _ _ (passed b)

pub returns-in_err-check_operands : goal.returns-in_err-check_operands
unfolding sum_of
returns-in_err-check_operands c =
    rw (handed-up c.from_residual.ensures.1) (refused-is _ _ (told-refuse c.check_operands.ensures c.in_err-check_operands.was))

pub overflow_add-result : goal.overflow_add-result
overflow_add-result c = let o = facts c in omega arith

pub nonzero_rem-result : goal.nonzero_rem-result
nonzero_rem-result c = let o = facts c in omega arith

pub returns : goal.returns
unfolding sum_of
returns c = accepted-is _ (passed c)
