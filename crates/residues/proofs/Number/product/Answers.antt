-- `residues::Number::product` meets its contract: where the check passes both operands are below p.
-- Assumes nothing.
use Rattle.numbers.proofs.RefusalsLaws.{told-pass, told-refuse, handed-up}
use mathlib.Core.Path.{◌≡◌}
use mathlib.Core.List.{[], ◌∷◌}
use Prim.Native.Nat.{◌*◌}
use native.Mathlib.Nat.{mod-lt, mul-le-mul, le_of_lt, lt_trans}
use native.Mathlib.Omega.{arith}
use Rattle.numbers.specs.Refusals.{judge, Pass}
use Rattle.numbers.specs.internal.Limits.{modulus_bound}
use Rattle.residues.specs.Number.{operand_checks, product_of}
use Rattle.residues.proofs.NumberLaws.{Operands, two-pass, refused-is, accepted-is}
use Rattle.residues.proofs.Number.product.Goals as goal
use Rattle.residues.proofs.Number.product.Lts as step
use Rattle.residues.proofs.Number.product.Reads as reads
use Rattle.residues.proofs.Number.product.Tie as tie

-- where the check has passed
passed : (b : step.Past-After-known_told tie.the-claims reads.Pre reads.Post tie.handed_clauses) → let a = b.args in judge (operand_checks a.self.p (a.self.value ∷ a.other ∷ [])) ≡ Pass
passed b = told-pass b.check_operands.ensures b.in_ok-check_operands.was

facts : (b : step.Past-After-known_told tie.the-claims reads.Pre reads.Post tie.handed_clauses) → let a = b.args in Operands a.self.p a.self.value a.other
facts b = two-pass _ _ _ (passed b)

pub returns-in_err-check_operands : goal.returns-in_err-check_operands
unfolding product_of
returns-in_err-check_operands c =
    rw (handed-up c.from_residual.ensures.1) (refused-is _ _ (told-refuse c.check_operands.ensures c.in_err-check_operands.was))

pub overflow_mul-v : goal.overflow_mul-v
overflow_mul-v c =
    let o = facts c in
    record { fits = omega (arith, mul-le-mul {n₂ = modulus_bound} {m₂ = modulus_bound} (le_of_lt (lt_trans o.left o.modulus.small)) (le_of_lt (lt_trans o.right o.modulus.small))) }

pub nonzero_rem-v : goal.nonzero_rem-v
nonzero_rem-v c = let o = facts c in omega arith

pub overflow_cast-result : goal.overflow_cast-result
overflow_cast-result c =
    let a = c.args in
    let o = facts c in
    omega (arith, mod-lt (a.self.value * a.other) {m = a.self.p} (omega arith))

pub returns : goal.returns
unfolding product_of
returns c = accepted-is _ (passed c)
