-- What is known of the operands where checks 1, 2 and 6 pass, and the outcome that follows a verdict.
-- Assumes nothing.
use mathlib.Core.Path.{◌≡◌, refl}
use mathlib.Core.List.{List, [], ◌∷◌}
use Prim.Native.Nat.{ℕ, ◌<◌}
use native.Mathlib.Omega.{arith}
use Rattle.numbers.specs.internal.Facts.{AllBelow}
use Rattle.numbers.specs.Refusals.{judge, modulus_checks, reduced_check, Outcome, accepted, refused, outcome_after, Row, Verdict, Pass, Refuse}
use Rattle.residues.specs.Number.{operand_checks}
use Rattle.residues.specs.declared.Number.{Number}
use Rattle.numbers.proofs.RefusalsLaws.{Modulus, modulus-pass, pass-parts, pass-check, reduced}

pub operands-pass : (p : ℕ) (xs : List ℕ) → judge (operand_checks p xs) ≡ Pass → Modulus p × AllBelow p xs
operands-pass p xs e =
    let m = pass-parts (modulus_checks p) _ e in
    (modulus-pass p m.0, reduced p xs (pass-check (reduced_check p xs) [] m.1).0)

pub record Operands (p a b : ℕ) : Type 0 where
  pub modulus : Modulus p
  pub left : a < p
  pub right : b < p

pub two-pass : (p a b : ℕ) → judge (operand_checks p (a ∷ b ∷ [])) ≡ Pass → Operands p a b
two-pass p a b e =
    let o = operands-pass p (a ∷ b ∷ []) e in
    record { modulus = o.0; left = o.1 0 (omega arith); right = o.1 1 (omega arith) }

pub refused-is : {v : Verdict} (r : Row) (x : Number) → v ≡ Refuse r → ◌≡◌ {A = Outcome Number} (refused r.number r.detail) (outcome_after v x)
refused-is r x e = rw e refl

pub accepted-is : {v : Verdict} (x : Number) → v ≡ Pass → ◌≡◌ {A = Outcome Number} (accepted x) (outcome_after v x)
accepted-is x e = rw e refl
