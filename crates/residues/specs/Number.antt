-- Numbers modulo p that travel with their p: what each operation answers, at every input. (Where the arithmetic of refusal 2 finds
-- p prime, the numbers below p are the field F_p: see the crate algebra.)
--   residue p v          v modulo p, with its p
--   operand_checks p xs   refusals 1, 2 and 6 for the operands xs
--   sum_of, difference_of, product_of, inverse_number   the outcomes
-- Assumes nothing.
use Rattle.std.specs.Prelude.{ℕ, ◌+◌, ◌-◌, ◌*◌, ◌%◌, List, [], ◌∷◌, ◌++◌, eqb}
use Rattle.numbers.specs.Words.{first_large}
use Rattle.numbers.specs.Divisor.{inverse_of}
use Rattle.numbers.specs.Refusals.{Check, check, judge, Outcome, outcome_after, modulus_checks, unreduced}
use Rattle.residues.specs.declared.Number.{Number}

-- v modulo p, with its p
abbrev pub residue : ℕ → ℕ → Number
residue p v = record { p = p; value = v % p }

abbrev pub operand_checks : ℕ → List ℕ → List Check
operand_checks p xs = modulus_checks p ++ (check 6 (unreduced p xs) (first_large p xs) ∷ [])

unfoldable pub sum_of : Number → ℕ → Outcome Number
sum_of a b = outcome_after (judge (operand_checks a.p (a.value ∷ b ∷ []))) (residue a.p (a.value + b))

unfoldable pub difference_of : Number → ℕ → Outcome Number
difference_of a b = outcome_after (judge (operand_checks a.p (a.value ∷ b ∷ []))) (residue a.p (a.value + (a.p - b)))

unfoldable pub product_of : Number → ℕ → Outcome Number
product_of a b = outcome_after (judge (operand_checks a.p (a.value ∷ b ∷ []))) (residue a.p (a.value * b))

unfoldable pub inverse_number : Number → Outcome Number
inverse_number a =
    outcome_after (judge (operand_checks a.p (a.value ∷ []) ++ (check 12 (eqb a.value 0) 0 ∷ [])))
    (record { p = a.p; value = inverse_of a.p a.value })
