-- The readers call each other: what is left of the text falls, or stays and the rank does.
-- Assumes nothing.
use mathlib.Core.Path.{◌≡◌}
use Prim.Native.Nat.{◌+◌, ◌-◌, ◌*◌}
use lib.ListN.{length}
use Rattle.formula.specs.Formula.{Lead}
use Rattle.read.specs.internal.Places.{is_minus}
use Rattle.read.specs.internal.Parts.{TermRead, SumRead, Opens}
use Rattle.read.proofs.evaluate.+element_at_factor_at_product_at_sum_at_summand_at_term_at_total_at.Given as goal

abbrev pub decreases-element_at : goal.decreases-element_at
decreases-element_at l = (length l.text.now - l.at) * 7 + 0

abbrev pub decreases-factor_at : goal.decreases-factor_at
decreases-factor_at l = (length l.text.now - l.at) * 7 + 1

abbrev pub decreases-product_at : goal.decreases-product_at
decreases-product_at l = (length l.text.now - l.at) * 7 + 2

abbrev pub decreases-sum_at : goal.decreases-sum_at
decreases-sum_at l = (length l.text.now - l.at) * 7 + 6

abbrev pub decreases-summand_at : goal.decreases-summand_at
decreases-summand_at l = (length l.text.now - l.at) * 7 + 4

abbrev pub decreases-term_at : goal.decreases-term_at
decreases-term_at l = (length l.text.now - l.at) * 7 + 3

abbrev pub decreases-total_at : goal.decreases-total_at
decreases-total_at l = (length l.text.now - l.at) * 7 + 5

abbrev pub invariant-product_at-loop-next : goal.invariant-product_at-loop-next
invariant-product_at-loop-next l =
    (length l.product ≡ 8448) × (length l.factor ≡ 8448) × TermRead l.ring.p l.ring.n l.text l.at l.run l.product

abbrev pub decreases-product_at-loop-next : goal.decreases-product_at-loop-next
decreases-product_at-loop-next l = length l.text - l.run.at

abbrev pub invariant-total_at-loop-sign : goal.invariant-total_at-loop-sign
invariant-total_at-loop-sign l =
    (length l.total ≡ 8448) × (length l.term ≡ 8448) × ((d : Lead) → l.minus ≡ is_minus d → SumRead l.ring.p l.ring.n l.text (Opens d) l.at l.run l.total)

abbrev pub decreases-total_at-loop-sign : goal.decreases-total_at-loop-sign
decreases-total_at-loop-sign l = length l.text - l.run.at
