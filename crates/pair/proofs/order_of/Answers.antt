-- `pair::order_of` meets its contract.
-- Assumes nothing.
use mathlib.Core.Path.{sym, ◌∙◌}
use native.Mathlib.Nat.{le_of_eq}
use Rattle.pair.proofs.PairWordsLaws.{order-words}
use Rattle.pair.proofs.order_of.Goals as goal

pub first_nonzero-requires : goal.first_nonzero-requires
first_nonzero-requires c = (c.requires.1, le_of_eq (sym c.requires.0))

pub returns : goal.returns
returns c = c.first_nonzero.ensures ∙ order-words _ _ _
