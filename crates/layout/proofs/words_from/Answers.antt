-- `layout::words_from` meets its contract.
-- Assumes nothing.
use native.Mathlib.Nat.{add-sub_cancel_left}
use Rattle.layout.proofs.words_from.Goals as goal

pub returns : goal.returns
returns c = simp add-sub_cancel_left
