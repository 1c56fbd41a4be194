-- `tiles::weights::clear_sums` meets its contract.
-- Assumes nothing.
use mathlib.Core.Path.{refl, sym, ◌∙◌}
use native.Mathlib.Omega.{arith}
use Rattle.numbers.proofs.WordsLaws.{length-tabulate, word-tabulate}
use lib.Seq.{ext_get_or}
use Rattle.tiles.proofs.weights.clear_sums.Goals as goal

pub returns : goal.returns
returns c =
    let h = c.fill.ensures in
    ext_get_or 0 c.fill.new.self _ (h.len ∙ sym (length-tabulate _ _)) (λ k l. h.clones k 0 (omega arith) refl ∙ sym (word-tabulate _ (λ _. 0) k (omega arith)))
