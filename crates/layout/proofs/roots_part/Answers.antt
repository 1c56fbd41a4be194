-- `layout::roots_part` meets its contract.
-- Assumes nothing.
use mathlib.Core.Path.{ap, ◌∙◌}
use Prim.Native.Nat.{◌*◌}
use Rattle.numbers.specs.Words.{part}
use Rattle.layout.proofs.roots_part.Goals as goal

pub returns : goal.returns
returns c = c.words_from.ensures ∙ ap (λ o. part c.args.s.now o (2 * c.args.r)) c.roots_from.ensures
