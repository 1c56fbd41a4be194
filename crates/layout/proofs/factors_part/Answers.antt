-- `layout::factors_part` meets its contract: the part ends within the sheet.
-- Assumes nothing.
use mathlib.Core.Path.{ap₂, ◌∙◌}
use native.Mathlib.Omega.{arith}
use Rattle.numbers.specs.Words.{part}
use Rattle.layout.proofs.PlacesLaws.{factors-within, header-factors, header-size}
use Rattle.layout.proofs.factors_part.Goals as goal

pub words_from-requires : goal.words_from-requires
words_from-requires c = let e = c.read_header-h.ensures in let z = header-size _ _ e in omega (arith, c.factors_from.ensures ∙ header-factors _ _ e, factors-within c.args.s.now c.requires)

pub returns : goal.returns
returns c = let e = c.read_header-h.ensures in c.words_from.ensures ∙ ap₂ (part c.args.s.now) (c.factors_from.ensures ∙ header-factors _ _ e) (header-size _ _ e)
