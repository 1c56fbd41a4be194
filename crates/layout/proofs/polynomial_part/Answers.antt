-- `layout::polynomial_part` meets its contract: the rows end within the sheet.
-- Assumes nothing.
use mathlib.Core.Path.{ap₂, ◌∙◌}
use native.Mathlib.Omega.{arith}
use Rattle.numbers.specs.Words.{part}
use Rattle.layout.proofs.PlacesLaws.{polynomial-within, header-polynomial, header-rows}
use Rattle.layout.proofs.polynomial_part.Goals as goal

pub overflow_mul-h : goal.overflow_mul-h
overflow_mul-h c = let e = c.read_header-h.ensures in let z = header-rows _ _ e in record { fits = omega (arith, polynomial-within c.args.s.now c.requires) }

pub words_from-requires : goal.words_from-requires
words_from-requires c = let e = c.read_header-h.ensures in let z = header-rows _ _ e in omega (arith, c.polynomial_from.ensures ∙ header-polynomial _ _ e, polynomial-within c.args.s.now c.requires)

pub returns : goal.returns
returns c = let e = c.read_header-h.ensures in c.words_from.ensures ∙ ap₂ (part c.args.s.now) (c.polynomial_from.ensures ∙ header-polynomial _ _ e) (header-rows _ _ e)
