-- `layout::lower_part` meets its contract: the part ends within the sheet.
-- Assumes nothing.
use mathlib.Core.Path.{ap₂, ◌∙◌}
use native.Mathlib.Omega.{arith}
use Rattle.numbers.specs.Words.{part}
use Rattle.layout.proofs.PlacesLaws.{lower-within, header-polynomial, header-size}
use Rattle.layout.proofs.lower_part.Goals as goal

pub overflow_mul-h : goal.overflow_mul-h
overflow_mul-h c = let e = c.read_header-h.ensures in let z = header-size _ _ e in record { fits = omega (arith, lower-within c.args.s.now c.requires) }

pub words_from-requires : goal.words_from-requires
words_from-requires c = let e = c.read_header-h.ensures in let z = header-size _ _ e in omega (arith, c.polynomial_from.ensures ∙ header-polynomial _ _ e, lower-within c.args.s.now c.requires)

pub returns : goal.returns
returns c = let e = c.read_header-h.ensures in c.words_from.ensures ∙ ap₂ (part c.args.s.now) (c.polynomial_from.ensures ∙ header-polynomial _ _ e) (header-size _ _ e)
