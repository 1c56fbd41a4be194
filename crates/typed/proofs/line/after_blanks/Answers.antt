-- `typed::line::after_blanks` meets its contract.
-- Assumes nothing.
use Rattle.std.proofs.Common.{rules, tests}
use mathlib.Core.Bool.{not}
use Rattle.std.proofs.lemmas.Iterator.{YieldsList-from_slice}
use Rattle.std.proofs.lemmas.Iterator.Search.{position_from_yields_List}
use lib.Dec.{eqb}
use Rattle.typed.proofs.LineLaws.{blanks-past}
use Rattle.typed.proofs.line.after_blanks.Goals as goal

pub returns : goal.returns
returns c =
    blanks-past _ _ _ _ c.requires (position_from_yields_List (λ x. not (eqb x 32)) _ _ _ c.position.ensures.ran (YieldsList-from_slice _ c.iter.ensures.rest) (λ x b q k. search (rules, tests))) c.unwrap_or.ensures
