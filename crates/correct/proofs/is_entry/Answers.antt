-- `correct::is_entry` meets its contract: each test that fails makes the definition's fail.
-- Assumes nothing.
use mathlib.Core.Path.{sym, ◌∙◌, ap}
use native.Mathlib.Omega.{arith}
use lib.Dec.{ltb}
use Rattle.correct.proofs.CorrectTotalLaws.{no_row, no-column, by_length}
use Rattle.correct.proofs.is_entry.Goals as goal

pub returns-then-read_header-j : goal.returns-then-read_header-j
returns-then-read_header-j c = let e = c.read_header.ensures.degree-is in sym (no_row _ _ _ _ (omega arith))

pub returns-then-t-lt1 : goal.returns-then-t-lt1
returns-then-t-lt1 c = sym (no-column _ _ _ _ (omega arith))

pub returns : goal.returns
returns c =
    let a = c.args in
    let e = c.read_header.ensures.degree-is in
    ap (ltb a.t) c.length_at.ensures ∙ sym (by_length _ _ _ _ (omega arith) (omega arith))
