-- `sheet::kernel::factors_fit` meets its contract.
-- Assumes nothing.
use mathlib.Core.Path.{sym, ◌∙◌}
use native.Mathlib.Omega.{arith}
use Rattle.numbers.proofs.WordsLaws.{true-false}
use Rattle.numbers.proofs.TestsLaws.{decides-no}
use Rattle.layout.proofs.PlacesLaws.{header-size}
use Rattle.front.proofs.FrontLaws.{shape-placed}
use Rattle.sheet.proofs.WorkLaws.{all-long}
use Rattle.sheet.proofs.SoundStagesLaws.{sound-split, same-decides}
use Rattle.sheet.proofs.kernel.factors_fit.Goals as goal

pub returns-then-not-work_out : goal.returns-then-not-work_out
returns-then-not-work_out c = record { sound = decides-no (λ h. c.work_out.ensures.no (c.if-not-work_out.true) (sound-split _ h)); rows = λ e. true-false (sym e) }

pub factors_part-requires : goal.factors_part-requires
factors_part-requires c = shape-placed _ c.requires.0.shape

pub same_terms-requires : goal.same_terms-requires
same_terms-requires c =
    let g = c.work_out.ensures.yes (c.if-not-work_out.false) in
    let h = c.requires.0.shape in
    let e = c.read_header-h.ensures in
    let size = sym (header-size _ _ e) in
    (omega arith, omega arith, all-long _ (shape-placed _ h) _ c.factors_part.ensures ∙ size, g.long ∙ size, omega arith)

pub returns : goal.returns
returns c =
    let g = c.work_out.ensures.yes (c.if-not-work_out.false) in
    record { sound = same-decides _ c.requires.0 _ _ g c.requires.1 _ c.read_header-h.ensures _ c.factors_part.ensures _ c.same_terms.ensures; rows = λ _. g }
