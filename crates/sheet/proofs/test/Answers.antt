-- `sheet::test` meets its contract.
-- Assumes nothing.
use mathlib.Core.Path.{sym, ◌∙◌}
use native.Mathlib.Omega.{arith}
use lib.Seq.{length-take-le}
use Rattle.numbers.proofs.TestsLaws.{decides-no}
use Rattle.sheet.proofs.SoundStagesLaws.{sound-front, answers}
use Rattle.sheet.proofs.test.Goals as goal

pub returns-in_default : goal.returns-in_default
returns-in_default c = let s = c.args.sheet.now in answers _ s (decides-no (λ h. c.in_default.ensures (sound-front s h)))

pub read_header-k-requires : goal.read_header-k-requires
read_header-k-requires c = let h = c.in-Some.ensures.front.shape.header.roomy in omega arith

pub slice_bounds-factors_fit-end : goal.slice_bounds-factors_fit-end
slice_bounds-factors_fit-end c = let l = c.in-Some.ensures.room in sym (length-take-le _ _ (omega arith))

pub factors_fit-requires : goal.factors_fit-requires
factors_fit-requires c =
    let size = c.in-Some.ensures in
    let e = c.read_header-k.ensures in
    let k = size.front.shape.header.terms-high in
    let l = size.room in
    (size.front, omega arith, omega arith, length-take-le _ _ (omega arith) ∙ size.size)

pub returns : goal.returns
returns c = answers _ c.args.sheet.now c.factors_fit.ensures.sound
