-- `extend::extend` meets its contract.
-- Assumes nothing.
use mathlib.Core.Path.{sym, ◌∙◌}
use native.Mathlib.Omega.{arith}
use lib.Seq.{length-take-le}
use Rattle.numbers.proofs.RefusalsLaws.{leave-refused}
use Rattle.sheet.proofs.SoundStagesLaws.{sound-front}
use Rattle.extend.proofs.ExtendTotalLaws.{extend-spoiled}
use Rattle.extend.proofs.extend.Goals as goal

pub returns-in_default : goal.returns-in_default
returns-in_default c =
    let a = c.args in
    let s = a.sheet.now in
    let r = leave-refused _ _ _ s (extend-spoiled s a.w (λ h. c.in_default.ensures (sound-front s h))) in
    record { answers = r.0; leaves = r.1 }

pub slice_bounds-extend_with-end : goal.slice_bounds-extend_with-end
slice_bounds-extend_with-end c = let l = c.in-Some.ensures.room in sym (length-take-le _ _ (omega arith))

pub extend_with-requires : goal.extend_with-requires
extend_with-requires c =
    let size = c.in-Some.ensures in
    let l = size.room in
    (size.front, length-take-le _ _ (omega arith) ∙ size.size)
