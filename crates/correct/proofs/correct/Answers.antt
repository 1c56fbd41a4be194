-- `correct::correct` meets its contract.
-- Assumes nothing.
use mathlib.Core.Path.{sym, ◌∙◌}
use native.Mathlib.Omega.{arith}
use lib.Seq.{length-take-le}
use Rattle.numbers.proofs.RefusalsLaws.{leave-refused}
use Rattle.sheet.proofs.SoundStagesLaws.{sound-front}
use Rattle.correct.proofs.CorrectTotalLaws.{correct-spoiled}
use Rattle.correct.proofs.correct.Goals as goal

pub returns-in_default : goal.returns-in_default
returns-in_default c =
    let a = c.args in
    let s = a.sheet.now in
    let r = leave-refused _ _ _ s (correct-spoiled s a.j a.t a.entry (λ h. c.in_default.ensures (sound-front s h))) in
    record { answers = r.0; leaves = r.1 }

pub slice_bounds-correct_with-end : goal.slice_bounds-correct_with-end
slice_bounds-correct_with-end c = let l = c.in-Some.ensures.room in sym (length-take-le _ _ (omega arith))

pub correct_with-requires : goal.correct_with-requires
correct_with-requires c =
    let size = c.in-Some.ensures in
    let l = size.room in
    (size.front, length-take-le _ _ (omega arith) ∙ size.size)
