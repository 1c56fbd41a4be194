-- `text::put_more` meets its contract: entry after entry.
-- Assumes nothing.
use native.Mathlib.Omega.{arith}
use Rattle.text.proofs.TextLaws.{more-start, more-on}
use Rattle.text.proofs.put_more.Goals as goal

pub loop-v-init : goal.loop-v-init
loop-v-init c = let a = c.args in more-start a.profile a.p a.words.now _ _ (omega arith)

pub loop-v-preserved : goal.loop-v-preserved
loop-v-preserved c =
    let a = c.args in
    let l = c.loop-v in
    let blank = c.put-after_blank.ensures in
    more-on a.profile a.p a.words.now l.v-index _ (omega arith) l.invariant blank c.put_number-place.ensures
