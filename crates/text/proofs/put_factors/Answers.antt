-- `text::put_factors` meets its contract: factor after factor.
-- Assumes nothing.
use native.Mathlib.Omega.{arith}
use Rattle.text.proofs.SheetTextLaws.{factors-none, factors-on, factors-room}
use Rattle.text.proofs.put_factors.Goals as goal

pub loop-i-init : goal.loop-i-init
loop-i-init c = factors-none c.args.sheet.now c.requires.0 _ _ (omega arith)

pub put_factor-place-requires : goal.put_factor-place-requires
put_factor-place-requires c =
    let e = c.read_header-h.ensures.count-is in
    let r = factors-room c.args.sheet.now c.requires.0 c.loop-i.i (omega arith) in
    (c.requires.0, omega arith, omega arith)

pub loop-i-preserved : goal.loop-i-preserved
loop-i-preserved c =
    let l = c.loop-i in
    factors-on c.args.sheet.now c.requires.0 l.i _ l.invariant c.put_factor-place.ensures
