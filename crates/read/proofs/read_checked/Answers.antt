-- `read::read_checked` meets its contract.
-- Assumes nothing.
use native.Mathlib.Omega.{arith}
use Rattle.read.proofs.OutcomeLaws.{text-passed, read-nothing, read_known, read_done}
use Rattle.read.proofs.read_checked.Goals as goal

pub sum_at-requires : goal.sum_at-requires
sum_at-requires c =
    let the-args = c.args in
    let g = text-passed the-args.ring.p the-args.ring.n the-args.text.now c.requires in
    (omega arith, g.short, omega (arith, g.high))

pub returns-in_default : goal.returns-in_default
returns-in_default c =
    let the-args = c.args in
    read-nothing the-args.ring.p the-args.ring.n the-args.text.now c.requires the-args.out.now c.sum_at.new.out c.in_default.ensures

pub returns : goal.returns
returns c =
    let the-args = c.args in
    let k = read_known the-args.ring.p the-args.ring.n the-args.text.now c.requires _ _ c.in-Some.ensures in
    read_done the-args.ring.p the-args.ring.n the-args.text.now c.requires the-args.out.now _ _ _ _ k c.hand_over.ensures.answer c.hand_over.ensures.words
