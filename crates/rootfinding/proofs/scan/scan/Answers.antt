-- `rootfinding::scan::scan` meets its contract. The loop's invariant is `Scanning`.
-- Assumes nothing.
use native.Mathlib.Omega.{arith}
use Rattle.rootfinding.proofs.ScanLaws.{scanning-none, scanning-room, scanning-next}
use Rattle.rootfinding.proofs.scan.scan.Goals as goal

pub loop-c-init : goal.loop-c-init
loop-c-init c = scanning-none _ _ _

pub keep-n-requires : goal.keep-n-requires
keep-n-requires c =
    let o = c.loop-c in
    let two = c.requires.0.prime.two-le in
    let room = scanning-room c.args.p c.args.e.now c.args.roots.now c.requires.0 c.requires.1 o.c o.n o.roots o.invariant (omega arith) in
    (omega arith, c.requires.0.small, omega arith, room)

pub loop-c-preserved : goal.loop-c-preserved
loop-c-preserved c =
    let o = c.loop-c in
    let next = scanning-next c.args.p c.args.e.now c.args.roots.now c.requires.0 c.requires.1 o.c o.n o.roots o.invariant (omega arith) in
    next _ _ c.keep-n.ensures
