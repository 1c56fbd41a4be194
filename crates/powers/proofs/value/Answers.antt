-- `powers::value` meets its contract. The loop's invariant: the sum is what Horner's scheme has at j.
-- Assumes nothing.
use Prim.Native.Nat.{◌-◌, ◌+◌, ◌*◌}
use native.Mathlib.Nat.{mod-lt}
use native.Mathlib.Omega.{arith}
use Rattle.numbers.specs.Words.{word}
use Rattle.powers.proofs.PowersLaws.{value-turn, value-starts}
use Rattle.powers.proofs.value.Goals as goal

pub loop-j-init : goal.loop-j-init
loop-j-init c = (value-starts c.args.p c.args.c c.args.e.now, omega arith)

pub loop-j-preserved : goal.loop-j-preserved
loop-j-preserved c =
    let l = c.loop-j in
    let a = c.args in
    (value-turn a.p a.c a.e.now l.j l.sum (omega arith) (omega arith) l.invariant.0, mod-lt (word a.e.now (l.j - 1) + a.c * l.sum) {m = a.p} (omega arith))
