-- `job::number` meets its contract: byte after byte, from the last one down; what is read so far is the number of the bytes from `at + i` on.
-- Assumes nothing.
use Prim.Native.Nat.{◌+◌, ◌-◌}
use native.Mathlib.Omega.{arith}
use Rattle.job.proofs.JobLaws.{number-start, number_more, number_fits}
use Rattle.job.proofs.number.Goals as goal

pub loop-i-init : goal.loop-i-init
loop-i-init c = number-start c.args.job.now c.args.at c.args.size

pub overflow_mul-value : goal.overflow_mul-value
overflow_mul-value c = let z = number_fits _ c.loop-i.value (omega arith) c.loop-i.invariant.1 in omega arith

pub overflow_add-value : goal.overflow_add-value
overflow_add-value c =
    let z = number_fits _ c.loop-i.value (omega arith) c.loop-i.invariant.1 in
    let b = c.type_inv.job (c.args.at + (c.loop-i.i - 1)) in
    omega arith

pub loop-i-preserved : goal.loop-i-preserved
loop-i-preserved c =
    let a = c.args in
    let l = c.loop-i in
    let b = c.type_inv.job (a.at + (l.i - 1)) in
    number_more a.job.now a.at a.size l.i l.value _ c.loop-i-test.true (omega arith) l.invariant.0 l.invariant.1 c.from.ensures (omega arith)
