-- `rows::kernel::multiply` meets its contract. The loop's invariant: out has the rows of the product before j, and past them what it had.
-- Assumes nothing.
use Prim.Native.Nat.{◌≤◌, ◌-◌, ◌+◌, ◌*◌}
use native.Mathlib.Omega.{arith}
use Rattle.numbers.proofs.WordsLaws.{writing-none}
use Rattle.rows.specs.Rows.{table}
use Rattle.rows.proofs.RowsLaws.{row_fits, writing-row}
use Rattle.rows.proofs.kernel.multiply.Goals as goal
use Rattle.rows.proofs.kernel.multiply.Lts as step
use Rattle.rows.proofs.kernel.multiply.Reads as reads
use Rattle.rows.proofs.kernel.multiply.Tie as tie

-- row j lies within the rows of the product
inside : (b : step.In-loop tie.the-claims reads.Pre reads.Post goal.the-invariant-loop-j goal.the-decreases-loop-j) → let a = b.args in b.loop-j.j * a.n + a.n ≤ (a.frows + a.grows - 1) * a.n
inside b =
    let a = b.args in
    row_fits b.loop-j.j (a.frows + a.grows - 1) a.n (omega arith)

pub loop-j-init : goal.loop-j-init
unfolding table
loop-j-init c = writing-none _

pub loop-j-preserved : goal.loop-j-preserved
loop-j-preserved c =
    let l = inside c.before.before.before.before.before in
    writing-row _ _ _ _ _ _ c.loop-j.invariant c.product_row.ensures (omega arith)
