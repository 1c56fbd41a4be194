-- `sheet::kernel::same_terms` meets its contract. The loop's invariant: the rows before j agree.
-- Assumes nothing.
use Prim.Native.Nat.{◌+◌, ◌*◌, ◌≤◌}
use native.Mathlib.Omega.{arith}
use Rattle.numbers.proofs.TestsLaws.{decides-no}
use Rattle.numbers.proofs.RefusalsLaws.{few_words}
use Rattle.rows.proofs.RowsLaws.{row_fits}
use Rattle.sheet.proofs.SoundStagesLaws.{row_back}
use Rattle.sheet.proofs.kernel.same_terms.Goals as goal
use Rattle.sheet.proofs.kernel.same_terms.Lts as step
use Rattle.sheet.proofs.kernel.same_terms.Reads as reads
use Rattle.sheet.proofs.kernel.same_terms.Tie as tie

-- row j ends within both slices
ends : (b : step.In-loop tie.the-claims reads.Pre reads.Post goal.the-invariant-loop-j goal.the-decreases-loop-j) → let a = b.args in (b.loop-j.j * a.n + a.n ≤ a.d * a.n) × (a.d * a.n ≤ 8448)
ends b = let a = b.args in (omega (arith, row_fits b.loop-j.j a.d a.n (omega arith)), few_words a.d a.n (omega arith) (omega arith))

pub returns-then-not-same_row : goal.returns-then-not-same_row
returns-then-not-same_row c =
    let a = c.args in
    decides-no (λ h. c.same_row.ensures.no (c.if-not-same_row.true) (row_back c.loop-j.j a.d a.n a.k a.stored.now a.computed.now (omega arith) c.requires.2 c.requires.3 (h c.loop-j.j (omega arith))))
