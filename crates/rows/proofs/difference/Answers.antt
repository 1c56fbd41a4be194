-- `rows::difference` meets its contract: what the check lets pass is what the kernel requires.
-- Assumes nothing.
use mathlib.Core.Path.{◌≡◌}
use Prim.Native.Nat.{◌+◌, ◌*◌, ◌≤◌}
use native.Mathlib.Omega.{arith}
use lib.ListN.{length}
use Rattle.numbers.specs.Limits.{most_rows}
use Rattle.numbers.specs.Refusals.{judge, Pass}
use Rattle.numbers.proofs.RefusalsLaws.{answer-refused, told-pass, told-refuse, handed-up}
use Rattle.series.specs.Series.{differences}
use Rattle.rows.specs.Rows.{rows_checks}
use Rattle.rows.proofs.CheckLaws.{rows-ready, rows-small, rows-done}
use Rattle.rows.proofs.difference.Goals as goal
use Rattle.rows.proofs.difference.Lts as step
use Rattle.rows.proofs.difference.Reads as reads
use Rattle.rows.proofs.difference.Tie as tie

-- where the check has passed
passed : (b : step.Past-After-known_told tie.the-claims reads.Pre reads.Post tie.handed_clauses) → let a = b.args in judge (rows_checks a.p a.d a.n a.f.now a.g.now (length a.out.now)) ≡ Pass
passed b = told-pass b.check_operation.ensures b.in_ok-check_operation.was

small : (b : step.Past-After-known_told tie.the-claims reads.Pre reads.Post tie.handed_clauses) → let a = b.args in (a.d + 1 ≤ most_rows) × ((a.d + 1) * a.n ≤ 8448)
small b =
    let a = b.args in
    rows-small a.p a.d a.n a.f.now a.g.now (length a.out.now) (passed b)

pub returns-in_err-check_operation : goal.returns-in_err-check_operation
returns-in_err-check_operation c =
    rw (handed-up c.from_residual.ensures.1) (answer-refused _ _ _ _ (told-refuse c.check_operation.ensures c.in_err-check_operation.was))

pub subtract-requires : goal.subtract-requires
subtract-requires c =
    let a = c.args in
    rows-ready a.p a.d a.n a.f.now a.g.now (length a.out.now) (passed c.before.before)

pub overflow_add-result : goal.overflow_add-result
overflow_add-result c = let s = small c.before.before.before.before.before in record { fits = omega arith }

pub overflow_mul-result : goal.overflow_mul-result
overflow_mul-result c = let s = small c.before.before.before.before.before in record { fits = omega arith }

pub returns : goal.returns
returns c =
    let a = c.args in
    rows-done a.p a.d a.n a.f.now a.g.now (length a.out.now) (passed c.before.before.before.before.before) (λ k. differences a.p k a.f.now a.g.now) _ _ c.subtract.ensures
