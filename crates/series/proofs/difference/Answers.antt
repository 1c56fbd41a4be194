-- `series::difference` meets its contract: what the check lets pass is what the kernel requires.
-- Assumes nothing.
use mathlib.Core.Path.{◌≡◌}
use lib.ListN.{length}
use Rattle.numbers.specs.Refusals.{judge, Pass}
use Rattle.numbers.proofs.RefusalsLaws.{answer-refused, told-pass, told-refuse, handed-up}
use Rattle.series.specs.Series.{series_checks, differences}
use Rattle.series.proofs.CheckLaws.{series-ready, series-done}
use Rattle.series.proofs.difference.Goals as goal
use Rattle.series.proofs.difference.Lts as step
use Rattle.series.proofs.difference.Reads as reads
use Rattle.series.proofs.difference.Tie as tie

-- where the check has passed
passed : (b : step.Past-After-known_told tie.the-claims reads.Pre reads.Post tie.handed_clauses) → let a = b.args in judge (series_checks a.p a.n a.g.now a.h.now (length a.out.now)) ≡ Pass
passed b = told-pass b.check_operation.ensures b.in_ok-check_operation.was

pub returns-in_err-check_operation : goal.returns-in_err-check_operation
returns-in_err-check_operation c =
    rw (handed-up c.from_residual.ensures.1) (answer-refused _ _ _ _ (told-refuse c.check_operation.ensures c.in_err-check_operation.was))

pub subtract-requires : goal.subtract-requires
subtract-requires c =
    let a = c.args in
    series-ready a.p a.n a.g.now a.h.now (length a.out.now) (passed c.before.before)

pub returns : goal.returns
returns c =
    let a = c.args in
    series-done a.p a.n a.g.now a.h.now (length a.out.now) (passed c.before.before.before.before.before) (λ k. differences a.p k a.g.now a.h.now) _ _ c.subtract.ensures
