-- `counts::counts` meets its contract: what the checks let pass is what `write_counts` requires.
-- Assumes nothing.
use native.Mathlib.Omega.{arith}
use mathlib.Core.Path.{◌≡◌, refl}
use lib.ListN.{length}
use Rattle.numbers.specs.Refusals.{judge, Pass}
use Rattle.numbers.proofs.RefusalsLaws.{answer-refused, answer-done, told-pass, told-refuse, handed-up}
use Rattle.counts.specs.Counts.{count_words, counts_checks}
use Rattle.counts.proofs.CheckLaws.{counts-pass}
use Rattle.counts.proofs.counts.Goals as goal
use Rattle.counts.proofs.counts.Lts as step
use Rattle.counts.proofs.counts.Reads as reads
use Rattle.counts.proofs.counts.Tie as tie

pub returns-in_err-check_counts : goal.returns-in_err-check_counts
returns-in_err-check_counts c =
    rw (handed-up c.from_residual.ensures.1) (answer-refused _ _ _ _ (told-refuse c.check_counts.ensures c.in_err-check_counts.was))

pub write_counts-requires : goal.write_counts-requires
write_counts-requires c = let a = c.args in counts-pass a.p a.d (length a.out.now) (told-pass c.check_counts.ensures c.in_ok-check_counts.was)

passed : (b : step.After-write_counts tie.the-claims reads.Pre reads.Post tie.handed_clauses) → let a = b.args in judge (counts_checks a.p a.d (length a.out.now)) ≡ Pass
passed b = told-pass b.check_counts.ensures b.in_ok-check_counts.was

pub overflow_add-result : goal.overflow_add-result
overflow_add-result c =
    let a = c.args in
    let z = (counts-pass a.p a.d (length a.out.now) (passed c.before.before.before)).0.high in
    record { fits = omega arith }

pub returns : goal.returns
returns c = answer-done (count_words _) _ _ _ _ _ (passed c.before.before.before) c.write_counts.ensures refl
