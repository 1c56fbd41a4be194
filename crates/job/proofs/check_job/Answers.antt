-- `job::check_job` meets its contract: a head, then p, then the sizes.
-- Assumes nothing.
use mathlib.Core.Path.{◌≡◌, ◌∙◌, sym, ap}
use Prim.Native.Nat.{ℕ, ◌≤◌}
use native.Mathlib.Omega.{arith}
use lib.ListN.{length}
use Rattle.numbers.specs.Refusals.{judge, modulus_checks}
use Rattle.numbers.proofs.RefusalsLaws.{told-pass, told-refuse, handed-up}
use Rattle.job.specs.Limits.{head_fields}
use Rattle.job.specs.Job.{place}
use Rattle.job.proofs.JobLaws.{placed, place-head, job-short, job-refused, job-sizes}
use Rattle.job.proofs.check_job.Goals as goal
use Rattle.job.proofs.check_job.Lts as step
use Rattle.job.proofs.check_job.Reads as reads
use Rattle.job.proofs.check_job.Tie as tie

-- where the head ends, and that the file has it
head-is : (b : step.After-place tie.the-claims reads.Pre reads.Post tie.handed_clauses) → b.place.result ≡ place b.args.job.now head_fields
head-is b = b.place.ensures ∙ placed b.args.job.now b.form_of-form.result head_fields b.form_of-form.ensures

headed : (b : step.Else2 tie.the-claims reads.Pre reads.Post tie.handed_clauses) → place b.args.job.now head_fields ≤ length b.args.job.now
headed b = omega (arith, head-is b.before)

pub returns-then-job-lt2 : goal.returns-then-job-lt2
returns-then-job-lt2 c = sym (job-short c.args.job.now (omega (arith, (place-head c.args.job.now).0)))

pub returns-then-job-place : goal.returns-then-job-place
returns-then-job-place c = sym (job-short c.args.job.now (omega (arith, head-is c.before.before)))

pub returns-in_err-check_modulus : goal.returns-in_err-check_modulus
returns-in_err-check_modulus c =
    let m = c.check_modulus.ensures ∙ ap (λ (x : ℕ). judge (modulus_checks x)) c.field.ensures in
    rw (handed-up c.from_residual.ensures.1) (sym (job-refused c.args.job.now _ (headed c.before.before.before.before.before.before) (told-refuse m c.in_err-check_modulus.was)))

pub returns : goal.returns
returns c =
    let m = c.check_modulus.ensures ∙ ap (λ (x : ℕ). judge (modulus_checks x)) c.field.ensures in
    c.check_sizes.ensures ∙ sym (job-sizes c.args.job.now (headed c.before.before.before.before.before.before) (told-pass m c.in_ok-check_modulus.was))
