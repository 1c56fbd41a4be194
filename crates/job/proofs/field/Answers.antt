-- `job::field` meets its contract: the field's bytes stand within the file.
-- Assumes nothing.
use mathlib.Core.Path.{◌≡◌, ◌∙◌, ap₂}
use Rattle.job.specs.Job.{number, place, field}
use Rattle.job.proofs.JobLaws.{placed}
use Rattle.job.proofs.field.Goals as goal
use Rattle.job.proofs.field.Lts as step
use Rattle.job.proofs.field.Reads as reads
use Rattle.job.proofs.field.Tie as tie

-- where the field begins
at_place : (b : step.After-place tie.the-claims reads.Pre reads.Post) → b.place.result ≡ place b.args.job.now b.args.i
at_place b = b.place.ensures ∙ placed b.args.job.now b.args.form b.args.i b.requires.0

pub returns : goal.returns
unfolding field
returns c = c.number.ensures ∙ ap₂ (number c.args.job.now) (at_place c.before.before) c.requires.0.size_is
