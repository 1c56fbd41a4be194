-- `job::check_sizes` meets its contract: refusals 3 and 4, and then refusal 5.
-- Assumes nothing.
use mathlib.Core.Path.{◌≡◌, ◌∙◌, sym, ap, ap₂}
use mathlib.Core.Bool.{◌||◌}
use mathlib.Core.List.{List, ◌∷◌}
use Prim.Native.Nat.{ℕ}
use lib.Dec.{ltb}
use Rattle.numbers.specs.Words.{outside}
use Rattle.numbers.specs.Refusals.{check, judge}
use Rattle.numbers.proofs.RefusalsLaws.{take-check, skip-check, none-judged, inside}
use Rattle.job.specs.Limits.{most_degree, most_width}
use Rattle.job.specs.Job.{job_degree, job_width, job_count, misplaced, place_checks, size_checks}
use Rattle.job.proofs.check_sizes.Goals as goal
use Rattle.job.proofs.check_sizes.Lts as step
use Rattle.job.proofs.check_sizes.Reads as reads
use Rattle.job.proofs.check_sizes.Tie as tie

abbrev file : step.Start tie.the-claims reads.Pre reads.Post → List ℕ
file s = s.args.job.now

-- what each test found, by the words of the file
degree-is : (b : step.After-outside tie.the-claims reads.Pre reads.Post) → b.outside.result ≡ outside 1 most_degree (job_degree (file b.before.before.before))
degree-is b = b.outside.ensures ∙ ap (outside 1 most_degree) b.field-d.ensures

width_is : (b : step.After-outside2 tie.the-claims reads.Pre reads.Post) → b.outside-2.result ≡ outside 1 most_width (job_width (file b.before.before.before.before.before.before))
width_is b = b.outside-2.ensures ∙ ap (outside 1 most_width) b.field-n.ensures

places_is : (b : step.After-misplaced tie.the-claims reads.Pre reads.Post) → let s = file b.before.before.before.before.before.before.before.before in b.misplaced.result ≡ (ltb most_degree (job_count s) || misplaced s (job_degree s) (job_width s))
places_is b =
    let s = file b.before.before.before.before.before.before.before.before in
    b.misplaced.ensures ∙ ap₂ (λ (d n : ℕ). ltb most_degree (job_count s) || misplaced s d n) b.field-d.ensures b.field-n.ensures

-- check 3 has passed, and then 4
passed-3 : (b : step.Else1 tie.the-claims reads.Pre reads.Post) → let s = file b.before.before.before.before in judge (size_checks s) ≡ judge (check 4 (outside 1 most_width (job_width s)) 0 ∷ place_checks s (job_degree s) (job_width s))
passed-3 b = skip-check _ _ (sym (degree-is b.before) ∙ b.if-outside.false)

passed-4 : (b : step.Else2 tie.the-claims reads.Pre reads.Post) → let s = file b.before.before.before.before.before.before.before in judge (size_checks s) ≡ judge (place_checks s (job_degree s) (job_width s))
passed-4 b = passed-3 b.before.before.before ∙ skip-check _ _ (sym (width_is b.before) ∙ b.if-outside-2.false)

pub returns-then-outside : goal.returns-then-outside
returns-then-outside c = sym (take-check _ _ (sym (degree-is c.before.before) ∙ c.if-outside.true))

pub returns-then-outside-2 : goal.returns-then-outside-2
returns-then-outside-2 c = sym (passed-3 c.before.before.before.before ∙ take-check _ _ (sym (width_is c.before.before) ∙ c.if-outside-2.true))

pub misplaced-requires : goal.misplaced-requires
misplaced-requires c = (
  c.requires.0,
  c.requires.1,
  (inside 1 most_degree _ (sym c.outside.ensures ∙ c.if-outside.false)).1,
  (inside 1 most_width _ (sym c.outside-2.ensures ∙ c.if-outside-2.false)).1,
)

pub returns-then-misplaced : goal.returns-then-misplaced
returns-then-misplaced c = sym (passed-4 c.before.before.before ∙ take-check _ _ (sym (places_is c.before.before) ∙ c.if-misplaced.true))

pub returns : goal.returns
returns c = sym (passed-4 c.before.before.before ∙ skip-check _ _ (sym (places_is c.before.before) ∙ c.if-misplaced.false) ∙ none-judged)
