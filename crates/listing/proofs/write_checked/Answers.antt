-- `listing::write_checked` meets its contract: the fields of the job are loaded, and what they give is written.
-- Assumes nothing.
use mathlib.Core.Path.{◌≡◌, refl, sym, ap₂}
use mathlib.Core.List.{List, ◌++◌}
use Prim.Native.Nat.{ℕ, ◌+◌, ◌*◌, ◌≤◌}
use native.Mathlib.Omega.{arith}
use lib.ListN.{length, take, drop}
use lib.Seq.{length-take-le}
use Rattle.job.specs.Limits.{most_degree, most_width, head_fields}
use Rattle.job.specs.Job.{place, fields, job_degree, job_width, job_count}
use Rattle.job.specs.internal.Form.{FormIs, roots_room, rows_room}
use Rattle.job.proofs.JobLaws.{JobPass, job-pass, words_small, place-head, place_mono}
use Rattle.listing.proofs.ListingLaws.{load_fits, loaded-long, loaded-first, wrote-job}
use Rattle.listing.proofs.write_checked.Goals as goal
use Rattle.listing.proofs.write_checked.Lts as step
use Rattle.listing.proofs.write_checked.Reads as reads
use Rattle.listing.proofs.write_checked.Tie as tie

-- the job, which has passed its own checks
abbrev file : step.Start tie.the-claims reads.Pre reads.Post → List ℕ
file s = s.args.job.now

passed : (s : step.Start tie.the-claims reads.Pre reads.Post) → JobPass (file s)
passed s = job-pass (file s) s.requires.0

head : (s : step.Start tie.the-claims reads.Pre reads.Post) → place (file s) head_fields ≤ length (file s)
head s =
    let f = file s in
    let z = passed s in
    omega (arith, place_mono f head_fields (head_fields + job_count f + (job_degree f + 1) * job_width f) (omega arith))

abbrev words : step.After-field3 tie.the-claims reads.Pre reads.Post → ℕ
words b = (b.field-d.result + 1) * b.field-n.result

form-is : (b : step.After-field3 tie.the-claims reads.Pre reads.Post) → FormIs (file b.before.before.before.before.before.before) b.form_of-form.result
form-is b = b.form_of-form.ensures

record Read (b : step.After-field3 tie.the-claims reads.Pre reads.Post) : Type 0 where
  degree-is : b.field-d.result ≡ job_degree (file b.before.before.before.before.before.before)
  width_is : b.field-n.result ≡ job_width (file b.before.before.before.before.before.before)
  count-is : b.field-r.result ≡ job_count (file b.before.before.before.before.before.before)
  words-is : words b ≡ (job_degree (file b.before.before.before.before.before.before) + 1) * job_width (file b.before.before.before.before.before.before)
  degree-high : b.field-d.result ≤ most_degree
  width-high : b.field-n.result ≤ most_width
  roots_few : b.field-r.result ≤ roots_room
  words-few : words b ≤ rows_room
  long : place (file b.before.before.before.before.before.before) (head_fields + b.field-r.result + words b) ≤ length (file b.before.before.before.before.before.before)

known : (b : step.After-field3 tie.the-claims reads.Pre reads.Post) → Read b
known b =
    let l = passed b.before.before.before.before.before.before in
    let d = b.field-d.ensures in
    let n = b.field-n.ensures in
    let r = b.field-r.ensures in
    let w : words b ≡ (job_degree (file b.before.before.before.before.before.before) + 1) * job_width (file b.before.before.before.before.before.before) = ap₂ (λ (x y : ℕ). (x + 1) * y) d n in
    let high : b.field-d.result ≤ most_degree = omega (arith, l.degree-high) in
    let wide : b.field-n.result ≤ most_width = omega (arith, l.width-high) in
    record {
      degree-is = d;
      width_is = n;
      count-is = r;
      words-is = w;
      degree-high = high;
      width-high = wide;
      roots_few = omega (arith, l.count-high);
      words-few = words_small b.field-d.result b.field-n.result high wide;
      long = omega (arith, l.long, ap₂ (λ (x y : ℕ). place (file b.before.before.before.before.before.before) (head_fields + x + y)) r w);
    }

-- the arrays are long enough where their first words were loaded
rows_long : (b : step.After-field3 tie.the-claims reads.Pre reads.Post) (zeros new : List ℕ) → words b ≤ length zeros → new ≡ fields (file b.before.before.before.before.before.before) (head_fields + b.field-r.result) (length (take (words b) zeros))
    → words b ≤ length (new ++ drop (words b) zeros)
rows_long b zeros new = loaded-long (file b.before.before.before.before.before.before) (head_fields + b.field-r.result) (words b) zeros new

roots-long : (b : step.After-field3 tie.the-claims reads.Pre reads.Post) (zeros new : List ℕ) → b.field-r.result ≤ length zeros → new ≡ fields (file b.before.before.before.before.before.before) head_fields (length (take b.field-r.result zeros))
    → b.field-r.result ≤ length (new ++ drop b.field-r.result zeros)
roots-long b zeros new = loaded-long (file b.before.before.before.before.before.before) head_fields b.field-r.result zeros new

pub form_of-form-requires : goal.form_of-form-requires
form_of-form-requires c = omega (arith, head c.before.before.before, (place-head (file c.before.before.before)).0)

pub field-d-requires : goal.field-d-requires
field-d-requires c = (c.form_of-form.ensures, omega arith, omega (arith, head c.before.before.before.before))

pub field-n-requires : goal.field-n-requires
field-n-requires c = (c.form_of-form.ensures, omega arith, omega (arith, head c.before.before.before.before.before))

pub field-r-requires : goal.field-r-requires
field-r-requires c = (c.form_of-form.ensures, omega arith, omega (arith, head c.before.before.before.before.before.before))

pub overflow_add-m : goal.overflow_add-m
overflow_add-m c = omega (arith, (known c.before).degree-high)

pub overflow_mul-m : goal.overflow_mul-m
overflow_mul-m c = omega (arith, (known c.before).words-few)

pub overflow_cast-m : goal.overflow_cast-m
overflow_cast-m c = omega (arith, (known c.before).words-few)

pub slice_bounds-roots-end : goal.slice_bounds-roots-end
slice_bounds-roots-end c = omega (arith, (known c.before).roots_few)

pub slice_bounds-load-end : goal.slice_bounds-load-end
slice_bounds-load-end c = sym (length-take-le c.field-r.result _ (omega (arith, (known c.before.before).roots_few)))

pub load-requires : goal.load-requires
load-requires c =
    let z = known c.before.before in
    load_fits (file c.before.before.before.before.before.before.before.before) _ head_fields c.field-r.result (head_fields + c.field-r.result + words c.before.before) _ (form-is c.before.before) (omega arith) (omega arith) (omega arith) (omega (arith, z.long))

pub slice_bounds-rows-end : goal.slice_bounds-rows-end
slice_bounds-rows-end c = omega (arith, (known c.before.before.before.before).words-few)

pub slice_bounds-load-end-2 : goal.slice_bounds-load-end-2
slice_bounds-load-end-2 c = sym (length-take-le (words c.before.before.before.before.before) _ (omega (arith, (known c.before.before.before.before.before).words-few)))

pub load-requires-2 : goal.load-requires-2
load-requires-2 c =
    let z = known c.before.before.before.before.before in
    load_fits (file c.before.before.before.before.before.before.before.before.before.before.before) _ (head_fields + c.field-r.result) (words c.before.before.before.before.before) (head_fields + c.field-r.result + words c.before.before.before.before.before) _ (form-is c.before.before.before.before.before) (omega arith) (omega arith) (omega arith) (omega (arith, z.long))

pub field-p-requires : goal.field-p-requires
field-p-requires c = (form-is c.before.before.before.before.before.before.before, omega arith, omega (arith, head c.before.before.before.before.before.before.before.before.before.before.before.before.before))

pub slice_bounds-rows-end-2 : goal.slice_bounds-rows-end-2
slice_bounds-rows-end-2 c = rows_long c.before.before.before.before.before.before.before.before _ _ (omega (arith, (known c.before.before.before.before.before.before.before.before).words-few)) c.load-2.ensures

pub slice_bounds-write_given-end : goal.slice_bounds-write_given-end
slice_bounds-write_given-end c =
    sym (length-take-le (words c.before.before.before.before.before.before.before.before.before) _ (rows_long c.before.before.before.before.before.before.before.before.before _ _ (omega (arith, (known c.before.before.before.before.before.before.before.before.before).words-few)) c.load-2.ensures))

pub slice_bounds-roots-end-2 : goal.slice_bounds-roots-end-2
slice_bounds-roots-end-2 c = roots-long c.before.before.before.before.before.before.before.before.before _ _ (omega (arith, (known c.before.before.before.before.before.before.before.before.before).roots_few)) c.load.ensures

pub slice_bounds-write_given-end-2 : goal.slice_bounds-write_given-end-2
slice_bounds-write_given-end-2 c =
    sym (length-take-le c.field-r.result _ (roots-long c.before.before.before.before.before.before.before.before.before.before _ _ (omega (arith, (known c.before.before.before.before.before.before.before.before.before.before).roots_few)) c.load.ensures))

pub write_given-requires : goal.write_given-requires
write_given-requires c = let z = known c.before.before.before.before.before.before.before.before.before.before.before in (z.degree-high, z.width-high, c.requires.1)

pub returns : goal.returns
returns c =
    let f = file c.before.before.before.before.before.before.before.before.before.before.before.before.before.before.before.before.before.before.before.before in
    let z = known c.before.before.before.before.before.before.before.before.before.before.before.before.before.before in
    let rows = loaded-first f (head_fields + c.field-r.result) (head_fields + job_count f) (words c.before.before.before.before.before.before.before.before.before.before.before.before.before.before) ((job_degree f + 1) * job_width f) _ _ (omega arith) (omega arith) z.words-is c.load-2.ensures in
    let roots = loaded-first f head_fields head_fields c.field-r.result (job_count f) _ _ (omega arith) refl z.count-is c.load.ensures in
    wrote-job f _ _ _ _ _ c.field-p.ensures z.degree-is z.width_is rows roots c.args.profile c.requires.0 c.write_given.ensures
