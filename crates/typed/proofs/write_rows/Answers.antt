-- `typed::write_rows` meets its contract: refusal 3, or the text of what is given.
-- Assumes nothing.
use mathlib.Core.Path.{◌≡◌, sym, ◌∙◌}
use mathlib.Core.Bool.{false}
use native.Mathlib.Omega.{arith}
use Prim.Native.Nat.{◌+◌, ◌*◌, ◌≤◌}
use lib.Seq.{length-take-le}
use Rattle.numbers.specs.Words.{outside}
use Rattle.numbers.proofs.RefusalsLaws.{inside}
use Rattle.job.specs.Limits.{most_degree}
use Rattle.job.specs.internal.Form.{rows_room}
use Rattle.job.proofs.JobLaws.{words_small}
use Rattle.typed.proofs.KeyLaws.{rows-refused, rows-given}
use Rattle.typed.proofs.write_rows.Goals as goal
use Rattle.typed.proofs.write_rows.Lts as step
use Rattle.typed.proofs.write_rows.Reads as reads
use Rattle.typed.proofs.write_rows.Tie as tie

pub returns-then-outside : goal.returns-then-outside
returns-then-outside c =
    let a = c.args in
    rows-refused a.p a.d a.n a.rows.now (sym c.outside.ensures ∙ c.if-outside.true) c.put_refused.ensures

let-in : (b : step.Else1 tie.the-claims reads.Pre reads.Post) → outside 1 most_degree b.args.d ≡ false
let-in b = sym b.outside.ensures ∙ b.if-outside.false

degree : (b : step.Else1 tie.the-claims reads.Pre reads.Post) → b.args.d ≤ most_degree
degree b = (inside 1 most_degree b.args.d (let-in b)).1

words : (b : step.Else1 tie.the-claims reads.Pre reads.Post) → (b.args.d + 1) * b.args.n ≤ rows_room
words b = words_small b.args.d b.args.n (degree b) b.requires.0

pub overflow_add-m : goal.overflow_add-m
overflow_add-m c = omega (arith, degree c.before)

pub overflow_mul-m : goal.overflow_mul-m
overflow_mul-m c = omega (arith, words c.before)

pub overflow_cast-m : goal.overflow_cast-m
overflow_cast-m c = omega (arith, words c.before)

pub slice_bounds-write_given-end : goal.slice_bounds-write_given-end
slice_bounds-write_given-end c = let a = c.args in sym (length-take-le ((a.d + 1) * a.n) _ (omega (arith, words c.before, c.requires.1)))

pub write_given-requires : goal.write_given-requires
write_given-requires c = (degree c.before.before, c.requires.0, c.requires.2)

pub returns : goal.returns
returns c =
    let a = c.args in
    rows-given a.p a.d a.n a.rows.now (let-in c.before.before.before.before.before) c.requires.0 c.write_given.ensures
