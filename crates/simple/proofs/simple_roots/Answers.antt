-- `simple::simple_roots` meets its contract: the checks, and then the series.
-- Assumes nothing.
use mathlib.Core.Path.{◌≡◌, ◌∙◌, sym, ap}
use mathlib.Core.List.{◌++◌}
use Prim.Native.Nat.{ℕ, ◌*◌, ◌≤◌}
use native.Mathlib.Omega.{arith}
use lib.ListN.{length, drop}
use lib.Seq.{length-take-le}
use Rattle.numbers.proofs.RefusalsLaws.{leave-refused, leave-done, told-pass, told-refuse, handed-up}
use Rattle.layout.specs.Layout.{count, width}
use Rattle.layout.proofs.PlacesLaws.{placed-entries}
use Rattle.sheet.proofs.ReadingLaws.{sound-placed}
use Rattle.simple.specs.Simple.{RootsDone}
use Rattle.simple.proofs.SimpleLaws.{Simple, simple-pass, header-words, words-few}
use Rattle.simple.proofs.simple_roots.Goals as goal
use Rattle.simple.proofs.simple_roots.Lts as step
use Rattle.simple.proofs.simple_roots.Reads as reads
use Rattle.simple.proofs.simple_roots.Tie as tie

pub returns-in_err-check_simple : goal.returns-in_err-check_simple
returns-in_err-check_simple c =
    rw (handed-up c.from_residual.ensures.1) (let r = leave-refused _ _ _ _ (told-refuse c.check_simple.ensures c.in_err-check_simple.was) in record { answers = r.0; leaves = r.1 })

-- what the checks let pass
able : (b : step.Past-After-known_told tie.the-claims reads.Pre reads.Post tie.handed_clauses) → let a = b.args in Simple a.sheet.now (length a.out.now)
able b = simple-pass _ _ (told-pass b.check_simple.ensures b.in_ok-check_simple.was)

pub read_header-h-requires : goal.read_header-h-requires
read_header-h-requires c = omega (arith, placed-entries _ (sound-placed _ (able c.before).sound))

-- the words of the series
size : (b : step.After-read_header tie.the-claims reads.Pre reads.Post tie.handed_clauses) → let s = b.args.sheet.now in b.read_header-h.result.count * b.read_header-h.result.width ≡ count s * width s
size b = header-words _ _ b.read_header-h.ensures

fits : (b : step.After-read_header tie.the-claims reads.Pre reads.Post tie.handed_clauses) → b.read_header-h.result.count * b.read_header-h.result.width ≤ length b.args.out.now
fits b = omega (arith, size b, (able b.before).roomy)

pub overflow_mul-words : goal.overflow_mul-words
overflow_mul-words c = omega (arith, size c.before.before, words-few _ (able c.before.before.before).sound)

pub slice_bounds-write_roots-end : goal.slice_bounds-write_roots-end
slice_bounds-write_roots-end c = fits c.before.before

pub slice_bounds-write_roots-end-2 : goal.slice_bounds-write_roots-end-2
slice_bounds-write_roots-end-2 c = sym (length-take-le _ _ (fits c.before.before.before))

pub write_roots-requires : goal.write_roots-requires
write_roots-requires c =
    let h = able c.before.before.before.before in
    (h.sound, h.simple, length-take-le _ _ (fits c.before.before.before) ∙ size c.before.before.before)

pub overflow_cast-result : goal.overflow_cast-result
overflow_cast-result c = omega (arith, size c.before.before.before.before.before.before, words-few _ (able c.before.before.before.before.before.before.before).sound)

pub returns : goal.returns
returns c =
    let a = c.args in
    let old = a.out.now in
    let new = c.write_roots.new.out ++ drop (c.read_header-h.result.count * c.read_header-h.result.width) old in
    let done : RootsDone a.sheet.now old new = (c.write_roots.new.out, c.write_roots.ensures, ap (λ (n : ℕ). c.write_roots.new.out ++ drop n old) (size c.before.before.before.before.before.before ∙ sym c.write_roots.ensures.long)) in
    let r = leave-done _ _ _ old _ (told-pass c.check_simple.ensures c.in_ok-check_simple.was) (size c.before.before.before.before.before.before) done in
    record { answers = r.0; leaves = r.1 }
