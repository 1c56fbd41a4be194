-- `listing::kernel::write_series` meets its contract: refusal 22, or the series of the roots.
-- Assumes nothing.
use Rattle.numbers.proofs.RefusalsLaws.{told-pass, told-refuse}
use mathlib.Core.Path.{◌≡◌, refl, sym, ◌∙◌}
use Prim.Native.Nat.{◌*◌, ◌≤◌}
use native.Mathlib.Omega.{arith}
use lib.Seq.{length-take-le}
use Rattle.numbers.specs.Refusals.{Pass}
use Rattle.layout.specs.Layout.{count, width}
use Rattle.job.specs.Limits.{most_degree, most_width}
use Rattle.text.specs.Limits.{text_room}
use Rattle.text.proofs.TextLaws.{puts-as}
use Rattle.simple.specs.internal.Factors.{multiple_verdict}
use Rattle.simple.proofs.SimpleLaws.{multiple-pass, header-words}
use Rattle.listing.proofs.ListingLaws.{roots-refused, series-few, series-fits, series-ready, wrote-series}
use Rattle.listing.proofs.kernel.write_series.Goals as goal
use Rattle.listing.proofs.kernel.write_series.Lts as step
use Rattle.listing.proofs.kernel.write_series.Reads as reads
use Rattle.listing.proofs.kernel.write_series.Tie as tie

pub returns-in-Err : goal.returns-in-Err
returns-in-Err c =
    let e = told-refuse c.check_multiple.ensures c.in-Err.is in
    record { text = _; is = roots-refused c.args.sheet.now _ e; puts = puts-as text_room _ c.put_refused.ensures refl (omega arith) }

-- 22 is not given
passed : (b : step.Past-After-enum_told tie.the-claims reads.Pre reads.Post) → multiple_verdict b.args.sheet.now ≡ Pass
passed b = told-pass b.check_multiple.ensures b.in_default.is

-- the words of the series
size : (b : step.After-read_header tie.the-claims reads.Pre reads.Post) → let s = b.args.sheet.now in b.read_header-h.result.count * b.read_header-h.result.width ≡ count s * width s
size b = header-words _ _ b.read_header-h.ensures

few : (b : step.After-read_header tie.the-claims reads.Pre reads.Post) → b.read_header-h.result.count * b.read_header-h.result.width ≤ most_degree * most_width
few b = let h = b.requires in omega (arith, size b, series-few _ h.0 h.1 h.2)

pub overflow_mul-words : goal.overflow_mul-words
overflow_mul-words c = omega (arith, few c.before.before)

pub slice_bounds-series-end : goal.slice_bounds-series-end
slice_bounds-series-end c = few c.before.before

pub slice_bounds-write_roots-end : goal.slice_bounds-write_roots-end
slice_bounds-write_roots-end c = sym (length-take-le _ _ (few c.before.before.before))

pub write_roots-requires : goal.write_roots-requires
write_roots-requires c =
    let sound = c.requires.0 in
    (sound, multiple-pass _ sound (passed c.before.before.before.before), length-take-le _ _ (few c.before.before.before) ∙ size c.before.before.before)

pub slice_bounds-series-end-2 : goal.slice_bounds-series-end-2
slice_bounds-series-end-2 c =
    series-fits _ _ _ _ c.requires.0 (passed c.before.before.before.before.before.before) c.write_roots.ensures (size c.before.before.before.before.before)

pub slice_bounds-put_roots-end : goal.slice_bounds-put_roots-end
slice_bounds-put_roots-end c =
    sym (length-take-le _ _ (series-fits _ _ _ _ c.requires.0 (passed c.before.before.before.before.before.before.before) c.write_roots.ensures (size c.before.before.before.before.before.before)))

pub put_roots-requires : goal.put_roots-requires
put_roots-requires c =
    let h = c.requires in
    let r = series-ready _ _ _ _ h.0 (passed c.before.before.before.before.before.before.before.before) c.write_roots.ensures (size c.before.before.before.before.before.before.before) _ refl h.1 h.2 in
    (r.0, r.1, r.2, h.3)

pub returns : goal.returns
returns c =
    let h = c.requires in
    wrote-series _ _ _ _ h.0 (passed c.before.before.before.before.before.before.before.before.before.before.before) c.write_roots.ensures (size c.before.before.before.before.before.before.before.before.before.before) _ refl c.put_roots.ensures
