-- `series::product` meets its contract: what the check lets pass is what the kernel requires of the known words, and zeros follow them.
-- Assumes nothing.
use mathlib.Core.Path.{◌≡◌, sym}
use Prim.Native.Nat.{◌≤◌}
use native.Mathlib.Omega.{arith}
use lib.ListN.{length}
use lib.Seq.{length-take-le}
use Rattle.numbers.specs.Refusals.{judge, Pass}
use Rattle.numbers.proofs.RefusalsLaws.{answer-refused, answer-done, told-pass, told-refuse, handed-up}
use Rattle.series.specs.Series.{known_checks, product}
use Rattle.series.proofs.KnownLaws.{product-written}
use Rattle.series.proofs.CheckLaws.{known-within, known-ready}
use Rattle.series.proofs.product.Goals as goal
use Rattle.series.proofs.product.Lts as step
use Rattle.series.proofs.product.Reads as reads
use Rattle.series.proofs.product.Tie as tie

pub returns-in_err-check_known : goal.returns-in_err-check_known
returns-in_err-check_known c =
    rw (handed-up c.from_residual.ensures.1) (answer-refused _ _ _ _ (told-refuse c.check_known.ensures c.in_err-check_known.was))

-- where the check has passed
passed : (b : step.Past-After-known_told tie.the-claims reads.Pre reads.Post tie.handed_clauses) → let a = b.args in judge (known_checks a.p a.n a.g.now a.gknown a.h.now a.hknown (length a.out.now)) ≡ Pass
passed b = told-pass b.check_known.ensures b.in_ok-check_known.was

-- and the count that both are known to
known : (b : step.After-lesser tie.the-claims reads.Pre reads.Post tie.handed_clauses) → let a = b.args in let k = b.lesser-known.result in
    (k ≤ length a.g.now) × (k ≤ length a.h.now) × (length a.g.now ≡ a.n) × (a.n ≤ length a.out.now)
known b =
    let a = b.args in
    known-within a.p a.n a.g.now a.gknown a.h.now a.hknown (length a.out.now) (passed b.before) _ b.lesser-known.ensures

pub slice_bounds-multiply-end : goal.slice_bounds-multiply-end
slice_bounds-multiply-end c = sym (length-take-le _ _ (known c.before).0)

pub slice_bounds-multiply-end-2 : goal.slice_bounds-multiply-end-2
slice_bounds-multiply-end-2 c = sym (length-take-le _ _ (known c.before).1)

pub multiply-requires : goal.multiply-requires
multiply-requires c =
    let a = c.args in
    known-ready a.p a.n a.g.now a.gknown a.h.now a.hknown (length a.out.now) (passed c.before.before.before) _ c.lesser-known.ensures

pub slice_bounds-repeat-count : goal.slice_bounds-repeat-count
slice_bounds-repeat-count c = let w = known c.before.before.before.before.before in omega arith

pub slice_bounds-repeat-start : goal.slice_bounds-repeat-start
slice_bounds-repeat-start c = let w = known c.before.before.before.before.before in omega arith

pub slice_bounds-repeat-end : goal.slice_bounds-repeat-end
slice_bounds-repeat-end c = let w = known c.before.before.before.before.before in omega arith

pub returns : goal.returns
returns c =
    let a = c.args in
    let w = known c.before.before.before.before.before.before.before.before.before in
    answer-done (λ k. product a.p k a.g.now a.gknown a.h.now a.hknown) (length a.g.now) _ _ _ _ (passed c.before.before.before.before.before.before.before.before.before.before)
    (product-written a.p a.g.now a.gknown a.h.now a.hknown _ c.lesser-known.ensures (omega arith) a.out.now _ _ (omega arith) c.repeat.ensures c.multiply.ensures)
    (omega arith)
