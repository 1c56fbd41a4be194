-- `extend::extend_with` meets its contract: the checks, and then the factors stored.
-- Assumes nothing.
use mathlib.Core.Path.{◌≡◌, refl}
use Rattle.numbers.specs.Refusals.{Pass}
use Rattle.numbers.proofs.RefusalsLaws.{leave-refused, leave-done, told-pass, told-refuse, handed-up}
use Rattle.extend.specs.Extend.{extend_verdict}
use Rattle.extend.proofs.ExtendTotalLaws.{extend-able}
use Rattle.extend.proofs.ExtendingLaws.{stored-done}
use Rattle.extend.proofs.extend_with.Goals as goal
use Rattle.extend.proofs.extend_with.Lts as step
use Rattle.extend.proofs.extend_with.Reads as reads
use Rattle.extend.proofs.extend_with.Tie as tie

pub returns-in_err-check_extend : goal.returns-in_err-check_extend
returns-in_err-check_extend c =
    rw (handed-up c.from_residual.ensures.1) (let r = leave-refused _ _ _ _ (told-refuse c.check_extend.ensures.verdict c.in_err-check_extend.was) in record { answers = r.0; leaves = r.1 })

passed : (b : step.Past-After-known_told tie.the-claims reads.Pre reads.Post tie.handed_clauses) → extend_verdict b.args.sheet.now b.args.w ≡ Pass
passed b = told-pass b.check_extend.ensures.verdict b.in_ok-check_extend.was

pub returns : goal.returns
returns c =
    let a = c.args in
    let s = a.sheet.now in
    let m = passed c.before.before.before.before.before in
    let h = extend-able s a.w m in
    let done = stored-done s h.sound a.w h.low h.high _ c.in_ok-check_extend.ensures.rows _ c.store_rows.ensures in
    let r = leave-done _ _ _ s _ m refl done in
    record { answers = r.0; leaves = r.1 }
