-- `correct::correct_with` meets its contract: the checks, and then the entry, the factors that belong to it, and both stored.
-- Assumes nothing.
use Rattle.numbers.proofs.RefusalsLaws.{leave-refused, leave-done, told-pass, told-refuse, handed-up}
use Rattle.correct.proofs.CorrectTotalLaws.{Able, correct-able, enter-ready, again-ready, entered-done}
use Rattle.correct.proofs.correct_with.Goals as goal
use Rattle.correct.proofs.correct_with.Lts as step
use Rattle.correct.proofs.correct_with.Reads as reads
use Rattle.correct.proofs.correct_with.Tie as tie

pub returns-in_err-check_correct : goal.returns-in_err-check_correct
returns-in_err-check_correct c =
    rw (handed-up c.from_residual.ensures.1) (let r = leave-refused _ _ _ _ (told-refuse c.check_correct.ensures.verdict c.in_err-check_correct.was) in record { answers = r.0; leaves = r.1 })

able : (b : step.Past-After-known_told tie.the-claims reads.Pre reads.Post tie.handed_clauses) → let a = b.args in Able a.sheet.now a.j a.t a.entry
able b = let a = b.args in correct-able a.sheet.now a.j a.t a.entry (told-pass b.check_correct.ensures.verdict b.in_ok-check_correct.was)

pub set_entry-requires : goal.set_entry-requires
set_entry-requires c = enter-ready _ _ _ _ (able c.before.before.before.before)

pub work_again-requires : goal.work_again-requires
work_again-requires c =
    again-ready _ _ _ _ (able c.before.before.before.before.before.before.before) _ c.set_entry.ensures _ c.in_ok-check_correct.ensures.rows

pub store_rows-requires : goal.store_rows-requires
store_rows-requires c =
    let r = again-ready _ _ _ _ (able c.before.before.before.before.before.before.before.before.before.before.before) _ c.set_entry.ensures _ c.in_ok-check_correct.ensures.rows in
    (r.0, c.work_again.ensures.long)

pub returns : goal.returns
returns c =
    let k = c.read_header-k.ensures.terms-is in
    let done = entered-done _ _ _ _ (able c.before.before.before.before.before.before.before.before.before.before.before.before.before.before.before) _ c.set_entry.ensures _ k _ c.work_again.ensures _ c.store_rows.ensures in
    let r = leave-done _ _ _ _ _ (told-pass c.check_correct.ensures.verdict c.in_ok-check_correct.was) k done in
    record { answers = r.0; leaves = r.1 }
