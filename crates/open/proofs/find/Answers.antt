-- `open::find` meets its contract: refusals 1 to 7, and 21, then the roots with their powers, then the room.
-- Assumes nothing.
use mathlib.Core.Path.{refl, ◌∙◌}
use mathlib.Core.List.{[], ◌++◌}
use native.Mathlib.Omega.{arith}
use Rattle.numbers.specs.Refusals.{refusal}
use Rattle.numbers.proofs.RefusalsLaws.{after-refuse, told-pass, told-refuse, handed-up}
use Rattle.sheet.specs.Sheet.{Given, given_of, whole_of}
use Rattle.open.specs.Open.{polynomial_checks, top_checks, split_checks}
use Rattle.open.specs.Find.{with_roots}
use Rattle.open.proofs.OpenChecksLaws.{rows_pass, rows-passes, whole-rows}
use Rattle.open.proofs.OpenSplitLaws.{split-none}
use Rattle.open.proofs.OpenDoneLaws.{opened-refused}
use Rattle.open.proofs.FindLaws.{none_found, find-split, found-ready, found-finished}
use Rattle.open.proofs.find.Goals as goal
use Rattle.open.proofs.find.Lts as step
use Rattle.open.proofs.find.Reads as reads
use Rattle.open.proofs.find.Tie as tie

-- what is given
abbrev given : {κs : _} → step.Args tie.the-claims reads.Pre reads.Post tie.handed_clauses κs → Given
given a = given_of a.p a.d a.n a.rows.now a.lengths.now []

pub returns-in_err-check_rows : goal.returns-in_err-check_rows
returns-in_err-check_rows c =
    rw (handed-up c.from_residual.ensures.1) (let g = given c.args in opened-refused _ (with_roots g) _ _ _ refl (find-split g _ ∙ after-refuse (polynomial_checks g ++ top_checks g) (split_checks (with_roots g) _) _ (told-refuse c.check_rows.ensures c.in_err-check_rows.was)))

pub roots_of-requires : goal.roots_of-requires
roots_of-requires c =
    let g = given c.args in
    let h = rows_pass (given c.args) (told-pass c.check_rows.ensures c.in_ok-check_rows.was) in
    (rows-passes (whole_of g.p g.D g.N g.rows []) (whole-rows g g.rows h.polynomial.long h.polynomial.rows-below h.top h), refl, refl)

pub returns-in_default : goal.returns-in_default
returns-in_default c =
    let g = given c.args in
    opened-refused _ (with_roots g) _ (refusal 9 0) _ refl
    (find-split g _ ∙ split-none (polynomial_checks g ++ top_checks g) (told-pass c.check_rows.ensures c.in_ok-check_rows.was) (with_roots g) _ ((none_found g (rows_pass (given c.args) (told-pass c.check_rows.ensures c.in_ok-check_rows.was))).0 c.in_default.ensures))

pub finish-requires : goal.finish-requires
finish-requires c = found-ready (given c.args) (rows_pass (given c.args) (told-pass c.check_rows.ensures c.in_ok-check_rows.was)) _ _ _ c.in-Some.ensures (let n = c.in-Some.ensures.fits in omega arith)

pub returns : goal.returns
returns c = found-finished (given c.args) (rows_pass (given c.args) (told-pass c.check_rows.ensures c.in_ok-check_rows.was)) _ _ _ c.in-Some.ensures (let n = c.in-Some.ensures.fits in omega arith) (told-pass c.check_rows.ensures c.in_ok-check_rows.was) _ _ _ c.finish.ensures
