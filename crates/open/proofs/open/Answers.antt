-- `open::open` meets its contract: refusals 1 to 8, and 21, then the powers, then the room.
-- Assumes nothing.
use mathlib.Core.Path.{◌≡◌, refl, sym, ◌∙◌}
use mathlib.Core.List.{◌++◌}
use Prim.Native.Nat.{◌≤◌}
use lib.ListN.{length}
use lib.Seq.{length-take-le}
use Rattle.numbers.specs.Limits.{largest_degree}
use Rattle.numbers.specs.Refusals.{judge, refusal, Pass}
use Rattle.numbers.proofs.RefusalsLaws.{after-refuse, told-pass, told-refuse, handed-up}
use Rattle.sheet.specs.Sheet.{Given, given_of, whole_of}
use Rattle.open.specs.Open.{polynomial_checks, list_checks, split_checks}
use Rattle.open.proofs.OpenChecksLaws.{ListPass, open-rows-split, list-pass, list-passes, whole-list, list-small}
use Rattle.open.proofs.OpenLaws.{powers-whole}
use Rattle.open.proofs.OpenSplitLaws.{split-none, split-some}
use Rattle.open.proofs.OpenDoneLaws.{powers-first, powers-fit, finish-ready, opened-refused, opened-finished}
use Rattle.open.proofs.open.Goals as goal
use Rattle.open.proofs.open.Lts as step
use Rattle.open.proofs.open.Reads as reads
use Rattle.open.proofs.open.Tie as tie

-- what is given
abbrev given : {κs : _} → step.Args tie.the-claims reads.Pre reads.Post tie.handed_clauses κs → Given
given a = given_of a.p a.d a.n a.rows.now a.lengths.now a.roots.now

-- checks 1 to 8, and 21, have passed
before : (b : step.Past-After-known_told tie.the-claims reads.Pre reads.Post tie.handed_clauses) → let g = given b.args in judge (polynomial_checks g ++ list_checks g) ≡ Pass
before b = told-pass b.check_list.ensures b.in_ok-check_list.was

passed : (b : step.Past-After-known_told tie.the-claims reads.Pre reads.Post tie.handed_clauses) → ListPass (given b.args)
passed b = list-pass (given b.args) (before b)

few : (b : step.Past-After-known_told tie.the-claims reads.Pre reads.Post tie.handed_clauses) → length (given b.args).roots ≤ largest_degree
few b = (list-small (given b.args) (passed b)).2

-- and so they would if all were known
whole : (b : step.Past-After-known_told tie.the-claims reads.Pre reads.Post tie.handed_clauses) → let g = given b.args in let f = whole_of g.p g.D g.N g.rows g.roots in judge (polynomial_checks f ++ list_checks f) ≡ Pass
whole b =
    let g = given b.args in
    let h = passed b in
    list-passes (whole_of g.p g.D g.N g.rows g.roots) (whole-list g g.rows h.rows.polynomial.long h.rows.polynomial.rows-below h.rows.top h)

pub returns-in_err-check_list : goal.returns-in_err-check_list
returns-in_err-check_list c =
    rw (handed-up c.from_residual.ensures.1) (let g = given c.args in opened-refused _ g _ _ _ refl (open-rows-split g _ ∙ after-refuse (polynomial_checks g ++ list_checks g) (split_checks g _) _ (told-refuse c.check_list.ensures c.in_err-check_list.was)))

pub slice_bounds-powers-end : goal.slice_bounds-powers-end
slice_bounds-powers-end c = few c.before

pub slice_bounds-powers_of-end : goal.slice_bounds-powers_of-end
slice_bounds-powers_of-end c = sym (length-take-le (length c.args.roots.now) _ (few c.before.before))

pub powers_of-requires : goal.powers_of-requires
powers_of-requires c = (whole c.before.before, length-take-le (length c.args.roots.now) _ (few c.before.before))

pub slice_bounds-powers-end-then-powers_of : goal.slice_bounds-powers-end-then-powers_of
slice_bounds-powers-end-then-powers_of c = powers-fit (given c.args) _ _ _ c.powers_of.ensures c.if-powers_of.true

pub slice_bounds-finish-end : goal.slice_bounds-finish-end
slice_bounds-finish-end c = sym (length-take-le (length c.args.roots.now) _ (powers-fit (given c.args) _ _ _ c.powers_of.ensures c.if-powers_of.true))

pub finish-requires : goal.finish-requires
finish-requires c = let g = given c.args in finish-ready g (passed c.before.before.before.before.before.before.before) _ (powers-first g _ _ _ c.powers_of.ensures c.if-powers_of.true)

pub returns-then-powers_of : goal.returns-then-powers_of
returns-then-powers_of c =
    let g = given c.args in
    let e = powers-first g _ _ _ c.powers_of.ensures c.if-powers_of.true in
    opened-finished _ g (passed c.before.before.before.before.before.before.before.before.before.before) _ e _ (open-rows-split g _ ∙ split-some (polynomial_checks g ++ list_checks g) (before c.before.before.before.before.before.before.before.before.before.before) g _ _ e) _ _ c.finish.ensures

pub returns : goal.returns
returns c =
    let g = given c.args in
    opened-refused _ g _ (refusal 9 0) _ refl
    (open-rows-split g _ ∙ split-none (polynomial_checks g ++ list_checks g) (before c.before.before.before.before.before) g _ (sym (powers-whole g) ∙ c.powers_of.ensures.no c.if-powers_of.false))
