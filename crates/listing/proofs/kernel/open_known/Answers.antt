-- `listing::kernel::open_known` meets its contract: the known lengths are all N.
-- Assumes nothing.
use mathlib.Core.Path.{sym, ap, ◌∙◌}
use Prim.Native.Nat.{◌≤◌}
use native.Mathlib.Omega.{arith}
use lib.ListN.{length}
use lib.Seq.{length-take-le}
use Rattle.numbers.proofs.WordsLaws.{length-tabulate}
use Rattle.job.specs.internal.Form.{roots_room}
use Rattle.listing.proofs.ListingLaws.{made-fits, made-first, rooted_none, rooted-some}
use Rattle.listing.proofs.kernel.open_known.Goals as goal
use Rattle.listing.proofs.kernel.open_known.Lts as step
use Rattle.listing.proofs.kernel.open_known.Reads as reads
use Rattle.listing.proofs.kernel.open_known.Tie as tie

few : (s : step.Start tie.the-claims reads.Pre reads.Post) → s.args.d ≤ roots_room
few s = let d = s.requires in omega arith

pub slice_bounds-repeat-end : goal.slice_bounds-repeat-end
slice_bounds-repeat-end c = sym (length-take-le c.args.d _ (few c.before.before.before.before.before))

pub slice_bounds-lengths-end-then-roots-lt1 : goal.slice_bounds-lengths-end-then-roots-lt1
slice_bounds-lengths-end-then-roots-lt1 c = made-fits c.args.d (λ _. c.args.n) _ _ (few c.before.before.before.before.before.before.before.before) c.repeat.ensures

pub slice_bounds-find-end : goal.slice_bounds-find-end
slice_bounds-find-end c = sym (ap length (made-first c.args.d (λ _. c.args.n) _ _ (few c.before.before.before.before.before.before.before.before.before) c.repeat.ensures) ∙ length-tabulate c.args.d _)

pub returns-then-roots-lt1 : goal.returns-then-roots-lt1
returns-then-roots-lt1 c = rooted_none _ _ _ _ _ _ _ _ _ (made-first c.args.d (λ _. c.args.n) _ _ (few c.before.before.before.before.before.before.before.before.before.before.before.before.before) c.repeat.ensures) c.if-roots-lt1.true c.find.ensures

pub slice_bounds-lengths-end-2 : goal.slice_bounds-lengths-end-2
slice_bounds-lengths-end-2 c = made-fits c.args.d (λ _. c.args.n) _ _ (few c.before.before.before.before.before.before.before.before) c.repeat.ensures

pub slice_bounds-open-end : goal.slice_bounds-open-end
slice_bounds-open-end c = sym (ap length (made-first c.args.d (λ _. c.args.n) _ _ (few c.before.before.before.before.before.before.before.before.before) c.repeat.ensures) ∙ length-tabulate c.args.d _)

pub returns : goal.returns
returns c = rooted-some _ _ _ _ _ _ _ _ _ (made-first c.args.d (λ _. c.args.n) _ _ (few c.before.before.before.before.before.before.before.before.before.before.before.before.before) c.repeat.ensures) c.if-roots-lt1.false c.«open».ensures
