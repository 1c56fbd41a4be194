-- `listing::kernel::write_given` meets its contract: opening, and its refusal, or extend to N and the listing.
-- Assumes nothing.
use mathlib.Core.Path.{◌≡◌, sym, ap, ◌∙◌}
use native.Mathlib.Omega.{arith}
use Rattle.numbers.specs.Refusals.{outcome, Pass}
use Rattle.sheet.specs.Sheet.{Given, whole_of, given-reach}
use Rattle.sheet.proofs.HoldsLaws.{whole-reach}
use Rattle.open.proofs.OpeningLaws.{GivenReady}
use Rattle.text.specs.internal.Rooms.{sheet_room}
use Rattle.listing.specs.Listing.{rooted}
use Rattle.listing.specs.internal.Writing.{rooted_verdict}
use Rattle.listing.proofs.ListingLaws.{rooted-ready, rooted-sizes, wrote-refused, given-shows, wrote-listed}
use Rattle.listing.proofs.kernel.write_given.Goals as goal
use Rattle.listing.proofs.kernel.write_given.Lts as step
use Rattle.listing.proofs.kernel.write_given.Reads as reads
use Rattle.listing.proofs.kernel.write_given.Tie as tie

-- what is given, with the roots found where none are listed
abbrev given : {κs : _} → step.Args tie.the-claims reads.Pre reads.Post κs → Given
given a = whole_of a.p a.d a.n a.rows.now a.roots.now

whole : {κs : _} (a : step.Args tie.the-claims reads.Pre reads.Post κs) → given-reach (rooted (given a)) ≡ (rooted (given a)).N
whole a = let z = rooted-sizes (given a) in z.2 ∙ whole-reach a.p a.d a.n a.rows.now a.roots.now ∙ sym z.1

ready : {κs : _} (a : step.Args tie.the-claims reads.Pre reads.Post κs) → rooted_verdict (given a) sheet_room ≡ Pass → GivenReady (rooted (given a))
ready a e = (rooted-ready (given a) sheet_room e).0

pub returns-in-Err : goal.returns-in-Err
returns-in-Err c =
    wrote-refused c.args.profile _ (rooted (given c.args)) (whole c.args) (ready c.args) _ _ _ c.open_known.ensures _ _ (ap outcome c.in-Err.is) c.put_refused.ensures

pub write_sheet-requires : goal.write_sheet-requires
write_sheet-requires c =
    let h = c.requires in
    let (d, n, _) = rooted-sizes (given c.args) in
    let z = given-shows c.args.profile _ (rooted (given c.args)) (whole c.args) (ready c.args) _ _ _ c.open_known.ensures _ _ _ _ (ap outcome c.in_default.is) (sym n) (omega arith) (omega arith) c.extend.ensures in
    (z.0, z.1, z.2, h.2)

pub returns : goal.returns
returns c =
    wrote-listed c.args.profile _ (rooted (given c.args)) (whole c.args) (ready c.args) _ _ _ c.open_known.ensures _ _ _ _ (ap outcome c.in_default.is) (sym (rooted-sizes (given c.args)).1) c.extend.ensures c.write_sheet.ensures
