-- `listing::kernel::reply` meets its contract: what `list_as` answers; it has room.
-- Assumes nothing.
use mathlib.Core.Path.{ap}
use Rattle.numbers.specs.Refusals.{outcome}
use Rattle.listing.proofs.ListingLaws.{listed-never, listed-as}
use Rattle.listing.proofs.kernel.reply.Goals as goal

pub returns-in-Ok : goal.returns-in-Ok
returns-in-Ok c =
    let a = c.args in
    listed-as a.profile a.job.now a.text.now _ _ c.list_as.ensures _ (ap outcome c.in-Ok.is)

pub returns-in-Err : goal.returns-in-Err
returns-in-Err c =
    let a = c.args in
    listed-never a.profile a.job.now a.text.now _ _ c.list_as.ensures _ _ (ap outcome c.in-Err.is) c.requires
