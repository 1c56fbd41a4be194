-- `listing::kernel::write_sheet` meets its contract: the listing that the profile names.
-- Assumes nothing.
use Rattle.listing.proofs.ListingLaws.{listable, wrote_as, wrote-factors}
use Rattle.listing.proofs.kernel.write_sheet.Goals as goal

pub put_listing-requires : goal.put_listing-requires
put_listing-requires c = let h = c.requires in (listable _ h.0 h.1 h.2, h.3)

pub returns-in-Factors : goal.returns-in-Factors
returns-in-Factors c = wrote_as c.in-Factors.is (wrote-factors c.put_listing.ensures)

pub returns-in-Roots : goal.returns-in-Roots
returns-in-Roots c = wrote_as c.in-Roots.is c.write_series.ensures
