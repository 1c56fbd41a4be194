-- `text::put_listing` meets its contract: line 1, and the factors.
-- Assumes nothing.
use Rattle.text.proofs.SheetTextLaws.{listing-put}
use Rattle.text.proofs.put_listing.Goals as goal

pub returns : goal.returns
returns c =
    listing-put c.args.sheet.now c.put_head-after_head.ensures c.put_factors.ensures
