-- `listing::list_as` meets its contract: the text of the job, handed over.
-- Assumes nothing.
use mathlib.Core.Path.{refl, sym}
use lib.Seq.{length-take-le}
use Rattle.listing.proofs.ListingLaws.{put-fits, listed-all}
use Rattle.listing.proofs.list_as.Goals as goal

pub slice_bounds-bytes-end : goal.slice_bounds-bytes-end
slice_bounds-bytes-end c = (put-fits c.write_text-long.ensures.puts).0

pub slice_bounds-hand_over-end : goal.slice_bounds-hand_over-end
slice_bounds-hand_over-end c = sym (length-take-le c.write_text-long.result _ (put-fits c.write_text-long.ensures.puts).0)

pub hand_over-requires : goal.hand_over-requires
hand_over-requires c = (put-fits c.write_text-long.ensures.puts).1

pub returns : goal.returns
returns c =
    let a = c.args in
    listed-all a.profile a.job.now _ _ _ c.write_text-long.ensures _ _ _ _ refl c.hand_over.ensures.answer c.hand_over.ensures.bytes
