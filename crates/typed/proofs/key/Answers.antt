-- `typed::key` meets its contract: the text of the input, handed over.
-- Assumes nothing.
use mathlib.Core.Path.{refl, sym}
use lib.Seq.{length-take-le}
use Rattle.listing.proofs.ListingLaws.{put-fits}
use Rattle.typed.proofs.KeyLaws.{keyed-all}
use Rattle.typed.proofs.key.Goals as goal

pub slice_bounds-bytes-end : goal.slice_bounds-bytes-end
slice_bounds-bytes-end c = (put-fits c.write_key-long.ensures.puts).0

pub slice_bounds-hand_over-end : goal.slice_bounds-hand_over-end
slice_bounds-hand_over-end c = sym (length-take-le c.write_key-long.result _ (put-fits c.write_key-long.ensures.puts).0)

pub hand_over-requires : goal.hand_over-requires
hand_over-requires c = (put-fits c.write_key-long.ensures.puts).1

pub returns : goal.returns
returns c = keyed-all c.args.input.now _ _ _ c.write_key-long.ensures _ _ _ _ refl c.hand_over.ensures.answer c.hand_over.ensures.bytes
