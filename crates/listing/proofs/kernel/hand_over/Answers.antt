-- `listing::kernel::hand_over` meets its contract: 10, or the text.
-- Assumes nothing.
use native.Mathlib.Omega.{arith}
use Rattle.listing.proofs.ListingLaws.{handed-none, handed-all}
use Rattle.listing.proofs.kernel.hand_over.Goals as goal

pub returns-then-out-text : goal.returns-then-out-text
returns-then-out-text c =
    let a = c.args in
    handed-none a.text.now a.out.now (omega arith)

pub returns : goal.returns
returns c = let a = c.args in handed-all a.text.now a.out.now (omega arith) c.put.ensures
