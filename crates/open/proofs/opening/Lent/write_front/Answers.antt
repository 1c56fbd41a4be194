-- `open::opening::Lent::write_front` meets its contract.
-- Assumes nothing.
use Rattle.open.proofs.SheetWritingLaws.{front-written}
use Rattle.open.proofs.opening.Lent.write_front.Goals as goal

pub returns : goal.returns
returns c =
    let a = c.args in
    front-written a.self.p a.self.d a.self.n a.r a.self.lengths.now a.out.now _ _ _ _ c.requires.3 c.requires.4 c.roots_from-first.ensures c.least_length.ensures c.write_header.ensures c.copy.ensures
