-- `front::lengths_fit` meets its contract: the rows first, and then the least length.
-- Assumes nothing.
use Rattle.numbers.proofs.TestsLaws.{decides-no}
use Rattle.front.proofs.FrontLaws.{lengths-not, lengths-decide}
use Rattle.front.proofs.lengths_fit.Goals as goal

pub returns-else-rows_known : goal.returns-else-rows_known
returns-else-rows_known c = rw c.if-rows_known.false (decides-no (lengths-not _ _ c.read_header-h.ensures c.requires _ _ c.lengths_part-lengths.ensures c.lower_part.ensures _ c.rows_known.ensures (c.if-rows_known.false)))

pub returns-then-rows_known : goal.returns-then-rows_known
returns-then-rows_known c = lengths-decide _ _ c.read_header-h.ensures c.requires _ _ c.lengths_part-lengths.ensures c.lower_part.ensures _ c.rows_known.ensures (c.if-rows_known.true) _ c.least_length.ensures
