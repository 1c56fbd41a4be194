-- The measure of `split::factors::factor_rows`: the number of groups.
-- Assumes nothing.
use lib.ListN.{length}
use Rattle.split.proofs.factors.+factor_rows.Given as goal

abbrev pub decreases-factor_rows : goal.decreases-factor_rows
decreases-factor_rows l = length l.powers.now
