-- `tiles::weights::load_table` meets its contract. The invariant: the first j rows are loaded.
-- Assumes nothing.
use Rattle.tiles.proofs.WeightsLaws.{Loading}
use Rattle.tiles.proofs.weights.load_table.Given as goal

abbrev pub invariant-loop-j : goal.invariant-loop-j
invariant-loop-j l = Loading l.n l.blocks l.table l.tiles l.j
