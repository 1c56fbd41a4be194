-- `tiles::tile::copy_lanes` meets its contract. The invariant: the first l words are copied.
-- Assumes nothing.
use mathlib.Core.Path.{refl}
use native.Mathlib.Omega.{arith}
use Rattle.numbers.proofs.WordsLaws.{writing-next}
use Rattle.tiles.proofs.TileLaws.{step_start, copy-all}
use Rattle.tiles.proofs.tile.copy_lanes.Goals as goal

pub loop-l-init : goal.loop-l-init
loop-l-init c = step_start _ _

pub loop-l-preserved : goal.loop-l-preserved
loop-l-preserved c = let l = c.loop-l in writing-next l.l _ _ _ _ l.invariant refl (omega arith)

pub returns : goal.returns
returns c = copy-all c.loop-l.l _ _ _ c.loop-l.invariant (omega arith) (omega arith)
