-- `tiles::weights::pair_weights` meets its contract. The invariant: the first s weights are there, twice each.
-- Assumes nothing.
use Prim.Native.Nat.{◌+◌, ◌*◌}
use native.Mathlib.Omega.{arith}
use borrow.Author.Rules.{rules}
use Rattle.tiles.proofs.WeightsLaws.{pairs_start, pairs_next, written}
use Rattle.tiles.proofs.weights.pair_weights.Goals as goal

pub loop-s-init : goal.loop-s-init
loop-s-init c = (search rules, pairs_start _ c.args.pairs.now (omega arith))

pub loop-s-preserved : goal.loop-s-preserved
loop-s-preserved c =
    let l = c.loop-s in
    let w = pairs_next c.args.weights.now _ l.pairs l.s (omega arith) l.invariant.1 in
    (search rules, w)

pub returns : goal.returns
returns c = written (2 * c.loop-s.s + 2) _ _ _ _ c.loop-s.invariant.1 (omega arith) (omega arith)
