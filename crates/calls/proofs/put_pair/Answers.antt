-- `calls::put_pair` meets its contract.
-- Assumes nothing.
use Prim.Native.Nat.{◌*◌}
use native.Mathlib.Omega.{arith}
use lib.ListN.{length-set}
use Rattle.calls.proofs.put_pair.Goals as goal

pub bounds-answers-i-2 : goal.bounds-answers-i-2
bounds-answers-i-2 c = let pre = c.requires in omega (arith, length-set c.args.answers.now (2 * c.args.i) c.args.first)
