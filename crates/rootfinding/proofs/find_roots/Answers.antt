-- `rootfinding::find_roots` meets its contract.
-- Assumes nothing.
use native.Mathlib.Omega.{arith}
use lib.ListN.{length-take}
use Rattle.rootfinding.proofs.find_roots.Goals as goal

pub slice_bounds-find_with-end : goal.slice_bounds-find_with-end
slice_bounds-find_with-end c = let few = c.requires.0.few in simp length-take (omega arith)

pub find_with-requires : goal.find_with-requires
find_with-requires c =
    let pre = c.requires in
    let some = pre.0.some in
    let few = pre.0.few in
    (pre.0, simp length-take (omega arith), pre.1, pre.2)
