-- `rootfinding::search::candidates` meets its contract.
-- Assumes nothing.
use native.Mathlib.Omega.{arith}
use lib.ListN.{length-take}
use Rattle.rootfinding.proofs.SearchLaws.{fewer}
use Rattle.rootfinding.proofs.search.candidates.Goals as goal

pub slice_bounds-copy-length : goal.slice_bounds-copy-length
slice_bounds-copy-length c = simp length-take (omega arith)

pub copy-requires-3 : goal.copy-requires-3
copy-requires-3 c = simp length-take (omega arith)

pub slice_bounds-part_all-length : goal.slice_bounds-part_all-length
slice_bounds-part_all-length c = simp length-take (omega arith)

pub part_all-requires : goal.part_all-requires
part_all-requires c =
    let pre = c.requires in
    (pre.0, pre.1, simp length-take (omega arith))

pub returns : goal.returns
returns c =
    let n = c.gcd-n.result in
    let roots = c.copy-3.new.out in
    let few = fewer c.part_all.result n roots (omega arith) c.part_all.ensures in
    omega arith
