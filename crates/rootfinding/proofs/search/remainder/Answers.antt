-- `rootfinding::search::remainder` meets its contract.
-- Assumes nothing.
use native.Mathlib.Omega.{arith}
use lib.ListN.{length-take}
use Rattle.rootfinding.proofs.SearchLaws.{fewer}
use Rattle.rootfinding.proofs.search.remainder.Goals as goal

pub slice_bounds-make_monic-end-2 : goal.slice_bounds-make_monic-end-2
slice_bounds-make_monic-end-2 c = simp length-take (omega arith)

pub make_monic-requires : goal.make_monic-requires
make_monic-requires c = (c.requires.0, c.requires.1, simp length-take (omega arith))

pub slice_bounds-divide-length : goal.slice_bounds-divide-length
slice_bounds-divide-length c = simp length-take (omega arith)

pub slice_bounds-divide-end-3 : goal.slice_bounds-divide-end-3
slice_bounds-divide-end-3 c = simp length-take (omega arith)

pub slice_bounds-size-length : goal.slice_bounds-size-length
slice_bounds-size-length c = simp length-take (omega arith)

pub returns : goal.returns
returns c = fewer _ _ _ c.requires.4 c.size.ensures
