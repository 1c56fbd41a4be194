-- `rootfinding::search::step` meets its contract.
-- Assumes nothing.
use Prim.Native.Nat.{◌+◌, ◌-◌}
use native.Mathlib.Omega.{arith}
use lib.ListN.{drop, length-set}
use Rattle.numbers.specs.Words.{word}
use Rattle.rootfinding.proofs.SearchLaws.{within}
use Rattle.rootfinding.proofs.search.step.Goals as goal

pub bounds-sizes-o-3 : goal.bounds-sizes-o-3
bounds-sizes-o-3 c =
    let a = c.args in
    let few = within _ (a.o + word a.sizes.now a.o - a.o) (drop a.o a.roots.now) c.in-Some.ensures in
    simp length-set (omega arith)
