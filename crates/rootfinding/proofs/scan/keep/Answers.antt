-- `rootfinding::scan::keep` meets its contract.
-- Assumes nothing.
use mathlib.Core.Path.{◌≡◌}
use mathlib.Core.Bool.{true}
use Prim.Native.Nat.{◌<◌}
use native.Mathlib.Omega.{arith}
use lib.ListN.{length}
use Rattle.rootfinding.specs.Roots.{is_root}
use Rattle.rootfinding.proofs.ScanLaws.{root-yes, root-no, keep-yes, keep-no}
use Rattle.rootfinding.proofs.scan.keep.Goals as goal
use Rattle.rootfinding.proofs.scan.keep.Lts as step
use Rattle.rootfinding.proofs.scan.keep.Reads as reads
use Rattle.rootfinding.proofs.scan.keep.Tie as tie

-- the value is 0
root : (b : step.Else1 tie.the-claims reads.Pre reads.Post) → is_root b.args.p b.args.e.now b.args.c ≡ true
root b = let a = b.args in root-yes a.p a.e.now a.c _ b.value.ensures (omega arith)

room : (b : step.Else1 tie.the-claims reads.Pre reads.Post) → b.args.n < length b.args.roots.now
room b = b.requires.3 (root b)

pub returns-then-value-ne0 : goal.returns-then-value-ne0
returns-then-value-ne0 c =
    let a = c.args in
    keep-no _ a.c a.n a.roots.now (root-no a.p a.e.now a.c _ c.value.ensures c.if-value-ne0.true)

pub offset_bounds-roots-n : goal.offset_bounds-roots-n
offset_bounds-roots-n c = omega (arith, room c.before)

pub bounds-roots-n : goal.bounds-roots-n
bounds-roots-n c = room c.before

pub overflow_add-result : goal.overflow_add-result
overflow_add-result c = omega (arith, room c.before)

pub returns : goal.returns
returns c = let a = c.args in keep-yes _ a.c a.n a.roots.now (root c.before)
