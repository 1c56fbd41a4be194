-- `sheet::kernel::load_roots` meets its contract.
-- Assumes nothing.
use mathlib.Core.Path.{◌≡◌}
use Prim.Native.Nat.{◌*◌}
use native.Mathlib.Omega.{arith}
use lib.ListN.{length}
use Rattle.sheet.proofs.WorkLaws.{pairs-long, loaded}
use Rattle.sheet.proofs.kernel.load_roots.Goals as goal
use Rattle.sheet.proofs.kernel.load_roots.Lts as step
use Rattle.sheet.proofs.kernel.load_roots.Reads as reads
use Rattle.sheet.proofs.kernel.load_roots.Tie as tie

-- a root and a power for each
pairs : (b : step.After-roots_part tie.the-claims reads.Pre reads.Post) → length b.roots_part-pairs.result.now ≡ 2 * length b.args.roots.now
pairs b = pairs-long b.args.s.now b.roots_part-pairs.result.now (length b.args.roots.now) b.roots_part-pairs.ensures (omega arith)

pub load_column-requires : goal.load_column-requires
load_column-requires c = let l = pairs c.before.before in (omega arith, omega arith, omega arith, omega arith)

pub load_column-requires-2 : goal.load_column-requires-2
load_column-requires-2 c = let l = pairs c.before.before.before.before.before.before in (omega arith, omega arith, omega arith, omega arith)

pub returns : goal.returns
returns c =
    let r = c.requires in
    loaded _ _ _ _ _ _ _ r.1 r.1 r.2 c.roots_part-pairs.ensures c.load_column.ensures c.load_column-2.ensures
