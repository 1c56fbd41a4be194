-- `rootfinding::search::gcd` meets its contract. The loop's invariant: counts and places stay within the words.
-- Assumes nothing.
use native.Mathlib.Omega.{arith}
use lib.ListN.{length-take}
use Rattle.rootfinding.proofs.search.gcd.Goals as goal

pub slice_bounds-copy-end-then-n-lt1 : goal.slice_bounds-copy-end-then-n-lt1
slice_bounds-copy-end-then-n-lt1 c = simp length-take (omega arith)

pub copy-requires : goal.copy-requires
copy-requires c = simp length-take (omega arith)
