-- `counts::write_counts` meets its contract. The loop's invariant: words 1 to r are written, and what is unsplit and they make p^d.
-- Assumes nothing.
use Prim.Native.Nat.{◌+◌, ◌-◌, ◌^◌}
use mathlib.Core.Path.{◌≡◌}
use Rattle.counts.specs.Counts.{subsets}
use Rattle.counts.proofs.CountingLaws.{taken, Writes}
use Rattle.counts.proofs.write_counts.Given as goal

abbrev pub invariant-loop-r : goal.invariant-loop-r
invariant-loop-r l =
    (l.unsplit + taken l.p l.d l.r ≡ l.p ^ l.d) × (l.sets ≡ subsets l.p l.r) × (l.powers ≡ subsets (l.d - 1) l.r) × Writes l.p l.d l.r l.initial.out l.out
