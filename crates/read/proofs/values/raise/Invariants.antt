-- `read::values::raise` meets its contract.
-- Assumes nothing.
use mathlib.Core.Path.{◌≡◌}
use Prim.Native.Nat.{◌≤◌}
use lib.ListN.{length}
use Rattle.read.specs.Value.{Poly}
use Rattle.read.specs.internal.Values.{Stored}
use Rattle.read.proofs.ValueLaws.{PowerRun}
use Rattle.read.proofs.values.raise.Given as goal

abbrev pub invariant-loop : goal.invariant-loop
invariant-loop l = (1 ≤ l.count) × (l.count ≤ 33) × (length l.out ≡ length l.initial.out) × (length l.base ≡ 8448) × ((f : Poly) → Stored l.ring.p l.ring.n f l.base l.rows → PowerRun l.ring.p l.ring.n f l.counter l.out l.count)
