-- `read::places::digits_at` meets its contract: the digits from the place up to q stand for `value`.
-- Assumes nothing.
use mathlib.Core.Path.{◌≡◌}
use Prim.Native.Nat.{ℕ, ◌+◌, ◌-◌, ◌^◌, ◌≤◌, ◌<◌}
use lib.ListN.{drop}
use Rattle.formula.specs.internal.Scan.{State, scan}
use Rattle.read.specs.internal.Places.{Counts}
use Rattle.read.proofs.places.digits_at.Given as goal

abbrev pub invariant-loop-q : goal.invariant-loop-q
invariant-loop-q l =
    (l.q - l.at + 1 ≤ 9) × (l.value < 10 ^ (l.q - l.at + 1))
    × ((m : ℕ → ℕ → State) → Counts m → scan (m 1 l.d) (drop l.at l.text) ≡ scan (m (l.q - l.at + 1) l.value) (drop l.q l.text))
