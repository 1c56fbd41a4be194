-- `typed::line::figures_at` meets its contract. The loop's invariant: digits stand from the place up to `at`, for `value`.
-- Assumes nothing.
use Prim.Native.Nat.{◌-◌, ◌^◌, ◌≤◌, ◌<◌}
use mathlib.Core.Path.{◌≡◌}
use lib.ListN.{drop}
use Rattle.typed.specs.internal.Line.{figures}
use Rattle.typed.proofs.line.figures_at.Given as goal

abbrev pub invariant-loop-at : goal.invariant-loop-at
invariant-loop-at l =
    (l.at - l.from ≤ 9) × (l.value < 10 ^ (l.at - l.from)) × (figures 0 0 (drop l.from l.input) ≡ figures l.value (l.at - l.from) (drop l.at l.input))
