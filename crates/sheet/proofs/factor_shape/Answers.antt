-- `sheet::factor_shape` meets its contract.
-- Assumes nothing.
use mathlib.Core.Path.{refl}
use Prim.Native.Nat.{◌+◌, ◌≤◌}
use native.Mathlib.Omega.{arith}
use lib.ListN.{length}
use Rattle.numbers.specs.Limits.{largest_degree}
use Rattle.layout.specs.Layout.{degree, polynomial_from}
use Rattle.layout.proofs.PlacesLaws.{placed-entries}
use Rattle.sheet.proofs.ReadingLaws.{sound-placed}
use Rattle.sheet.proofs.factor_shape.Goals as goal
use Rattle.sheet.proofs.factor_shape.Lts as step
use Rattle.sheet.proofs.factor_shape.Reads as reads
use Rattle.sheet.proofs.factor_shape.Tie as tie

-- the power of root i is there
entry : (s : step.Start tie.the-claims reads.Pre reads.Post) → (s.args.i ≤ largest_degree) × (degree s.args.sheet.now ≤ largest_degree) × (polynomial_from (degree s.args.sheet.now) (s.args.i + 1) ≤ length s.args.sheet.now)
entry s = let h = sound-placed s.args.sheet.now s.requires.0 in let l = placed-entries s.args.sheet.now h in let r = h.count-high in let i = s.requires.1 in (omega arith, h.degree-high, omega arith)

pub power_at-power-requires : goal.power_at-power-requires
power_at-power-requires c = entry c.before.before.before

pub overflow_sub-result : goal.overflow_sub-result
overflow_sub-result c = let e = c.power_at-power.ensures in omega (arith, c.requires.0.factors.powers c.args.i c.requires.1)

pub returns : goal.returns
returns c = let h = c.read_header-h.ensures in rw (h.p-is, h.width_is, c.power_at-power.ensures) refl
