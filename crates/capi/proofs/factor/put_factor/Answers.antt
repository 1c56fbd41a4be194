-- `capi::factor::put_factor` meets its contract.
-- Assumes nothing.
use mathlib.Core.Path.{◌≡◌, ap₂}
use Prim.Native.Nat.{ℕ, ◌+◌, ◌*◌, ◌≤◌}
use native.Mathlib.Omega.{arith}
use lib.ListN.{length, length-set}
use Rattle.numbers.specs.Limits.{largest_degree}
use Rattle.layout.specs.Layout.{degree, polynomial_from, factor_size}
use Rattle.layout.specs.internal.Places.{Placed}
use Rattle.layout.proofs.PlacesLaws.{placed-entries, Small, factor-small}
use Rattle.sheet.proofs.ReadingLaws.{sound-placed}
use Rattle.capi.proofs.FactorLaws.{factor-put}
use Rattle.capi.proofs.factor.put_factor.Goals as goal
use Rattle.capi.proofs.factor.put_factor.Lts as step
use Rattle.capi.proofs.factor.put_factor.Reads as reads
use Rattle.capi.proofs.factor.put_factor.Tie as tie

-- root i and its power are there, and the products on the way to its rows are small
placed : (s : step.Start tie.the-claims reads.Pre reads.Post) → Placed s.args.sheet.now
placed s = sound-placed s.args.sheet.now s.requires.0

entry : (s : step.Start tie.the-claims reads.Pre reads.Post) → (s.args.i ≤ largest_degree) × (degree s.args.sheet.now ≤ largest_degree) × (polynomial_from (degree s.args.sheet.now) (s.args.i + 1) ≤ length s.args.sheet.now)
entry s = let h = placed s in let l = placed-entries s.args.sheet.now h in let r = h.count-high in let i = s.requires.1 in (omega arith, h.degree-high, omega arith)

small : (s : step.Start tie.the-claims reads.Pre reads.Post) → Small s.args.sheet.now s.args.i
small s = factor-small s.args.sheet.now (placed s) s.args.i s.requires.1

-- the words of its rows
size : (b : step.After-power_at tie.the-claims reads.Pre reads.Post) → let a = b.args in b.power_at-power.result * b.read_header-h.result.width ≡ factor_size a.sheet.now a.i
size b = ap₂ (λ (x y : ℕ). x * y) b.power_at-power.ensures b.read_header-h.ensures.width_is

pub root_at-root-requires : goal.root_at-root-requires
root_at-root-requires c = entry c.before.before.before.before

pub power_at-power-requires : goal.power_at-power-requires
power_at-power-requires c = entry c.before.before.before.before.before

pub factor_from-start-requires : goal.factor_from-start-requires
factor_from-start-requires c = (placed c.before.before.before.before.before.before, c.requires.1)

pub overflow_cast-start : goal.overflow_cast-start
overflow_cast-start c = let e = c.factor_from-start.ensures in let z = small c.before.before.before.before.before.before.before in omega (arith, (placed c.before.before.before.before.before.before.before).count-high)

pub bounds-out-1 : goal.bounds-out-1
bounds-out-1 c = simp length-set (omega arith)

pub bounds-out-2 : goal.bounds-out-2
bounds-out-2 c = simp length-set (omega arith)

pub overflow_mul-out : goal.overflow_mul-out
overflow_mul-out c = let e = size c.before.before.before in omega (arith, (small c.before.before.before.before.before.before.before.before).here)

pub returns : goal.returns
returns c =
    factor-put c.args.sheet.now c.args.i _ _ _ _ c.args.out.now c.requires.2 c.root_at-root.ensures c.power_at-power.ensures c.factor_from-start.ensures (size c.before.before.before)
