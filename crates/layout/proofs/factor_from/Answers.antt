-- `layout::factor_from` meets its contract.
-- Assumes nothing.
use mathlib.Core.Path.{◌≡◌, ap₂, ◌∙◌}
use Prim.Native.Nat.{ℕ, ◌+◌, ◌*◌}
use native.Mathlib.Omega.{arith}
use Rattle.algebra.specs.Sums.{sum_to}
use Rattle.layout.specs.Layout.{width, power}
use Rattle.layout.proofs.PlacesLaws.{placed-entries, each-power, Small, factor-small, header-factors}
use Rattle.layout.proofs.factor_from.Goals as goal
use Rattle.layout.proofs.factor_from.Lts as step
use Rattle.layout.proofs.factor_from.Reads as reads
use Rattle.layout.proofs.factor_from.Tie as tie

pub rows_before-requires : goal.rows_before-requires
rows_before-requires c =
    let h = c.requires.0 in
    let l = placed-entries c.args.s.now h in
    let r = h.count-high in
    let i = c.requires.1 in
    (omega arith, h.degree-high, omega arith, λ l g. each-power c.args.s.now h l (omega arith))

-- the rows before, and what they take
times : (b : step.After-rows_before tie.the-claims reads.Pre reads.Post) → let s = b.args.s.now in
    b.rows_before.result * b.read_header-h.result.width ≡ sum_to b.args.i (power s) * width s
times b = ap₂ (λ (x y : ℕ). x * y) b.rows_before.ensures b.read_header-h.ensures.width_is

small : (b : step.After-rows_before tie.the-claims reads.Pre reads.Post) → let a = b.args in Small a.s.now a.i
small b = factor-small b.args.s.now b.requires.0 b.args.i b.requires.1

pub overflow_mul-result : goal.overflow_mul-result
overflow_mul-result c = let z = small c.before in let e = times c.before in record { fits = omega arith }

pub overflow_add-result : goal.overflow_add-result
overflow_add-result c =
    let z = small c.before in
    let e = times c.before in
    let f = c.factors_from.ensures ∙ header-factors c.args.s.now c.read_header-h.result c.read_header-h.ensures in
    let r = c.requires.0.count-high in
    let d = c.requires.0.degree-high in
    omega arith

pub returns : goal.returns
returns c = ap₂ (λ (x y : ℕ). x + y) (c.factors_from.ensures ∙ header-factors _ _ c.read_header-h.ensures) (times c.before)
