-- `layout::factor_part` meets its contract: the part ends within the sheet.
-- Assumes nothing.
use mathlib.Core.Path.{◌≡◌, ap₂}
use Prim.Native.Nat.{ℕ, ◌*◌}
use native.Mathlib.Omega.{arith}
use Rattle.layout.specs.Layout.{factor_size}
use Rattle.layout.proofs.PlacesLaws.{part-is, Small, factor-small, factor-within}
use Rattle.layout.proofs.factor_part.Goals as goal
use Rattle.layout.proofs.factor_part.Lts as step
use Rattle.layout.proofs.factor_part.Reads as reads
use Rattle.layout.proofs.factor_part.Tie as tie

-- the words of the part
size : (b : step.After-struct_known tie.the-claims reads.Pre reads.Post) → let a = b.args in b.power_at.result * b.read_header-h.result.width ≡ factor_size a.s.now a.i
size b = ap₂ (λ (x y : ℕ). x * y) b.power_at.ensures b.read_header-h.ensures.width_is

small : (b : step.After-struct_known tie.the-claims reads.Pre reads.Post) → let a = b.args in Small a.s.now a.i
small b = factor-small b.args.s.now b.requires.0 b.args.i b.requires.1

pub overflow_mul-e : goal.overflow_mul-e
overflow_mul-e c = let z = small c.before in let e = size c.before in record { fits = omega arith }

pub overflow_add-e : goal.overflow_add-e
overflow_add-e c =
    let z = small c.before in
    let e = size c.before in
    let f = c.factor_from-a.ensures in
    let r = c.requires.0.count-high in
    let d = c.requires.0.degree-high in
    omega arith

pub offset_bounds-s-a : goal.offset_bounds-s-a
offset_bounds-s-a c =
    let z = small c.before in
    let f = c.factor_from-a.ensures in
    let r = c.requires.0.count-high in
    let d = c.requires.0.degree-high in
    omega arith

pub slice_bounds-result-end : goal.slice_bounds-result-end
slice_bounds-result-end c =
    let w = factor-within c.args.s.now c.requires.0 c.args.i c.requires.1 in
    let e = size c.before in
    let f = c.factor_from-a.ensures in
    omega arith

pub returns : goal.returns
returns c = part-is _ _ _ _ c.factor_from-a.ensures (size c.before.before)
