-- `text::put_factor` meets its contract: its first line, and its rows.
-- Assumes nothing.
use mathlib.Core.Path.{◌≡◌, ap₂}
use Prim.Native.Nat.{ℕ, ◌*◌}
use native.Mathlib.Omega.{arith}
use Rattle.layout.specs.Layout.{factor_size}
use Rattle.layout.proofs.PlacesLaws.{factor-within}
use Rattle.text.proofs.SheetTextLaws.{entries-as, power-few, factor-entries, factor-put}
use Rattle.text.proofs.put_factor.Goals as goal
use Rattle.text.proofs.put_factor.Lts as step
use Rattle.text.proofs.put_factor.Reads as reads
use Rattle.text.proofs.put_factor.Tie as tie

-- the words of its rows
size : (b : step.After-power_at tie.the-claims reads.Pre reads.Post) → let a = b.args in b.power_at-power.result * b.read_header-h.result.width ≡ factor_size a.sheet.now a.i
size b = ap₂ (λ (x y : ℕ). x * y) b.power_at-power.ensures b.read_header-h.ensures.width_is

pub put_rows-requires : goal.put_rows-requires
put_rows-requires c =
    let sheet = c.args.sheet.now in
    let i = c.args.i in
    let h = c.requires.0 in
    let head = c.read_header-h.ensures in
    let n = head.width_is in
    let m = c.power_at-power.ensures in
    let e = c.factor_from-from.ensures in
    let z = size c.before.before.before.before.before.before.before.before in
    let q = factor-within sheet h.placed i c.requires.1 in
    let f = power-few sheet h i c.requires.1 in
    let g = c.put_root-after_root.ensures in
    (entries-as head.p-is e n m (factor-entries sheet h i c.requires.1), omega (arith, h.width-high), omega arith, omega arith, omega (arith, c.requires.2))

pub returns : goal.returns
returns c =
    let head = c.read_header-h.ensures in
    factor-put c.args.sheet.now c.requires.0 c.args.i _ _ _ _ _ _ head.p-is c.factor_from-from.ensures head.width_is c.root_at.ensures c.power_at-power.ensures
    c.put_root-after_root.ensures c.put_rows.ensures
