-- `sheet::kernel::work_with` meets its contract: what is loaded is what finding the factors wants.
-- Assumes nothing.
use mathlib.Core.Path.{sym, ap, ◌∙◌}
use Prim.Native.Nat.{◌+◌}
use native.Mathlib.Omega.{arith}
use Rattle.layout.specs.internal.Places.{Placed}
use Rattle.front.proofs.FrontLaws.{shape-placed}
use Rattle.layout.proofs.PlacesLaws.{lower_long}
use Rattle.sheet.proofs.WorkLaws.{LowerRows, lower-rows, loaded-sum, work-listed, worked-out}
use Rattle.sheet.proofs.kernel.work_with.Goals as goal
use Rattle.sheet.proofs.kernel.work_with.Lts as step
use Rattle.sheet.proofs.kernel.work_with.Reads as reads
use Rattle.sheet.proofs.kernel.work_with.Tie as tie

placed : (b : step.After-load_roots tie.the-claims reads.Pre reads.Post) → Placed b.args.s.now
placed b = shape-placed _ b.requires.0.shape

pub lower_part-requires : goal.lower_part-requires
lower_part-requires c = placed c.before.before.before.before.before

pub copy-requires : goal.copy-requires
copy-requires c = let r = c.requires.7 in let l = lower_long _ (placed c.before.before.before.before.before.before.before) _ c.lower_part.ensures in omega arith

-- the rows are the polynomial's then
lower : (b : step.After-copy tie.the-claims reads.Pre reads.Post) → LowerRows b.args.s.now b.copy.new.out
lower b = lower-rows _ (placed b.before.before.before.before.before.before.before) _ _ _ b.requires.7 b.lower_part.ensures b.copy.ensures

pub find_factors-requires : goal.find_factors-requires
find_factors-requires c =
    let a = c.args in
    let r = c.requires in
    let s = a.s.now in
    let given = c.load_roots.ensures in
    let sum = sym (loaded-sum s r.0 _ _ given) in
    (work-listed s r.0 a.w r.1 r.2 _ _ _ given (lower c.before.before.before.before.before.before.before) _ c.read_header-h.ensures, r.5 ∙ sum, r.6 ∙ ap (λ d. d + 1) sum)

pub returns : goal.returns
returns c =
    let a = c.args in
    let r = c.requires in
    let s = a.s.now in
    let given = c.load_roots.ensures in
    worked-out s r.0 a.w r.1 r.2 _ _ _ given (lower c.before.before.before.before.before.before.before.before.before.before.before.before.before.before) _ c.read_header-h.ensures _ _ c.find_factors.ensures
