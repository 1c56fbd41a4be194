-- `sheet::kernel::store_rows` meets its contract.
-- Assumes nothing.
use mathlib.Core.Path.{◌∙◌}
use Prim.Native.Nat.{◌+◌, ◌≤◌}
use native.Mathlib.Omega.{arith}
use lib.ListN.{length}
use Rattle.layout.proofs.PlacesLaws.{factors-within, header-factors}
use Rattle.front.proofs.FrontLaws.{shape-placed}
use Rattle.sheet.proofs.StoredLaws.{set-stored}
use borrow.Author.Rules.{rules}
use Rattle.sheet.proofs.kernel.store_rows.Goals as goal
use Rattle.sheet.proofs.kernel.store_rows.Lts as step
use Rattle.sheet.proofs.kernel.store_rows.Reads as reads
use Rattle.sheet.proofs.kernel.store_rows.Tie as tie

-- there is room for the rows
within : (b : step.After-factors_from tie.the-claims reads.Pre reads.Post) → b.factors_from-from.result + length b.args.rows.now ≤ length b.args.sheet.now
within b =
    let e = b.factors_from-from.ensures ∙ header-factors _ _ b.read_header-h.ensures in
    omega (arith, factors-within b.args.sheet.now (shape-placed _ b.requires.0.shape), b.requires.1)

pub offset_bounds-sheet-from : goal.offset_bounds-sheet-from
offset_bounds-sheet-from c = let w = within (c.before) in omega arith

pub slice_bounds-copy-count : goal.slice_bounds-copy-count
slice_bounds-copy-count c = let w = within (c.before) in omega arith

pub slice_bounds-copy-start : goal.slice_bounds-copy-start
slice_bounds-copy-start c = let w = within (c.before) in omega arith

pub copy-requires : goal.copy-requires
copy-requires c = let w = within c.before.before in search rules

pub returns : goal.returns
returns c =
    let a = c.args in
    set-stored a.sheet.now c.requires.0 a.w a.rows.now c.requires.1 _ c.read_header-h.ensures _ c.factors_from-from.ensures _ c.copy.ensures _ c.set_terms.ensures
