-- `sheet::kernel::work_out` meets its contract.
-- Assumes nothing.
use mathlib.Core.Path.{sym, ◌∙◌, ap}
use Prim.Native.Nat.{◌+◌}
use native.Mathlib.Omega.{arith}
use lib.Seq.{length-take-le}
use Rattle.sheet.proofs.kernel.work_out.Goals as goal

pub slice_bounds-work_with-end : goal.slice_bounds-work_with-end
slice_bounds-work_with-end c = let e = c.read_header-h.ensures in sym (length-take-le _ _ (omega arith))

pub slice_bounds-work_with-end-2 : goal.slice_bounds-work_with-end-2
slice_bounds-work_with-end-2 c = let e = c.read_header-h.ensures in sym (length-take-le _ _ (omega arith))

pub slice_bounds-work_with-end-3 : goal.slice_bounds-work_with-end-3
slice_bounds-work_with-end-3 c = let e = c.read_header-h.ensures in sym (length-take-le _ _ (omega arith))

pub slice_bounds-work_with-end-4 : goal.slice_bounds-work_with-end-4
slice_bounds-work_with-end-4 c = let e = c.read_header-h.ensures in sym (length-take-le _ _ (omega arith))

pub work_with-requires : goal.work_with-requires
work_with-requires c =
    let r = c.requires in
    let e = c.read_header-h.ensures in
    (r.0, r.1, r.2, length-take-le _ _ (omega arith) ∙ e.count-is, length-take-le _ _ (omega arith) ∙ e.count-is, length-take-le _ _ (omega arith) ∙ e.degree-is, length-take-le _ _ (omega arith) ∙ ap (λ d. d + 1) e.degree-is, r.3)
