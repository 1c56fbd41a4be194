-- `open::writing::write_factor` meets its contract.
-- Assumes nothing.
use mathlib.Core.Path.{sym, ap, ◌∙◌}
use Prim.Native.Nat.{ℕ, ◌+◌, ◌*◌}
use native.Mathlib.Omega.{arith}
use lib.Seq.{length-take-le}
use Rattle.rows.proofs.RowsLaws.{zeros}
use Rattle.open.proofs.WritingLaws.{line-long, line-lower, line-rows}
use Rattle.open.proofs.writing.write_factor.Goals as goal

pub slice_bounds-line-end : goal.slice_bounds-line-end
slice_bounds-line-end c = omega arith

pub slice_bounds-root_power-end : goal.slice_bounds-root_power-end
slice_bounds-root_power-end c = sym (length-take-le (c.args.m + 1) zeros (omega arith))

pub root_power-requires : goal.root_power-requires
root_power-requires c =
    let l = length-take-le (c.args.m + 1) zeros (omega arith) in
    (omega arith, omega arith, omega arith, omega arith, omega arith)

pub slice_bounds-line-end-2 : goal.slice_bounds-line-end-2
slice_bounds-line-end-2 c = let s = c.args in let z = line-long s.p _ s.m _ (omega arith) c.root_power.ensures in omega arith

pub slice_bounds-spread-end : goal.slice_bounds-spread-end
slice_bounds-spread-end c = let s = c.args in sym (line-lower s.p _ s.m _ (omega arith) c.root_power.ensures)

pub spread-requires : goal.spread-requires
spread-requires c =
    let z = line-lower c.args.p _ c.args.m _ (omega arith) c.root_power.ensures in
    (omega arith, omega arith, omega arith, c.requires.6 ∙ ap (λ (x : ℕ). x * c.args.n) (sym z))

pub returns : goal.returns
returns c =
    let a = c.args in
    c.spread.ensures ∙ line-rows a.p a.c a.m _ (omega arith) c.root_power.ensures a.n
