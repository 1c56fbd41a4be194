-- `tiled::less_sums` meets its contract. The loop's invariant: before j the words are what the sums leave, from there on the old ones.
-- Assumes nothing.
use mathlib.Core.Path.{◌∙◌}
use Prim.Native.Nat.{◌+◌, ◌*◌}
use native.Mathlib.Omega.{arith}
use lib.ListN.{length}
use Rattle.numbers.proofs.WordsLaws.{length-tabulate, over-whole, writing-next, writing-all}
use Rattle.rows.proofs.RowsLaws.{row_fits}
use Rattle.tiles.proofs.TileLaws.{step_start}
use Rattle.tiled.proofs.TiledLaws.{less_at}
use Rattle.tiled.proofs.less_sums.Goals as goal

pub loop-j-init : goal.loop-j-init
loop-j-init c = (omega arith, step_start _ _)

pub overflow_mul-j : goal.overflow_mul-j
overflow_mul-j c = let a = c.args in omega (arith, row_fits c.loop-j.j (length a.e.now) a.n (omega arith))

pub overflow_add-j : goal.overflow_add-j
overflow_add-j c = let a = c.args in omega (arith, row_fits c.loop-j.j (length a.e.now) a.n (omega arith))

pub offset_bounds-rows-j : goal.offset_bounds-rows-j
offset_bounds-rows-j c = let a = c.args in omega (arith, row_fits c.loop-j.j (length a.e.now) a.n (omega arith))

pub bounds-rows-j : goal.bounds-rows-j
bounds-rows-j c = let a = c.args in omega (arith, row_fits c.loop-j.j (length a.e.now) a.n (omega arith))

pub less-requires : goal.less-requires
less-requires c = let a = c.args in let r = c.requires in (r.0, r.1, r.7 (c.loop-j.j * a.n + a.t) (omega (arith, row_fits c.loop-j.j (length a.e.now) a.n (omega arith))))

pub loop-j-preserved : goal.loop-j-preserved
loop-j-preserved c =
    let a = c.args in
    let w = writing-next _ (less_at a.p a.n a.t a.sums.now a.rows.now) _ _ _ c.loop-j.invariant.1 c.less.ensures (omega arith) in (w.long, w)

pub returns : goal.returns
returns c = writing-all _ _ _ _ _ c.loop-j.invariant.1 (omega arith) ∙ over-whole _ _ (length-tabulate _ _)
