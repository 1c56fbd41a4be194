-- `tiles::tile::tile_step` meets its contract.
-- Assumes nothing.
use mathlib.Core.Path.{sym, ◌∙◌}
use Prim.Native.Nat.{◌%◌}
use native.Mathlib.Omega.{arith}
use Rattle.numbers.specs.Words.{word}
use Rattle.numbers.proofs.WordsLaws.{length-tabulate, over-whole, writing-next, writing-all}
use Rattle.tiles.proofs.TileLaws.{word_fits, step_start, step-turn, old-word, lane}
use Rattle.tiles.proofs.tile.tile_step.Goals as goal

pub loop-l-init : goal.loop-l-init
loop-l-init c = (c.requires.2, step_start _ _)

pub overflow_add-a : goal.overflow_add-a
overflow_add-a c =
    let l = c.loop-l in
    let a = c.args in
    let h = c.requires in
    omega (arith, word_fits (word a.x.now (l.l % 2)) (word a.w.now l.l) (h.3 (l.l % 2) (let z = lane l.l in omega arith)) (h.4 l.l (omega arith)), old-word _ _ _ _ _ l.invariant.1, h.5 l.l (omega arith))

pub loop-l-preserved : goal.loop-l-preserved
loop-l-preserved c =
    let a = c.args in
    let l = c.loop-l in
    let w = writing-next l.l _ _ _ _ l.invariant.1 (step-turn a.x.now a.w.now a.a.now l.a l.l l.invariant.1) (omega arith) in
    (w.long ∙ c.requires.2, w)

pub returns : goal.returns
returns c = writing-all _ 8 _ _ _ c.loop-l.invariant.1 (omega arith) ∙ over-whole _ _ (length-tabulate 8 _ ∙ sym c.requires.2)
