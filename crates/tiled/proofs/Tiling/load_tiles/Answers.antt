-- `tiled::Tiling::load_tiles` meets its contract. The loop's invariant: the columns below t stand beside the rows.
-- Assumes nothing.
use mathlib.Core.Path.{◌≡◌, sym, subst, ap, ◌∙◌}
use Prim.Native.Nat.{◌+◌, ◌*◌}
use native.Mathlib.Omega.{arith}
use lib.ListN.{length}
use Rattle.numbers.specs.internal.Limits.{modulus_bound}
use Rattle.tiled.specs.internal.Tiled.{Stands}
use Rattle.tiled.proofs.TiledLaws.{loaded-stored, loaded-below, made-long, beside_long}
use Rattle.tiled.proofs.Tiling.load_tiles.Goals as goal

pub loop-t-init : goal.loop-t-init
loop-t-init c = (c.requires.5, c.requires.6)

pub load_column-requires : goal.load_column-requires
load_column-requires c =
    let r = c.requires in
    let l = c.loop-t.invariant in
    let e : length c.loop-t.column * c.args.self.n ≡ (c.args.self.m + c.args.self.k) * c.args.self.n = ap (λ x. x * c.args.self.n) l.0 in
    (r.0.width, omega (arith, r.2), omega (arith, l.0, r.0.room), omega (arith, e, r.3))

pub put_tiles-requires : goal.put_tiles-requires
put_tiles-requires c =
    let r = c.requires in
    let a = c.args in
    let l = c.loop-t.invariant in
    let w : _ ≡ _ = c.load_column.ensures in
    let long = beside_long a.self.n a.self.m a.self.k a.self.paired a.self.blocks c.loop-t.t a.rows.now c.loop-t.pairs c.loop-t.tiles l.1 in
    (r.0, omega (arith, r.2), made-long _ _ _ w ∙ l.0, loaded-below a.self.n c.loop-t.t _ a.rows.now _ w modulus_bound (omega (arith, r.2)) (r.3 ∙ ap (λ x. x * a.self.n) (sym l.0)) r.4, long.0, long.1)

pub loop-t-preserved : goal.loop-t-preserved
loop-t-preserved c =
    let a = c.args in
    let l = c.loop-t.invariant in
    let w = c.load_column.ensures in
    (made-long _ _ _ w ∙ l.0, c.put_tiles.ensures a.rows.now a.rows.now l.1 (loaded-stored a.self.n c.loop-t.t _ a.rows.now _ w))

pub shape_of-column : goal.shape_of-column
shape_of-column c = c.loop-t.invariant.0 ∙ sym c.requires.5

pub shape_of-pairs : goal.shape_of-pairs
shape_of-pairs c = let a = c.args in (beside_long a.self.n a.self.m a.self.k a.self.paired a.self.blocks c.loop-t.t a.rows.now c.loop-t.pairs c.loop-t.tiles c.loop-t.invariant.1).0 ∙ sym (beside_long a.self.n a.self.m a.self.k a.self.paired a.self.blocks 1 a.rows.now a.pairs.now a.tiles.now c.requires.6).0

pub shape_of-tiles : goal.shape_of-tiles
shape_of-tiles c = let a = c.args in (beside_long a.self.n a.self.m a.self.k a.self.paired a.self.blocks c.loop-t.t a.rows.now c.loop-t.pairs c.loop-t.tiles c.loop-t.invariant.1).1 ∙ sym (beside_long a.self.n a.self.m a.self.k a.self.paired a.self.blocks 1 a.rows.now a.pairs.now a.tiles.now c.requires.6).1

pub returns : goal.returns
returns c =
    let a = c.args in
    let e : c.loop-t.t ≡ a.h = omega arith in
    record { buffer = c.loop-t.invariant.0; is = subst (λ x. Stands a.self x a.rows.now c.loop-t.pairs c.loop-t.tiles) e c.loop-t.invariant.1 }
