-- `tiles::tile::tile` meets its contract: `tile_sums` adds to a copy, which then becomes a.
-- Assumes nothing.
use Prim.Native.Nat.{◌-◌}
use mathlib.Core.Path.{sym, ap, subst, ◌∙◌}
use lib.ListN.{length}
use Rattle.numbers.specs.Words.{tabulate}
use Rattle.numbers.specs.internal.Facts.{AllBelow}
use Rattle.tiles.specs.internal.Tile.{tile_sum}
use Rattle.tiles.proofs.tile.tile.Goals as goal

pub tile_sums-requires : goal.tile_sums-requires
tile_sums-requires c =
    let r = c.requires in
    let e = c.copy_lanes.ensures in
    (r.0, r.1, r.2, r.3, ap length e ∙ r.4, r.5, r.6, subst (AllBelow 2305843009213693952) (sym e) r.7)

pub returns : goal.returns
returns c =
    let a = c.args in
    c.copy_lanes-2.ensures ∙ c.tile_sums.ensures
    ∙ ap (λ s. tabulate 8 (tile_sum (a.t - 1) a.t a.y.now a.w.now s)) c.copy_lanes.ensures
