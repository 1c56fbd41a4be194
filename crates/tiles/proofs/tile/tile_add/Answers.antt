-- `tiles::tile::tile_add` meets its contract.
-- Assumes nothing.
use Prim.Native.Nat.{◌-◌, ◌*◌}
use native.Mathlib.Omega.{arith}
use Rattle.numbers.proofs.WordsLaws.{length_from, from-below}
use Rattle.numbers.specs.internal.Limits.{modulus_bound}
use Rattle.tiles.proofs.TileLaws.{add_step}
use Rattle.tiles.proofs.tile.tile_add.Goals as goal

pub tile_step-requires : goal.tile_step-requires
tile_step-requires c =
    let a = c.args in
    let r = c.requires in (
      omega (arith, length_from a.y.now (2 * a.s)),
      omega (arith, length_from a.w.now (8 * (a.t - a.s))),
      r.long-a,
      from-below modulus_bound a.y.now (2 * a.s) r.below-y,
      from-below modulus_bound a.w.now (8 * (a.t - a.s)) r.below-w,
      r.below-a,
    )

pub returns : goal.returns
returns c = let a = c.args in add_step a.t a.s a.y.now a.w.now a.a.now _ c.tile_step.ensures
