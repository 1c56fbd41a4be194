-- `tiled::Tiling::put_tiles` meets its contract, either way round.
-- Assumes nothing.
use mathlib.Core.Path.{◌≡◌, sym, ap, ◌∙◌}
use mathlib.Core.Logic.{⊎_elim}
use Prim.Native.Nat.{◌*◌}
use native.Mathlib.Omega.{arith}
use lib.ListN.{length}
use lib.Seq.{length-take-le}
use Rattle.numbers.specs.internal.Limits.{modulus_bound}
use Rattle.numbers.proofs.WordsLaws.{from, length_from, from-below, take_below}
use Rattle.tiled.proofs.TiledLaws.{beside-low, beside-high}
use Rattle.tiled.proofs.Tiling.put_tiles.Goals as goal

pub put_sides-requires : goal.put_sides-requires
put_sides-requires c =
    let a = c.args in
    let r = c.requires in
    let e : a.self.paired ≡ a.self.m = c.if-self.true in
    let nl = length-take-le a.self.m a.column.now (omega arith) in
    let nh = length_from a.column.now a.self.m in (
      omega (arith, nl, r.0.room),
      omega (arith, nh, r.0.lanes, r.2, e),
      r.0.few,
      r.0.width,
      r.1,
      take_below modulus_bound a.self.m a.column.now (omega arith) r.3,
      from-below modulus_bound a.column.now a.self.m r.3,
      r.4 ∙ ap (λ x. x * (2 * a.self.n)) (e ∙ sym nl),
      r.5,
    )

pub put_sides-requires-else-self : goal.put_sides-requires-else-self
put_sides-requires-else-self c =
    let a = c.args in
    let r = c.requires in
    let e : a.self.paired ≡ a.self.k = ⊎_elim (λ (q : a.self.paired ≡ a.self.m). absurd (c.if-self.false q)) (λ (q : a.self.paired ≡ a.self.k). q) r.0.either in
    let nl = length-take-le a.self.m a.column.now (omega arith) in
    let nh : length (from a.column.now a.self.m) ≡ a.self.k = length_from a.column.now a.self.m ∙ omega (arith, r.2) in (
      omega (arith, nh, r.0.room),
      omega (arith, nl, r.0.lanes, e),
      r.0.few,
      r.0.width,
      r.1,
      from-below modulus_bound a.column.now a.self.m r.3,
      take_below modulus_bound a.self.m a.column.now (omega arith) r.3,
      r.4 ∙ ap (λ x. x * (2 * a.self.n)) (e ∙ sym nh),
      r.5,
    )

pub returns-then-self : goal.returns-then-self
returns-then-self c = let a = c.args in let r = c.requires in beside-low a.self.n a.self.m a.self.k a.self.paired a.self.blocks a.t a.column.now a.pairs.now a.tiles.now _ _ r.1 r.2 c.if-self.true c.put_sides.ensures

pub returns-else-self : goal.returns-else-self
returns-else-self c = let a = c.args in let r = c.requires in beside-high a.self.n a.self.m a.self.k a.self.paired a.self.blocks a.t a.column.now a.pairs.now a.tiles.now _ _ r.1 r.2 c.if-self.false c.put_sides-else-self.ensures
