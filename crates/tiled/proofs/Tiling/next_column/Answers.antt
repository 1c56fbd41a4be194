-- `tiled::Tiling::next_column` meets its contract: the sums of a column, and then the solutions, each times its weight, in words of its own.
-- Assumes nothing.
use mathlib.Core.Path.{sym}
use Prim.Native.Nat.{◌+◌, ◌*◌}
use native.Mathlib.Omega.{arith}
use Rattle.tiled.proofs.TiledLaws.{made-long, left-small, column-is, lent-long}
use Rattle.tiled.proofs.Tiling.next_column.Goals as goal

pub slice_bounds-gather-end : goal.slice_bounds-gather-end
slice_bounds-gather-end c = let s = c.requires.0 in let h = s.paired-high in let f = s.few in sym (lent-long 80 _ (omega arith))

pub gather-requires : goal.gather-requires
gather-requires c =
    let r = c.requires in
    let s = r.0 in
    let h = s.paired-high in
    let f = s.few in
    (s, r.1, r.2, r.4, r.5, lent-long 80 _ (omega arith), r.7, r.8)

pub slice_bounds-weigh-end : goal.slice_bounds-weigh-end
slice_bounds-weigh-end c = let s = c.requires.0 in let h = s.room in sym (lent-long 68 _ (omega arith))

pub slice_bounds-weigh-end-2 : goal.slice_bounds-weigh-end-2
slice_bounds-weigh-end-2 c = let s = c.requires.0 in let h = s.high-few in sym (lent-long 40 _ (omega arith))

pub weigh-requires : goal.weigh-requires
weigh-requires c =
    let a = c.args in
    let r = c.requires in
    let s = r.0 in
    let e = c.gather.ensures.is in (
      s.some,
      s.small,
      let z = s.m-low in omega arith,
      s.room,
      s.high-lanes,
      s.high-few,
      r.3.long,
      r.3.below,
      made-long (a.self.m + a.self.k) _ _ e,
      left-small a.self.p a.self.n a.self.m a.self.k a.t a.rows.now _ s.some s.small e,
      let h = s.room in lent-long 68 (2 * (a.self.m + a.self.k + 1)) (omega arith),
      let h = s.high-few in lent-long 40 (8 * a.self.high) (omega arith),
      r.6,
    )

pub returns : goal.returns
returns c =
    let a = c.args in
    let r = c.requires in
    let e = c.gather.ensures.is in
    let f = c.weigh.ensures.is a.table.now r.3 in
    record { scratch = made-long (a.self.m + a.self.k) _ _ e; buffer = made-long (a.self.m + a.self.k) _ _ f; is = column-is a.self.p a.self.n a.self.m a.self.k a.t a.table.now a.rows.now _ _ e f }
