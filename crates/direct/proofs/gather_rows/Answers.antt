-- `direct::gather_rows` meets its contract.
-- Assumes nothing.
use mathlib.Core.Path.{sym}
use Prim.Native.Nat.{◌+◌, ◌*◌}
use native.Mathlib.Omega.{arith}
use Rattle.numbers.proofs.WordsLaws.{from-below, take_below}
use Rattle.solution.proofs.StepLaws.{seam-long, rest-long, seam-fits, gathered, store-fits}
use Rattle.direct.proofs.gather_rows.Goals as goal

pub slice_bounds-gather-end : goal.slice_bounds-gather-end
slice_bounds-gather-end c = let a = c.args in sym (seam-long a.m a.k a.n a.rows.now c.requires.6)

pub gather-requires : goal.gather-requires
gather-requires c =
    let a = c.args in
    let r = c.requires in (
      r.0,
      r.1,
      omega arith,
      omega arith,
      r.3,
      r.4,
      r.5,
      seam-long a.m a.k a.n a.rows.now r.6,
      rest-long a.m a.k a.n a.rows.now r.6,
      omega arith,
      store-fits (a.m + a.k) a.n a.e.now a.rows.now r.7 r.6,
      r.8,
      take_below a.p (a.m * a.n) a.rows.now (seam-fits a.m a.k a.n a.rows.now r.6) r.8,
      from-below a.p a.rows.now (a.m * a.n) r.8,
    )

pub returns : goal.returns
returns c =
    let a = c.args in
    gathered a.p a.m a.k a.n a.t a.rows.now a.e.now _ c.requires.7 c.gather.ensures
