-- `pair::split_rows` meets its contract.
-- Assumes nothing.
use mathlib.Core.Path.{◌≡◌, sym, ap, subst}
use Prim.Native.Nat.{◌-◌, ◌*◌, ◌≤◌}
use native.Mathlib.Nat.{add-mul}
use native.Mathlib.Omega.{arith}
use lib.ListN.{length, take}
use lib.Seq.{length-take-le}
use Rattle.numbers.proofs.WordsLaws.{length_from}
use Rattle.solution.specs.internal.Table.{SplitStart, SplitRoom}
use Rattle.pair.proofs.LiftLaws.{leading-long, leading-made, lift-start}
use Rattle.pair.proofs.split_rows.Goals as goal

pub slice_bounds-load_column-end-3 : goal.slice_bounds-load_column-end-3
slice_bounds-load_column-end-3 c = let a = c.args in sym (length-take-le (length a.a0.now - 1) a.a0.now (omega arith))

pub load_column-requires : goal.load_column-requires
load_column-requires c =
    let a = c.args in
    let r = c.requires in
    let k = length a.a0.now - 1 in
    let n : length (take k a.a0.now) ≡ k = length-take-le k a.a0.now (omega arith) in
    let e : length (take k a.a0.now) * a.n ≡ k * a.n = ap (λ x. x * a.n) n in
    let long = r.1.long in
    (r.1.width, omega (arith, r.1.from_low, r.1.from-high, r.1.terms-high), omega (arith, n, r.0.room, r.0.low, r.0.high), omega (arith, e, long, add-mul a.d k a.n, length_from a.rows.now (a.d * a.n)))

pub split_by-requires : goal.split_by-requires
split_by-requires c =
    let a = c.args in
    let r = c.requires in
    let k = length a.a0.now - 1 in
    let high = r.0.high in
    let made = leading-made a.d a.n k a.rows.now a.a0.now _ (omega arith) c.load_column.ensures in
    let wide : 1 ≤ a.n = omega (arith, r.1.from_low, r.1.from-high, r.1.terms-high) in (
      subst (SplitStart a.p a.roots.now) (sym made) (lift-start a.p a.d a.n (length a.a0.now) a.roots.now a.rows.now r.0 r.1.below r.1.long wide),
      subst (λ x. SplitRoom a.p a.n a.h a.w x a.rows.now)
          (omega (arith, r.0.roots-long, ap length made, leading-long a.d a.n k a.rows.now)) r.1,
    )

pub returns : goal.returns
returns c =
    let a = c.args in
    let k = length a.a0.now - 1 in
    let high = c.requires.0.high in
    record { column = leading-made a.d a.n k a.rows.now a.a0.now _ (omega arith) c.load_column.ensures; split = c.split_by.ensures }
