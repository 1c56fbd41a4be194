-- `powers::root_power` meets its contract.
-- Assumes nothing.
use mathlib.Core.Path.{◌≡◌, refl, sym, subst}
use Prim.Native.Nat.{ℕ, ◌-◌, ◌+◌}
use native.Mathlib.Nat.{mod-lt}
use native.Mathlib.Omega.{arith}
use lib.ListN.{length, take, length-set}
use lib.Seq.{length-take-le}
use Rattle.numbers.specs.internal.Facts.{AllBelow}
use Rattle.rows.proofs.RowsLaws.{zeros}
use Rattle.powers.proofs.LineLaws.{unit_at, unit-below, root-words}
use Rattle.powers.proofs.root_power.Goals as goal

pub slice_bounds-shift-end : goal.slice_bounds-shift-end
slice_bounds-shift-end c =
    let n : ℕ = length c.args.line.now in
    sym (length-take-le n (unit_at (n - 1)) (omega (arith, length-set zeros (n - 1) 1)))

pub shift-requires : goal.shift-requires
shift-requires c =
    let a = c.args in
    let n : ℕ = length a.line.now in
    let e : n - 1 + 1 ≡ n = omega arith in
    let long : length (take n (unit_at (n - 1))) ≡ n = length-take-le n (unit_at (n - 1)) (omega (arith, length-set zeros (n - 1) 1)) in (
      omega arith,
      omega arith,
      mod-lt (a.p - a.c) {m = a.p} (omega arith),
      omega arith,
      omega arith,
      omega arith,
      omega arith,
      omega arith,
      subst (λ (k : ℕ). AllBelow a.p (take k (unit_at (n - 1)))) e (unit-below (n - 1) (omega arith) a.p (omega arith)),
    )

pub returns : goal.returns
returns c =
    let a = c.args in
    let n : ℕ = length a.line.now in
    root-words (n - 1) (omega arith) n a.p a.c a.line.now _ (omega arith) (omega arith) refl c.shift.ensures
