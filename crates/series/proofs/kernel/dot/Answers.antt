-- `series::kernel::dot` meets its contract. The loop's invariant: the sum is that of the summands before i, each at most 16777215 * 16777215.
-- Assumes nothing.
use mathlib.Core.Path.{◌≡◌, ap, ◌∙◌}
use Prim.Native.Nat.{ℕ}
use native.Mathlib.Omega.{arith}
use Rattle.algebra.specs.Sums.{sum_to}
use Rattle.algebra.proofs.SumsLaws.{sum_to-zero}
use Rattle.series.proofs.SeriesLaws.{dot_term, sum-next, term-bound, dot-bound, dot-is}
use Rattle.series.proofs.kernel.dot.Goals as goal

pub loop-i-init : goal.loop-i-init
loop-i-init c = omega (arith, sum_to-zero (dot_term c.args.g.now c.args.h.now c.args.k))

pub overflow_add-sum : goal.overflow_add-sum
overflow_add-sum c =
    let h = c.requires in
    let a = c.args in
    omega (arith, term-bound a.g.now a.h.now a.k h.3 h.4 c.loop-i.i, dot-bound a.g.now a.h.now a.k h.3 h.4 c.loop-i.i)

pub loop-i-preserved : goal.loop-i-preserved
loop-i-preserved c = let a = c.args in omega (arith, sum-next c.loop-i.i (dot_term a.g.now a.h.now a.k))

pub returns : goal.returns
returns c =
    let a = c.args in
    let f = dot_term a.g.now a.h.now a.k in
    let e : c.loop-i.i ≡ a.k = omega arith in
    c.loop-i.invariant ∙ ap (λ (n : ℕ). sum_to n f) e ∙ dot-is _ _ _
