-- `rows::kernel::weighted_sum` meets its contract. The loop's invariant: the sum is that of the summands before i, each at most 16777215 * 16777215.
-- Assumes nothing.
use mathlib.Core.Path.{◌≡◌, ap, ◌∙◌}
use Prim.Native.Nat.{ℕ}
use native.Mathlib.Omega.{arith}
use lib.ListN.{length}
use Rattle.algebra.specs.Sums.{sum_to}
use Rattle.algebra.proofs.SumsLaws.{sum_to-zero}
use Rattle.series.proofs.SeriesLaws.{sum-next}
use Rattle.rows.proofs.RowsLaws.{weight_term, weight-bound, weights-bound, weight_is}
use Rattle.rows.proofs.kernel.weighted_sum.Goals as goal

pub loop-i-init : goal.loop-i-init
loop-i-init c = omega (arith, sum_to-zero (weight_term c.args.f.now c.args.n c.args.weights.now c.args.t))

pub overflow_add-sum-in-loop-i : goal.overflow_add-sum-in-loop-i
overflow_add-sum-in-loop-i c =
    let a = c.args in
    let h = c.requires in
    let b = weight-bound a.f.now a.n a.weights.now a.t h.4 h.5 c.loop-i.i in
    let s = weights-bound a.f.now a.n a.weights.now a.t h.4 h.5 c.loop-i.i in
    record { fits = omega arith }

pub loop-i-preserved : goal.loop-i-preserved
loop-i-preserved c =
    let a = c.args in
    omega (arith, sum-next c.loop-i.i (weight_term a.f.now a.n a.weights.now a.t))

pub returns : goal.returns
returns c =
    let a = c.args in
    let e : c.loop-i.i ≡ length a.weights.now = omega arith in
    c.loop-i.invariant ∙ ap (λ (n : ℕ). sum_to n (weight_term a.f.now a.n a.weights.now a.t)) e ∙ weight_is _ _ _ _
