-- `rows::kernel::combine` meets its contract. The loop's invariant: out has the columns of the row before t.
-- Assumes nothing.
use mathlib.Core.Path.{◌≡◌, ap, ◌∙◌}
use Prim.Native.Nat.{ℕ, ◌%◌}
use native.Mathlib.Omega.{arith}
use Rattle.numbers.specs.Words.{tabulate}
use Rattle.numbers.proofs.WordsLaws.{writing-none, writing-next}
use Rattle.rows.specs.internal.Passes.{weight_sum}
use Rattle.rows.proofs.RowsLaws.{writing-whole}
use Rattle.rows.proofs.kernel.combine.Goals as goal

pub loop-t-init : goal.loop-t-init
unfolding tabulate
loop-t-init c = writing-none _

pub loop-t-preserved : goal.loop-t-preserved
loop-t-preserved c = writing-next _ _ _ _ _ c.loop-t.invariant (ap (λ (x : ℕ). x % c.args.p) c.weighted_sum-sum.ensures) (omega arith)

pub returns : goal.returns
returns c =
    let a = c.args in
    let e : c.loop-t.t ≡ a.n = omega arith in
    writing-whole _ _ _ _ c.loop-t.invariant (omega arith) ∙ ap (λ (k : ℕ). tabulate k (λ t. weight_sum a.f.now a.n a.weights.now t % a.p)) e
