-- `rows::kernel::product_row` meets its contract. The loop's invariant: out has the columns of the row before t.
-- Assumes nothing.
use mathlib.Core.Path.{◌≡◌, ap, ◌∙◌}
use Prim.Native.Nat.{ℕ, ◌%◌}
use native.Mathlib.Omega.{arith}
use Rattle.numbers.specs.Words.{tabulate}
use Rattle.numbers.proofs.WordsLaws.{writing-none, writing-next}
use Rattle.rows.specs.Rows.{rows_of, mul}
use Rattle.rows.proofs.RowsLaws.{pass-column, writing-whole}
use Rattle.rows.proofs.kernel.product_row.Goals as goal

pub loop-t-init : goal.loop-t-init
unfolding tabulate
loop-t-init c = writing-none _

pub loop-t-preserved : goal.loop-t-preserved
loop-t-preserved c =
    let v = ap (λ (x : ℕ). x % c.args.p) c.passes-sum.ensures ∙ pass-column _ _ _ _ _ in
    writing-next _ _ _ _ _ c.loop-t.invariant v (omega arith)

pub returns : goal.returns
returns c =
    let a = c.args in
    let e : c.loop-t.t ≡ a.n = omega arith in
    writing-whole _ _ _ _ c.loop-t.invariant (omega arith) ∙ ap (λ (k : ℕ). tabulate k (mul a.p (rows_of a.f.now a.n a.frows) (rows_of a.g.now a.n a.grows) a.j)) e
