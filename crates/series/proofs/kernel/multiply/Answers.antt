-- `series::kernel::multiply` meets its contract. The loop's invariant: out has the columns of the product before t, and past them what it had.
-- Assumes nothing.
use mathlib.Core.Path.{sym, ap, ◌∙◌}
use Prim.Native.Nat.{ℕ, ◌%◌}
use native.Mathlib.Omega.{arith}
use lib.ListN.{length}
use Rattle.numbers.specs.Words.{tabulate, over}
use Rattle.numbers.proofs.WordsLaws.{writing-none, writing-next, writing-all}
use Rattle.series.proofs.SeriesLaws.{dot-column, product_whole}
use Rattle.series.proofs.kernel.multiply.Goals as goal

pub loop-t-init : goal.loop-t-init
unfolding tabulate
loop-t-init c = writing-none _

pub loop-t-preserved : goal.loop-t-preserved
loop-t-preserved c =
    let a = c.args in
    let v = ap (λ (x : ℕ). x % a.p) c.dot-sum.ensures ∙ dot-column a.p a.g.now a.h.now c.loop-t.t in
    writing-next _ _ _ _ _ c.loop-t.invariant v (omega arith)

pub returns : goal.returns
returns c =
    let a = c.args in
    let n = length a.g.now in
    writing-all _ n _ _ _ c.loop-t.invariant (omega arith) ∙ ap (λ s. over s a.out.now) (sym (product_whole a.p n a.g.now a.h.now))
