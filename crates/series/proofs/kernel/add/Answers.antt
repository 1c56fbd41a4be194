-- `series::kernel::add` meets its contract. The loop's invariant: out has the words of the sum before t, and past them what it had.
-- Assumes nothing.
use mathlib.Core.Path.{refl, sym, ap, ◌∙◌}
use native.Mathlib.Omega.{arith}
use lib.ListN.{length}
use Rattle.numbers.specs.Words.{tabulate, over}
use Rattle.numbers.proofs.WordsLaws.{writing-none, writing-next, writing-all}
use Rattle.series.proofs.SeriesLaws.{sums-whole}
use Rattle.series.proofs.kernel.add.Goals as goal

pub loop-t-init : goal.loop-t-init
unfolding tabulate
loop-t-init c = writing-none _

pub loop-t-preserved : goal.loop-t-preserved
loop-t-preserved c = writing-next _ _ _ _ _ c.loop-t.invariant refl (omega arith)

pub returns : goal.returns
returns c =
    let a = c.args in
    let n = length a.g.now in
    writing-all _ n _ _ _ c.loop-t.invariant (omega arith) ∙ ap (λ s. over s a.out.now) (sym (sums-whole a.p n a.g.now a.h.now))
