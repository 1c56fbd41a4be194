-- `columns::gather` meets its contract. The loop's invariant: before j the words are the gathered ones, from there on the old ones.
-- Assumes nothing.
use mathlib.Core.Path.{ap, ◌∙◌}
use Prim.Native.Nat.{ℕ, ◌-◌, ◌+◌, ◌*◌, ◌%◌}
use native.Mathlib.Omega.{arith}
use Rattle.numbers.specs.Words.{word, tabulate}
use Rattle.numbers.proofs.WordsLaws.{length-tabulate, over-whole, writing-none, writing-next, writing-all}
use Rattle.columns.proofs.ColumnLaws.{gather_at}
use Rattle.columns.proofs.gather.Goals as goal

pub loop-j-init : goal.loop-j-init
unfolding tabulate
loop-j-init c = writing-none _

pub loop-j-preserved : goal.loop-j-preserved
loop-j-preserved c =
    let l = c.loop-j in
    let a = c.args in
    let v = c.less.ensures ∙ ap (λ (x : ℕ). (word a.f.now (l.j * a.n + a.t) + (a.p - x % a.p)) % a.p) c.passes-sum.ensures in
    writing-next _ (gather_at a.p a.f.now a.low.now a.m a.high.now a.k a.n a.t) _ _ _ l.invariant v (omega arith)

pub returns : goal.returns
returns c = writing-all _ _ _ _ _ c.loop-j.invariant (omega arith) ∙ over-whole _ _ (length-tabulate _ _)
