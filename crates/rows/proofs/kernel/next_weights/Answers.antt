-- `rows::kernel::next_weights` meets its contract. The loop's invariant: the weights before i are the new ones, the others the old.
-- Assumes nothing.
use mathlib.Core.Path.{◌≡◌, sym, ap, ◌∙◌}
use mathlib.Core.List.{List}
use Prim.Native.Nat.{ℕ, ◌-◌, ◌+◌}
use native.Mathlib.Omega.{arith}
use lib.ListN.{length, set, length-set}
use Rattle.numbers.specs.Words.{tabulate, word}
use Rattle.numbers.proofs.WordsLaws.{length-tabulate, writing-next, writing-past}
use Rattle.rows.specs.internal.Passes.{next_weight}
use Rattle.rows.proofs.RowsLaws.{writing-first, writing-word, writing-whole, before, before-is, before-word, next-first, next-turn}
use Rattle.rows.proofs.kernel.next_weights.Goals as goal

pub loop-i-init : goal.loop-i-init
loop-i-init c =
    let a = c.args in
    let w = a.weights.now in
    let s = before (set w 0 0) (word w 0) in (
      writing-first (next_weight a.p a.c (word s)) w 0 (omega arith) (next-first a.p a.c (word s)),
      ap (λ (l : List ℕ). word l 0) (sym (before-is w 0)),
    )

pub loop-i-preserved : goal.loop-i-preserved
loop-i-preserved c =
    let l = c.loop-i in
    let a = c.args in
    let i = l.i in
    let v = next-turn a.p a.c _ i _ _ (omega arith) (writing-word _ _ _ _ (i - 1) l.invariant.0 (omega arith)) l.invariant.1 in (
      writing-next _ _ _ _ _ l.invariant.0 v (omega arith),
      writing-past _ _ _ i l.invariant.0 (omega (arith, length-tabulate i (next_weight a.p a.c (word (before (set a.weights.now 0 0) (word a.weights.now 0)))))) ∙ before-word (set a.weights.now 0 0) (word a.weights.now 0) i (omega arith) ∙ ap (word (before (set a.weights.now 0 0) (word a.weights.now 0))) (let e : i ≡ i + 1 - 1 = omega arith in e),
    )

pub returns : goal.returns
returns c =
    let a = c.args in
    let w = a.weights.now in
    let e : c.loop-i.i ≡ length w = omega (arith, length-set w 0 0) in
    writing-whole _ _ _ _ c.loop-i.invariant.0 (omega (arith, length-set w 0 0)) ∙ ap (λ (n : ℕ). tabulate n (next_weight a.p a.c (word (before (set w 0 0) (word w 0))))) e
    ∙ ap (λ (l : List ℕ). tabulate (length w) (next_weight a.p a.c (word l))) (before-is w 0)
