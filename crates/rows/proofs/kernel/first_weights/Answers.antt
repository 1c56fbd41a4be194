-- `rows::kernel::first_weights` meets its contract. The loop's invariant: the weights before i are written.
-- Assumes nothing.
use mathlib.Core.Path.{◌≡◌, ap, ◌∙◌}
use Prim.Native.Nat.{ℕ, ◌-◌, ◌*◌, ◌%◌}
use native.Mathlib.Omega.{arith}
use lib.ListN.{length, length-set}
use Rattle.numbers.specs.Words.{tabulate}
use Rattle.numbers.proofs.WordsLaws.{writing-next}
use Rattle.rows.specs.Rows.{line_power}
use Rattle.rows.proofs.RowsLaws.{writing-first, writing-word, writing-whole, line-one, line_first}
use Rattle.rows.proofs.kernel.first_weights.Goals as goal

pub loop-i-init : goal.loop-i-init
loop-i-init c = writing-first (λ k. line_power c.args.p c.args.c k 0) c.args.weights.now 1 (omega arith) (line-one c.args.p c.args.c)

pub loop-i-preserved : goal.loop-i-preserved
loop-i-preserved c =
    let l = c.loop-i in
    let a = c.args in
    let v = ap (λ (x : ℕ). a.c * x % a.p) (writing-word _ _ _ _ (l.i - 1) l.invariant (omega arith)) ∙ line_first a.p a.c l.i (omega arith) in
    writing-next _ _ _ _ _ l.invariant v (omega arith)

pub returns : goal.returns
returns c =
    let a = c.args in
    let e : c.loop-i.i ≡ length a.weights.now = omega (arith, length-set a.weights.now 0 1) in
    writing-whole _ _ _ _ c.loop-i.invariant (omega (arith, length-set a.weights.now 0 1)) ∙ ap (λ (n : ℕ). tabulate n (λ k. line_power a.p a.c k 0)) e
