-- `columns::fit_rows` meets its contract. The loop's invariant: the rows before j are written.
-- Assumes nothing.
use mathlib.Core.Path.{ap, ◌∙◌}
use Prim.Native.Nat.{ℕ, ◌+◌, ◌-◌, ◌*◌, ◌≤◌}
use native.Mathlib.Omega.{arith}
use lib.ListN.{take, drop}
use Rattle.numbers.specs.Words.{word, tabulate}
use Rattle.numbers.proofs.WordsLaws.{writing-none, over-whole}
use Rattle.numbers.proofs.RefusalsLaws.{few_words}
use Rattle.rows.specs.Rows.{table}
use Rattle.rows.proofs.RowsLaws.{row_fits, length_part, length-table, writing-row, writing-rows}
use Rattle.columns.proofs.ColumnLaws.{fitted-row}
use Rattle.columns.proofs.fit_rows.Invariants.{fitted}
use Rattle.columns.proofs.fit_rows.Goals as goal
use Rattle.columns.proofs.fit_rows.Lts as step
use Rattle.columns.proofs.fit_rows.Reads as reads
use Rattle.columns.proofs.fit_rows.Tie as tie

-- row j ends within the rows, which are few, on both sides
row : (b : step.In-loop tie.the-claims reads.Pre reads.Post goal.the-invariant-loop-j goal.the-decreases-loop-j) → let a = b.args in let j = b.loop-j.j in
    (j * a.n + a.n ≤ a.rows * a.n) × (a.rows * a.n ≤ 8448) × (j * a.w + a.w ≤ a.rows * a.w) × (a.rows * a.w ≤ 8448)
row b =
    let a = b.args in
    let j = b.loop-j.j in
    (row_fits j a.rows a.n (omega arith), few_words a.rows a.n (omega arith) (omega arith), row_fits j a.rows a.w (omega arith), few_words a.rows a.w (omega arith) (omega arith))

pub loop-j-init : goal.loop-j-init
unfolding table
loop-j-init c = writing-none _

pub loop-j-preserved : goal.loop-j-preserved
loop-j-preserved c =
    let a = c.args in
    let l = c.loop-j in
    let z = row c.before.before.before.before.before.before in
    let q = c.fit_row.ensures
    ∙ ap (λ (k : ℕ). tabulate k (word (take (l.j * a.n + a.n - l.j * a.n) (drop (l.j * a.n) a.f.now)))) (length_part l.out (l.j * a.w) a.w (omega (arith, l.invariant.long)))
    ∙ fitted-row a.f.now l.j a.n a.w (omega arith) in
    writing-row _ _ (fitted a.f.now a.n) _ _ _ l.invariant q (omega arith)

pub returns : goal.returns
returns c =
    let a = c.args in
    let f : ℕ → ℕ → ℕ = fitted a.f.now a.n in
    writing-rows _ _ _ f _ _ c.loop-j.invariant (omega arith)
    ∙ over-whole (table a.rows a.w f) a.out.now (omega (arith, length-table a.rows a.w f))
