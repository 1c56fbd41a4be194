-- `layout::lengths::rows_known` meets its contract. The loop's invariant: the rows before j are known to their lengths.
-- Assumes nothing.
use Prim.Native.Nat.{◌+◌, ◌*◌, ◌≤◌}
use native.Mathlib.Omega.{arith}
use mathlib.Core.Path.{◌≡◌, sym, ◌∙◌}
use mathlib.Core.Bool.{true}
use borrow.Author.Count.{below_more}
use lib.ListN.{length}
use Rattle.numbers.specs.Words.{word}
use Rattle.numbers.proofs.RefusalsLaws.{few_words}
use Rattle.series.specs.Known.{known_to}
use Rattle.rows.proofs.RowsLaws.{row_fits}
use Rattle.layout.specs.Layout.{rows_at}
use Rattle.layout.proofs.LengthsLaws.{row-known, rows-known-not, rows-known-all}
use Rattle.layout.proofs.lengths.rows_known.Goals as goal
use Rattle.layout.proofs.lengths.rows_known.Lts as step
use Rattle.layout.proofs.lengths.rows_known.Reads as reads
use Rattle.layout.proofs.lengths.rows_known.Tie as tie

-- row j ends within the rows
ends : (b : step.In-loop tie.the-claims reads.Pre reads.Post goal.the-invariant-loop-j goal.the-decreases-loop-j) → let a = b.args in (b.loop-j.j * a.n + a.n ≤ length a.lengths.now * a.n) × (length a.lengths.now * a.n ≤ 8448)
ends b =
    let a = b.args in
    (omega (arith, row_fits b.loop-j.j (length a.lengths.now) a.n (omega arith)), few_words (length a.lengths.now) a.n (omega arith) (omega arith))

-- what is found of it
found : (b : step.After-known_to tie.the-claims reads.Pre reads.Post goal.the-invariant-loop-j goal.the-decreases-loop-j) → let a = b.args in let j = b.loop-j.j in
    b.known_to.result ≡ known_to a.n (word a.lengths.now j) (rows_at a.rows.now 0 a.n j)
found b =
    let a = b.args in
    let l = b.loop-j.j in
    let z = ends b.before.before.before in
    b.known_to.ensures ∙ row-known a.rows.now a.n l (word a.lengths.now l) (omega arith)

pub returns-then-not-known_to : goal.returns-then-not-known_to
returns-then-not-known_to c = rows-known-not _ _ _ _ c.loop-j.j (omega arith) (sym (found c.before.before) ∙ c.if-not-known_to.true)

pub loop-j-preserved : goal.loop-j-preserved
loop-j-preserved c = let a = c.args in below_more (λ l. known_to a.n (word a.lengths.now l) (rows_at a.rows.now 0 a.n l) ≡ true) _ c.loop-j.invariant (sym (found c.before.before) ∙ c.if-not-known_to.false)

pub returns : goal.returns
returns c = rows-known-all _ _ _ _ (λ j l. c.loop-j.invariant j (omega arith))
