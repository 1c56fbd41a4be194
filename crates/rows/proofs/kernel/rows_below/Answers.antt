-- `rows::kernel::rows_below` meets its contract. The loop's invariant: the rows before j pass.
-- Assumes nothing.
use mathlib.Core.Path.{sym}
use Prim.Native.Nat.{ℕ, ◌≤◌, ◌<◌, ◌+◌, ◌*◌}
use native.Mathlib.Omega.{arith}
use borrow.Author.Count.{below_more}
use lib.ListN.{length}
use Rattle.numbers.specs.Words.{word}
use Rattle.rows.proofs.RowsLaws.{row_fits}
use Rattle.rows.proofs.RowsBelowLaws.{at-rows_below, columns-pass, columns-fail}
use Rattle.rows.proofs.kernel.rows_below.Goals as goal
use Rattle.rows.proofs.kernel.rows_below.Lts as step
use Rattle.rows.proofs.kernel.rows_below.Reads as reads
use Rattle.rows.proofs.kernel.rows_below.Tie as tie

-- row j lies within the words
inside : (b : step.In-loop tie.the-claims reads.Pre reads.Post goal.the-invariant-loop-j goal.the-decreases-loop-j) → let a = b.args in b.loop-j.j * a.n + a.n ≤ length a.s.now
inside b = let a = b.args in omega (arith, row_fits b.loop-j.j a.rows a.n (omega arith))

pub returns-then-first_large-to : goal.returns-then-first_large-to
returns-then-first_large-to c =
    let a = c.args in
    let l = inside c.before.before.before.before in
    columns-fail a.q a.s.now a.n c.loop-j.j a.from a.to (omega arith) (omega arith) a.rows (omega arith) (rw c.first_large.ensures at c.if-first_large-to.true)

pub loop-j-preserved : goal.loop-j-preserved
loop-j-preserved c =
    let a = c.args in
    let i = c.loop-j in
    let l = inside c.before.before.before.before in
    below_more (λ k. (t : ℕ) → a.from ≤ t → t < a.to → word a.s.now (k * a.n + t) < a.q) _ i.invariant
    (columns-pass a.q a.s.now a.n i.j a.from a.to (omega arith) (omega arith) (rw c.first_large.ensures at c.if-first_large-to.false))

pub returns : goal.returns
returns c =
    let a = c.args in
    sym (at-rows_below a.q a.s.now a.n a.rows a.from a.to (λ j l. c.loop-j.invariant j (omega arith)))
