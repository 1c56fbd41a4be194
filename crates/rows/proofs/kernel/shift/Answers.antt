-- `rows::kernel::shift` meets its contract. The loop's invariant: out has the rows of the shift before j, and past them what it had, and the weights are those of row j.
-- Assumes nothing.
use mathlib.Core.Path.{sym, subst, ◌∙◌}
use Prim.Native.Nat.{◌≤◌, ◌+◌, ◌*◌}
use native.Mathlib.Nat.{le_of_lt}
use native.Mathlib.Omega.{arith}
use lib.ListN.{length, take}
use lib.Seq.{length-take-le}
use Rattle.numbers.specs.internal.Facts.{AllBelow}
use Rattle.numbers.proofs.WordsLaws.{writing-none, from-below}
use Rattle.rows.specs.Rows.{table}
use Rattle.rows.proofs.RowsLaws.{zeros, RowIn, row_in, length_part, writing-row, weights-first, weights-next, weights-below, length_rest, rest_below, rest-fits, shift-row-is}
use Rattle.rows.proofs.kernel.shift.Goals as goal
use Rattle.rows.proofs.kernel.shift.Lts as step
use Rattle.rows.proofs.kernel.shift.Reads as reads
use Rattle.rows.proofs.kernel.shift.Tie as tie

in-out : (b : step.In-loop tie.the-claims reads.Pre reads.Post goal.the-invariant-loop-j goal.the-decreases-loop-j) → let a = b.args in RowIn b.loop-j.j a.n b.loop-j.out
in-out b =
    let a = b.args in
    let h = b.requires in
    row_in b.loop-j.j a.rows a.n b.loop-j.out b.loop-j-test.true h.4 h.5 (subst (λ k. a.rows * a.n ≤ k) (sym b.loop-j.invariant.0.long) h.7)

room : (b : step.In-loop tie.the-claims reads.Pre reads.Post goal.the-invariant-loop-j goal.the-decreases-loop-j) → b.args.rows ≤ length b.loop-j.weights
room b = subst (λ k. b.args.rows ≤ k) (sym b.loop-j.invariant.2) b.requires.4

reduced : (b : step.In-loop tie.the-claims reads.Pre reads.Post goal.the-invariant-loop-j goal.the-decreases-loop-j) → let a = b.args in AllBelow a.p (take a.rows b.loop-j.weights)
reduced b = let a = b.args in weights-below a.p a.c a.rows b.loop-j.j b.loop-j.weights b.requires.0 b.loop-j.invariant.1

pub loop-j-init : goal.loop-j-init
unfolding table
loop-j-init c =
    let a = c.args in
    let w = weights-first a.p a.c a.rows zeros _ c.requires.4 c.first_weights.ensures in
    (writing-none _, w.0, w.1)

pub combine-requires : goal.combine-requires
combine-requires c =
    let a = c.args in
    let h = c.requires in
    let i = c.loop-j in
    let u = le_of_lt c.loop-j-test.true in
    let r = length_rest a.rows i.j i.weights u (room c.before.before.before.before) in (
      omega arith,
      h.1,
      rest-fits a.rows i.j i.weights u (room c.before.before.before.before) a.f.now a.n h.6,
      omega arith,
      h.5,
      length_part i.out (i.j * a.n) a.n (in-out c.before.before.before.before).within,
      from-below a.p a.f.now (i.j * a.n) h.8,
      rest_below a.rows i.j i.weights u (room c.before.before.before.before) a.p (reduced c.before.before.before.before),
    )

pub next_weights-requires : goal.next_weights-requires
next_weights-requires c =
    let a = c.args in
    let h = c.requires in
    (omega arith, h.1, h.2, subst (λ k. 1 ≤ k) (sym (length-take-le a.rows c.loop-j.weights (room c.before.before.before.before.before.before.before.before))) h.3, reduced c.before.before.before.before.before.before.before.before)

pub loop-j-preserved : goal.loop-j-preserved
loop-j-preserved c =
    let a = c.args in
    let i = c.loop-j in
    let w = weights-next a.p a.c a.rows i.j i.weights _ (room c.before.before.before.before.before.before.before.before.before.before) i.invariant.1 c.next_weights.ensures in
    let r = shift-row-is a.p a.c a.f.now a.rows a.n i.j i.weights _ (le_of_lt c.loop-j-test.true) (room c.before.before.before.before.before.before.before.before.before.before) i.invariant.1 c.combine.ensures in
    (writing-row _ _ _ _ _ _ i.invariant.0 r (subst (λ k. i.j * a.n + a.n ≤ k) i.invariant.0.long (in-out c.before.before.before.before.before.before.before.before.before.before).within), w.0, w.1 ∙ i.invariant.2)
