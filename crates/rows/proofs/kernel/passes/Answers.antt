-- `rows::kernel::passes` meets its contract. The loop's invariant: the sum is that of the summands before i; those before the first row are 0.
-- Assumes nothing.
use mathlib.Core.Path.{◌≡◌, sym, ap, ◌∙◌}
use Prim.Native.Nat.{ℕ, ◌≤◌, ◌<◌, ◌-◌}
use native.Mathlib.Omega.{arith}
use Rattle.algebra.specs.Sums.{sum_to}
use Rattle.numbers.specs.internal.Limits.{modulus_bound}
use Rattle.numbers.proofs.WordsLaws.{from-below}
use Rattle.rows.specs.Rows.{rows_of}
use Rattle.rows.proofs.RowsLaws.{pass_term, PassAt, pass-at, pass-none, pass_all, pass-next, pass_fits, row-dot}
use Rattle.rows.proofs.kernel.passes.Goals as goal
use Rattle.rows.proofs.kernel.passes.Lts as step
use Rattle.rows.proofs.kernel.passes.Reads as reads
use Rattle.rows.proofs.kernel.passes.Tie as tie

-- both have the rows of this turn
both : (b : step.In-loop tie.the-claims reads.Pre reads.Post goal.the-invariant-loop-i goal.the-decreases-loop-i) → let a = b.args in let i = b.loop-i.i in (i ≤ a.j) × (i < a.frows) × (a.j - i < a.grows)
both b = (omega arith, omega arith, omega arith)

at_f : (b : step.In-loop tie.the-claims reads.Pre reads.Post goal.the-invariant-loop-i goal.the-decreases-loop-i) → let a = b.args in PassAt b.loop-i.i a.n a.skip a.count a.f.now
at_f b =
    let a = b.args in
    let h = b.requires in
    pass-at b.loop-i.i a.frows a.n a.skip a.count a.f.now (both b).1 h.2 h.4 h.6 h.0

at_g : (b : step.In-loop tie.the-claims reads.Pre reads.Post goal.the-invariant-loop-i goal.the-decreases-loop-i) → let a = b.args in PassAt (a.j - b.loop-i.i) a.n a.skip a.count a.g.now
at_g b =
    let a = b.args in
    let h = b.requires in
    pass-at (a.j - b.loop-i.i) a.grows a.n a.skip a.count a.g.now (both b).2 h.3 h.4 h.6 h.1

-- what the pass gave
told : (b : step.After-dot tie.the-claims reads.Pre reads.Post goal.the-invariant-loop-i goal.the-decreases-loop-i) → let a = b.args in b.dot-sum.result ≡ pass_term (rows_of a.f.now a.n a.frows) (rows_of a.g.now a.n a.grows) a.j a.skip a.count b.loop-i.i
told b =
    let a = b.args in
    let r = both b.before.before.before in
    row-dot a.f.now a.frows a.g.now a.grows a.n a.j a.skip a.count b.loop-i.i r.1 r.2 b.dot-sum.ensures

pub loop-i-init : goal.loop-i-init
loop-i-init c =
    let a = c.args in
    (omega arith, sym (ap (λ (k : ℕ). sum_to k (pass_term (rows_of a.f.now a.n a.frows) (rows_of a.g.now a.n a.grows) a.j a.skip a.count)) c.saturating_sub-first.ensures ∙ pass-none a.f.now a.frows a.g.now a.grows a.n a.j a.skip a.count))

pub dot-sum-requires : goal.dot-sum-requires
dot-sum-requires c =
    let a = c.args in
    let h = c.requires in
    ((at_f c.before.before.before).long, (at_g c.before.before.before).long, omega arith, from-below modulus_bound a.f.now _ h.7, from-below modulus_bound a.g.now _ h.8)

pub overflow_add-sum : goal.overflow_add-sum
overflow_add-sum c =
    let l = c.loop-i in
    let a = c.args in
    let h = c.requires in
    record { fits = pass_fits a.f.now a.frows a.g.now a.grows a.n a.j a.skip a.count h.7 h.8 (omega arith) l.i (omega arith) l.invariant.1 (told c.before) }

pub loop-i-preserved : goal.loop-i-preserved
loop-i-preserved c =
    let l = c.loop-i in
    let a = c.args in
    (omega arith, pass-next a.f.now a.frows a.g.now a.grows a.n a.j a.skip a.count l.i l.invariant.1 (told c.before))

pub returns : goal.returns
returns c =
    let a = c.args in
    c.loop-i.invariant.1 ∙ pass_all a.f.now a.frows a.g.now a.grows a.n a.j a.skip a.count c.loop-i.i (omega arith) (omega arith)
