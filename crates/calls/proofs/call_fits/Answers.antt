-- `calls::call_fits` meets its contract: where each way through the tests ends, they say what the definition says.
-- Assumes nothing.
use mathlib.Core.Path.{sym, ◌∙◌}
use borrow.Author.Tests.{eq-eqb, lt-leb, eqb-true, eqb-false}
use Rattle.calls.proofs.ReplayLaws.{lends-beyond, fits-correct, kind-other, fourth-not, by-fifth}
use Rattle.calls.proofs.call_fits.Goals as goal
use Rattle.calls.proofs.call_fits.Goals.{then-calls-from-eq-EXTEND, else-calls-from-eq-EXTEND}

pub returns-else-calls-from : goal.returns-else-calls-from
returns-else-calls-from c = let a = c.args in lt-leb _ a.size c.if-calls-from.false ∙ sym (lends-beyond a.size a.calls.now a.i c.if-calls-from.false)

pub returns-then-corrects : goal.returns-then-corrects
returns-then-corrects c = let a = c.args in eq-eqb _ 1 c.if-corrects.true ∙ sym (fits-correct a.size a.calls.now a.i c.if-calls-from.true c.if-corrects.true)

pub returns-then-calls-from-eq0 : goal.returns-then-calls-from-eq0
returns-then-calls-from-eq0 c =
    let a = c.args in
    elim c.if-calls-from-eq-EXTEND.branch [
      | then-calls-from-eq-EXTEND w ↦ sym (by-fifth a.size a.calls.now a.i c.if-calls-from.true c.if-corrects.false w.if-calls-from-eq-EXTEND.true (eqb-true _ 0 (sym w.value-is ∙ c.if-calls-from-eq0.true)))
      | else-calls-from-eq-EXTEND w ↦ absurd (w.if-calls-from-eq-EXTEND.false (eqb-true _ 0 (sym w.value-is ∙ c.if-calls-from-eq0.true)))
    ]

pub returns-else-calls-from-eq0 : goal.returns-else-calls-from-eq0
returns-else-calls-from-eq0 c =
    let a = c.args in
    c.if-calls-from-eq0.false
    ∙ elim c.if-calls-from-eq-EXTEND.branch [
      | then-calls-from-eq-EXTEND w ↦ sym (fourth-not a.size a.calls.now a.i c.if-calls-from.true c.if-corrects.false w.if-calls-from-eq-EXTEND.true (eqb-false _ 0 (sym w.value-is ∙ c.if-calls-from-eq0.false)))
      | else-calls-from-eq-EXTEND w ↦ sym (kind-other a.size a.calls.now a.i c.if-calls-from.true c.if-corrects.false w.if-calls-from-eq-EXTEND.false)
    ]
