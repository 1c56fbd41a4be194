-- `correct::check_correct` meets its contract: at each `return` the tests that led there say which row it is.
-- Assumes nothing.
use mathlib.Core.Path.{◌≡◌, ◌∙◌, sym, subst}
use mathlib.Core.Bool.{true}
use native.Mathlib.Omega.{arith}
use Rattle.layout.specs.Layout.{degree, known}
use Rattle.front.proofs.FrontLaws.{shape-placed}
use Rattle.sheet.specs.Sheet.{Sound}
use Rattle.sheet.specs.internal.Stages.{Computed}
use Rattle.correct.specs.Correct.{is_entry}
use Rattle.correct.proofs.CorrectTotalLaws.{correct-spoiled, correct-nowhere, correct-large, correct-passes}
use Rattle.correct.proofs.check_correct.Goals as goal
use Rattle.correct.proofs.check_correct.Lts as step
use Rattle.correct.proofs.check_correct.Reads as reads
use Rattle.correct.proofs.check_correct.Tie as tie

pub returns-then-not-factors_fit : goal.returns-then-not-factors_fit
returns-then-not-factors_fit c =
    let a = c.args in
    record { verdict = sym (correct-spoiled a.sheet.now a.j a.t a.entry (c.factors_fit.ensures.sound.no (c.if-not-factors_fit.true))); rows = tt }

sound : (b : step.Else1 tie.the-claims reads.Pre reads.Post tie.handed_clauses) → Sound b.args.sheet.now
sound b = b.factors_fit.ensures.sound.yes (b.if-not-factors_fit.false)

pub is_entry-requires : goal.is_entry-requires
is_entry-requires c = shape-placed _ c.requires.0.shape

pub returns-then-not-is_entry : goal.returns-then-not-is_entry
returns-then-not-is_entry c =
    let a = c.args in
    record { verdict = sym (correct-nowhere a.sheet.now a.j a.t a.entry (sound c.before.before.before) (sym c.is_entry.ensures ∙ c.if-not-is_entry.true)); rows = tt }

there : (b : step.Else2 tie.the-claims reads.Pre reads.Post tie.handed_clauses) → let a = b.args in is_entry (degree a.sheet.now) (known a.sheet.now) a.j a.t ≡ true
there b = sym b.is_entry.ensures ∙ b.if-not-is_entry.false

pub returns-then-h-entry : goal.returns-then-h-entry
returns-then-h-entry c =
    let a = c.args in
    let e = c.read_header-h.ensures.p-is in
    record { verdict = sym (correct-large a.sheet.now a.j a.t a.entry (sound c.before.before.before.before.before) (there c.before.before.before) (omega arith)); rows = tt }

pub returns : goal.returns
returns c =
    let a = c.args in
    let e = c.read_header-h.ensures in
    record { verdict = sym (correct-passes a.sheet.now a.j a.t a.entry (sound c.before.before.before.before.before) (there c.before.before.before) (omega arith)); rows = subst (λ x. Computed a.sheet.now x c.factors_fit.new.rows) e.terms-is (c.factors_fit.ensures.rows (c.if-not-factors_fit.false)) }
