-- `formula::survey::readable` meets its contract.
-- Assumes nothing.
use mathlib.Core.Path.{sym, ap, ◌∙◌}
use native.Mathlib.Omega.{arith}
use Rattle.formula.specs.internal.Survey.{glance_next}
use Rattle.formula.specs.declared.Kind.{Kind}
use Rattle.formula.proofs.PlaceLaws.{kind-inside}
use Rattle.formula.proofs.SurveyLaws.{survey-none, survey-next, survey-value, survey-all, kind-nine, chosen, passed_over}
use Rattle.formula.proofs.survey.readable.Goals as goal

pub loop-b-init : goal.loop-b-init
loop-b-init c = survey-none _ _ c.state_of-g.ensures

pub next-g-requires : goal.next-g-requires
next-g-requires c =
    let s = c.loop-b.invariant in
    let l = s.shallow in
    (omega arith, survey-value _ _ _ s, λ d e. kind-nine _ _ d (kind-inside _ _ c.loop-b-test.true ∙ sym c.kind_of.ensures ∙ e))

pub loop-b-preserved : goal.loop-b-preserved
loop-b-preserved c =
    let the-loop = c.loop-b in
    survey-next _ _ _ _ the-loop.invariant c.loop-b-test.true (c.next-g.ensures ∙ ap (λ (x : Kind). glance_next the-loop.g x) (c.kind_of.ensures ∙ sym (kind-inside _ _ c.loop-b-test.true)))

pub returns-then-is_whole : goal.returns-then-is_whole
returns-then-is_whole c = sym (chosen _ _ _ (sym c.is_whole.ensures ∙ c.if-is_whole.true)) ∙ survey-all _ _ _ c.loop-b.invariant c.loop-b-test.false

pub returns-else-is_whole : goal.returns-else-is_whole
returns-else-is_whole c = c.if-is_whole.false ∙ sym (passed_over _ _ _ (sym c.is_whole.ensures ∙ c.if-is_whole.false)) ∙ survey-all _ _ _ c.loop-b.invariant c.loop-b-test.false
