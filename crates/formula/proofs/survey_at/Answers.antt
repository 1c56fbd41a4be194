-- `formula::survey_at` meets its contract.
-- Assumes nothing.
use mathlib.Core.Path.{sym, ◌∙◌}
use Prim.Native.Nat.{◌-◌}
use lib.ListN.{length, take, drop}
use Rattle.numbers.proofs.WordsLaws.{from_is}
use Rattle.formula.proofs.FoundLaws.{survey-past, survey-long, survey-unread, survey-deep, survey-fine}
use Rattle.formula.proofs.survey_at.Goals as goal
use Rattle.formula.proofs.survey_at.Goals.{then-too_long-via-then-too_long, then-too_long-via-else-too_long+then-not-readable}

pub returns-then-text-at : goal.returns-then-text-at
returns-then-text-at c = survey-past _ _ c.if-text-at.true

pub returns-then-too_long : goal.returns-then-too_long
returns-then-too_long c =
    let s = c.args.text.now in
    let at = c.args.at in
    elim c.then-too_long.branch [
      | then-too_long-via-then-too_long w ↦ survey-long s at (take (length s - at) (drop at s)) (from_is s at) c.if-text-at.false w.if-too_long.true
      | then-too_long-via-else-too_long+then-not-readable w ↦ survey-unread s at (take (length s - at) (drop at s)) (from_is s at) c.if-text-at.false w.if-too_long.false (sym w.readable.ensures ∙ w.if-not-readable.true)
    ]

pub returns-then-too_deep : goal.returns-then-too_deep
returns-then-too_deep c =
    let s = c.args.text.now in
    let at = c.args.at in
    survey-deep s at (take (length s - at) (drop at s)) (from_is s at) c.if-text-at.false c.if-too_long.false (sym c.readable.ensures ∙ c.if-not-readable.false) _ c.brackets-too_deep.ensures c.if-too_deep.true

pub returns-else-too_deep : goal.returns-else-too_deep
returns-else-too_deep c =
    let s = c.args.text.now in
    let at = c.args.at in
    survey-fine s at (take (length s - at) (drop at s)) (from_is s at) c.if-text-at.false c.if-too_long.false (sym c.readable.ensures ∙ c.if-not-readable.false) _ c.brackets-too_deep.ensures c.if-too_deep.false
