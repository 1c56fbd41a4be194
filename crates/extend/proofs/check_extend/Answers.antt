-- `extend::check_extend` meets its contract: at each `return` the tests that led there say which row it is.
-- Assumes nothing.
use mathlib.Core.Path.{◌≡◌, ◌∙◌, sym, ap, subst}
use Prim.Native.Nat.{◌≤◌}
use native.Mathlib.Omega.{arith}
use Rattle.numbers.specs.Words.{outside}
use Rattle.numbers.proofs.RefusalsLaws.{inside}
use Rattle.layout.specs.Layout.{reach}
use Rattle.sheet.specs.Sheet.{Sound}
use Rattle.sheet.specs.internal.Stages.{Computed}
use Rattle.extend.proofs.ExtendTotalLaws.{extend-spoiled, extend-outside, extend-behind, extend-reached}
use Rattle.extend.proofs.check_extend.Goals as goal
use Rattle.extend.proofs.check_extend.Lts as step
use Rattle.extend.proofs.check_extend.Reads as reads
use Rattle.extend.proofs.check_extend.Tie as tie

pub returns-then-not-factors_fit : goal.returns-then-not-factors_fit
returns-then-not-factors_fit c =
    let a = c.args in
    record { verdict = sym (extend-spoiled a.sheet.now a.w (c.factors_fit.ensures.sound.no (c.if-not-factors_fit.true))); rows = tt }

sound : (b : step.Else1 tie.the-claims reads.Pre reads.Post tie.handed_clauses) → Sound b.args.sheet.now
sound b = b.factors_fit.ensures.sound.yes (b.if-not-factors_fit.false)

-- what was tested is refusal 14
tested : (b : step.After-outside tie.the-claims reads.Pre reads.Post tie.handed_clauses) → let a = b.args in b.outside.result ≡ outside 1 (reach a.sheet.now) a.w
tested b = b.outside.ensures ∙ ap (λ n. outside 1 n b.args.w) b.read_header-h.ensures.reach-is

pub returns-then-outside : goal.returns-then-outside
returns-then-outside c =
    let a = c.args in
    record { verdict = sym (extend-outside a.sheet.now a.w (sound c.before.before.before.before) (sym (tested c.before.before) ∙ c.if-outside.true)); rows = tt }

range : (b : step.Else2 tie.the-claims reads.Pre reads.Post tie.handed_clauses) → let a = b.args in (1 ≤ a.w) × (a.w ≤ reach a.sheet.now)
range b = inside 1 _ _ (sym (tested b.before) ∙ b.if-outside.false)

pub returns-then-w-h : goal.returns-then-w-h
returns-then-w-h c =
    let a = c.args in
    let (low, high) = range c.before.before.before in
    let e = c.read_header-h.ensures.terms-is in
    record { verdict = sym (extend-behind a.sheet.now a.w (sound c.before.before.before.before.before.before) low high (omega (arith, c.if-w-h.true))); rows = tt }

pub returns : goal.returns
returns c =
    let a = c.args in
    let (low, high) = range c.before.before.before in
    let e = c.read_header-h.ensures in
    let k = c.if-w-h.false in
    record { verdict = sym (extend-reached a.sheet.now a.w (sound c.before.before.before.before.before.before) low high (omega arith)); rows = subst (λ x. Computed a.sheet.now x c.factors_fit.new.rows) (c.terms_to-to.ensures.is (omega arith) (omega arith)) (c.factors_fit.ensures.rows (c.if-not-factors_fit.false)) }
