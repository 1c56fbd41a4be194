-- `capi::bk_sheet_factor` meets its contract.
-- Assumes nothing.
use mathlib.Core.Path.{◌≡◌, ap, refl, ◌∙◌}
use lib.ListN.{length}
use Rattle.numbers.specs.Refusals.{judge, Pass}
use Rattle.numbers.proofs.RefusalsLaws.{answer-refused, answer-done, told-pass, told-refuse}
use Rattle.capi.specs.Packed.{packed}
use Rattle.capi.specs.Factor.{factor_checks, factor_words}
use Rattle.capi.proofs.FactorLaws.{factor-pass}
use Rattle.capi.proofs.bk_sheet_factor.Goals as goal

pub returns-in-Err : goal.returns-in-Err
returns-in-Err c =
    let m = answer-refused _ _ _ _ (told-refuse c.check_factor.ensures c.in-Err.is) in
    record { answer = c.pack_refusal.ensures ∙ ap packed m.answer; words = m.words }

pub put_factor-requires : goal.put_factor-requires
put_factor-requires c =
    let a = c.args in
    factor-pass a.sheet.now a.i (length a.out.now) (told-pass c.check_factor.ensures c.in_default.is)

pub returns : goal.returns
unfolding packed
returns c =
    let a = c.args in
    let m : judge (factor_checks a.sheet.now a.i (length a.out.now)) ≡ Pass = told-pass c.check_factor.ensures c.in_default.is in
    let d = answer-done (λ k. factor_words a.sheet.now a.i) 4 4 4 a.out.now _ m c.put_factor.ensures refl in
    record { answer = ap packed d.answer; words = d.words }
