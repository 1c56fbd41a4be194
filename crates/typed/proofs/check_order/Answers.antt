-- `typed::check_order` meets its contract: at each `return` the tests that led there say which row it is.
-- Assumes nothing.
use mathlib.Core.Path.{sym, ◌∙◌}
use Rattle.numbers.specs.Refusals.{modulus_checks}
use Rattle.numbers.proofs.RefusalsLaws.{after-pass, after-refuse, take-check, skip-check, none-judged, told-pass, told-refuse, handed-up}
use Rattle.typed.proofs.check_order.Goals as goal

pub returns-in_err-check_modulus : goal.returns-in_err-check_modulus
returns-in_err-check_modulus c =
    rw (handed-up c.from_residual.ensures.1) (sym (after-refuse (modulus_checks c.args.p) _ _ (told-refuse c.check_modulus.ensures c.in_err-check_modulus.was)))

pub returns-then-outside : goal.returns-then-outside
returns-then-outside c = sym (after-pass (modulus_checks c.args.p) _ (told-pass c.check_modulus.ensures c.in_ok-check_modulus.was) ∙ take-check _ _ (sym c.outside.ensures ∙ c.if-outside.true))

pub returns : goal.returns
returns c = sym (after-pass (modulus_checks c.args.p) _ (told-pass c.check_modulus.ensures c.in_ok-check_modulus.was) ∙ skip-check _ _ (sym c.outside.ensures ∙ c.if-outside.false) ∙ none-judged)
