-- `read::check_text` meets its contract.
-- Assumes nothing.
use Rattle.numbers.proofs.RefusalsLaws.{told-pass, told-refuse, handed-up}
use mathlib.Core.Path.{sym, ◌∙◌}
use Rattle.read.proofs.OutcomeLaws.{modulus-refused, width-refused, text-judged}
use Rattle.read.proofs.check_text.Goals as goal

pub returns-in_err-check_modulus : goal.returns-in_err-check_modulus
returns-in_err-check_modulus c =
    rw (handed-up c.from_residual.ensures.1) (let the-args = c.args in sym (modulus-refused the-args.p the-args.n the-args.text.now _ (told-refuse c.check_modulus.ensures c.in_err-check_modulus.was)))

pub returns-then-outside : goal.returns-then-outside
returns-then-outside c =
    let the-args = c.args in
    let m = told-pass c.check_modulus.ensures c.in_ok-check_modulus.was in
    sym (width-refused the-args.p the-args.n the-args.text.now m (sym c.outside.ensures ∙ c.if-outside.true))

pub returns : goal.returns
returns c =
    let a = c.args in
    let m = told-pass c.check_modulus.ensures c.in_ok-check_modulus.was in
    c.survey_text.ensures ∙ sym (text-judged a.p a.n a.text.now m (sym c.outside.ensures ∙ c.if-outside.false))
