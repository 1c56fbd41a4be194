-- `text::put_signed` meets its contract: a minus where the number is below 0, and its digits.
-- Assumes nothing.
use mathlib.Core.Path.{ap, ◌∙◌}
use native.Mathlib.Omega.{arith}
use lib.ListN.{length}
use Rattle.signed.proofs.SignedLaws.{signed-only}
use Rattle.text.specs.Text.{signed_text}
use Rattle.text.proofs.TextLaws.{puts_then, puts-within}
use Rattle.text.proofs.SignedTextLaws.{signed-held, signed-short, minus-text, plain-text}
use Rattle.text.proofs.put_signed.Goals as goal

pub returns-then-x-lt0 : goal.returns-then-x-lt0
returns-then-x-lt0 c =
    let a = c.args in
    let x = c.representative-x.result in
    let h = signed-held a.p a.v x c.requires.1 c.representative-x.ensures in
    let e = ap signed_text (signed-only a.p a.v x c.requires.0 c.representative-x.ensures) in
    puts-within 10 _ (puts_then c.put-after_minus.ensures c.put_decimal.ensures) (minus-text x h c.if-x-lt0.true ∙ e) (omega (arith, signed-short x h, ap length e))

pub returns-else-x-lt0 : goal.returns-else-x-lt0
returns-else-x-lt0 c =
    let a = c.args in
    let x = c.representative-x.result in
    let h = signed-held a.p a.v x c.requires.1 c.representative-x.ensures in
    let e = ap signed_text (signed-only a.p a.v x c.requires.0 c.representative-x.ensures) in
    puts-within 10 _ c.put_decimal-else-x-lt0.ensures (plain-text x h c.if-x-lt0.false ∙ e) (omega (arith, signed-short x h, ap length e))
