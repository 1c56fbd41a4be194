-- `text::put_number` meets its contract: case by case.
-- Assumes nothing.
use mathlib.Core.Path.{sym, ap}
use native.Mathlib.Omega.{arith}
use Rattle.text.specs.Text.{number_text}
use Rattle.text.proofs.TextLaws.{puts-as}
use Rattle.text.proofs.put_number.Goals as goal

pub returns-in-Factors : goal.returns-in-Factors
unfolding number_text
returns-in-Factors c =
    let a = c.args in
    puts-as 10 _ c.put_decimal.ensures (ap (λ x. number_text x a.p a.v) (sym c.in-Factors.is)) (omega arith)

pub returns-in-Roots : goal.returns-in-Roots
unfolding number_text
returns-in-Roots c =
    let a = c.args in
    puts-as 10 _ c.put_signed.ensures (ap (λ x. number_text x a.p a.v) (sym c.in-Roots.is)) (omega arith)
