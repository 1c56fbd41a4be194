-- `text::put_name` meets its contract: case by case.
-- Assumes nothing.
use mathlib.Core.Path.{sym, ap}
use native.Mathlib.Omega.{arith}
use Rattle.text.specs.Text.{row_name}
use Rattle.text.proofs.TextLaws.{puts_then, puts-as}
use Rattle.text.proofs.put_name.Goals as goal

pub returns-in-Factors : goal.returns-in-Factors
unfolding row_name
returns-in-Factors c =
    puts-as 13 _ (puts_then c.put_named-after_power.ensures c.put.ensures) (ap (λ x. row_name x c.args.j) (sym c.in-Factors.is)) (omega arith)

pub returns-in-Roots : goal.returns-in-Roots
unfolding row_name
returns-in-Roots c =
    puts-as 13 _ c.put-in-Roots.ensures (ap (λ x. row_name x c.args.j) (sym c.in-Roots.is)) (omega arith)
