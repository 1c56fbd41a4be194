-- `text::put_decimal` meets its contract: the digits found so far stand after those of what is left.
-- Assumes nothing.
use mathlib.Core.Path.{refl, ap}
use native.Mathlib.Omega.{arith}
use lib.ListN.{length}
use Rattle.text.proofs.DecimalLaws.{finding-start, finding-next, finding-last, digits-short}
use Rattle.text.proofs.TextLaws.{puts-as}
use Rattle.text.proofs.put_decimal.Goals as goal

pub loop-rest-init : goal.loop-rest-init
loop-rest-init c = (omega arith, finding-start c.args.v _ (omega arith) refl)

pub loop-rest-preserved : goal.loop-rest-preserved
loop-rest-preserved c = (omega arith, finding-next _ _ _ _ c.loop-rest.invariant.1 (omega arith))

pub returns : goal.returns
returns c =
    let l = c.loop-rest in
    let a = c.args in
    let e = finding-last a.v l.found l.first l.rest l.invariant.1 (omega arith) in
    puts-as 10 _ c.put.ensures e (omega (arith, ap length e, digits-short a.v (omega arith)))
