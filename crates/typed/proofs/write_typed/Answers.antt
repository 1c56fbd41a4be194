-- `typed::write_typed` meets its contract: modulus and terms are judged, the text is read, and its rows are written.
-- Assumes nothing.
use Rattle.numbers.proofs.RefusalsLaws.{told-pass, told-refuse}
use mathlib.Core.Path.{ap}
use native.Mathlib.Omega.{arith}
use Rattle.numbers.specs.Refusals.{outcome}
use Rattle.typed.proofs.KeyLaws.{typed-early, typed-refused, typed-rows, order-terms}
use Rattle.typed.proofs.write_typed.Goals as goal

pub returns-in-Err : goal.returns-in-Err
returns-in-Err c =
    let a = c.args in
    typed-early a.p a.n a.typed.now _ (told-refuse c.check_order.ensures c.in-Err.is) c.put_refused.ensures

pub write_rows-requires : goal.write_rows-requires
write_rows-requires c = let a = c.args in (order-terms a.p a.n (told-pass c.check_order.ensures c.in_default.is), omega arith, c.requires)

pub returns-in-Err-read : goal.returns-in-Err-read
returns-in-Err-read c =
    let a = c.args in
    typed-refused a.p a.n a.typed.now (told-pass c.check_order.ensures c.in_default.is) _ _ _ (omega arith) c.read.ensures _ (ap outcome c.in-Err-read.is) c.put_refused-in-Err-read.ensures

pub returns-in-Ok : goal.returns-in-Ok
returns-in-Ok c =
    let a = c.args in
    typed-rows a.p a.n a.typed.now (told-pass c.check_order.ensures c.in_default.is) _ _ _ (omega arith) c.read.ensures _ (ap outcome c.in-Ok.is) c.write_rows.ensures
