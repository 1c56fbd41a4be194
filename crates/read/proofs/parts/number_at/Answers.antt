-- `read::parts::number_at` meets its contract.
-- Assumes nothing.
use mathlib.Core.Path.{◌≡◌}
use Rattle.std.specs.Prelude.{None}
use Rattle.read.proofs.NumberLaws.{number-value, number-none}
use Rattle.read.proofs.parts.number_at.Goals as goal

pub returns-in_err-r : goal.returns-in_err-r
returns-in_err-r c =
    let a = c.args in
    let e : c.from_residual.result ≡ None = cc in
    rw e (number-none a.ring.p a.ring.n a.text.now a.at a.d c.in_err-r.ensures)

pub returns : goal.returns
returns c =
    let a = c.args in
    number-value a.ring.p a.ring.n a.text.now a.at a.d _ _ c.in_ok-r.ensures c.set_number.ensures
