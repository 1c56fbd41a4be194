-- `read::values::top_rows` meets its contract.
-- Assumes nothing.
use mathlib.Core.Path.{sym, ◌∙◌}
use native.Mathlib.Omega.{arith}
use Rattle.read.proofs.ValueLaws.{top-less}
use Rattle.read.proofs.values.top_rows.Goals as goal

pub loop-r-preserved : goal.loop-r-preserved
loop-r-preserved c =
    let a = c.args in
    top-less a.n a.total c.loop-r.r a.s.now (omega arith) (omega arith) (sym c.zero_row.ensures ∙ c.if-not-zero_row.false) c.loop-r.invariant
