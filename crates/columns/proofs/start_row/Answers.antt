-- `columns::start_row` meets its contract.
-- Assumes nothing.
use mathlib.Core.Path.{ap, ◌∙◌}
use lib.ListN.{set}
use Rattle.columns.proofs.ColumnLaws.{first-only-set}
use Rattle.columns.proofs.start_row.Goals as goal

pub returns : goal.returns
returns c =
    ap (λ s. set s 0 c.args.first) c.repeat.ensures ∙ first-only-set _ _ c.requires
