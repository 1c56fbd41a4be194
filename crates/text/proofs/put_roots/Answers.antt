-- `text::put_roots` meets its contract: line 1, and the rows of the series.
-- Assumes nothing.
use Rattle.text.proofs.SheetTextLaws.{roots-put}
use Rattle.text.proofs.put_roots.Goals as goal

pub returns : goal.returns
returns c =
    roots-put c.args.sheet.now c.args.series.now c.read_header-h.result c.read_header-h.ensures c.requires.0.count-high c.put_head-after_head.ensures c.put_rows.ensures
