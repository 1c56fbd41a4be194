-- `text::put_head` meets its contract: one piece after another, by the header that was read.
-- Assumes nothing.
use native.Mathlib.Omega.{arith}
use Rattle.text.specs.Text.{head_line}
use Rattle.text.proofs.TextLaws.{puts_then, puts-as}
use Rattle.text.proofs.put_head.Goals as goal

pub returns : goal.returns
unfolding head_line
returns c =
    let h = c.read_header-h.ensures in
    let line = puts_then c.put_named-after_terms.ensures (puts_then c.put_named-after_degree.ensures (puts_then c.put_named-after_count.ensures c.put.ensures)) in
    puts-as _ _ (puts_then c.put_named-after_mod.ensures line) (simp (h.p-is, h.terms-is, h.degree-is, h.count-is)) (omega arith)
