-- `read::values::multiply` meets its contract.
-- Assumes nothing.
use lib.ListN.{replicate}
use Rattle.read.proofs.ValueLaws.{product_high, product-kept, zero-array}
use Rattle.read.proofs.values.multiply.Goals as goal

pub returns-then-count-gt-MOST_ROWS : goal.returns-then-count-gt-MOST_ROWS
returns-then-count-gt-MOST_ROWS c =
    let a = c.args in
    let q = c.requires in
    let b = a.ring.bounds in
    (tt, λ f h sf sh. product_high a.ring.p a.ring.n a.rows a.grows f h _ _ c.reduce.new.out c.reduce-2.new.out (replicate 16640 0) _ b.0 b.2 q.2 q.4 c.reduce.ensures c.reduce-2.ensures sf sh c.multiply.ensures (zero-array 16640) _ c.top_rows-count.ensures c.if-count-gt-MOST_ROWS.true)

pub returns : goal.returns
returns c =
    let the-if1 = c.if-count-gt-MOST_ROWS in
    let a = c.args in
    let q = c.requires in
    let b = a.ring.bounds in
    ((c.top_rows-count.ensures.some, the-if1.false), λ f h sf sh. product-kept a.ring.p a.ring.n a.rows a.grows f h _ _ c.reduce.new.out c.reduce-2.new.out (replicate 16640 0) _ b.0 b.2 q.2 q.4 c.reduce.ensures c.reduce-2.ensures sf sh c.multiply.ensures (zero-array 16640) _ c.top_rows-count.ensures _ the-if1.false c.copy.ensures)
