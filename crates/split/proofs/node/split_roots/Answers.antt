-- `split::node::split_roots` meets its contract.
-- Assumes nothing.
use mathlib.Core.Path.{sym, ◌∙◌}
use native.Mathlib.Omega.{arith}
use lib.Seq.{length-take-le}
use Rattle.numbers.proofs.WordsLaws.{length_from, from-below}
use Rattle.solution.proofs.NodeLaws.{node-start, node-split, node-rows, lines-drop}
use Rattle.split.proofs.node.split_roots.Goals as goal

pub product_of-requires : goal.product_of-requires
product_of-requires c =
    let a = c.args in
    let r = c.requires.0 in
    let high = r.high in
    (r.prime.two-le, r.small, omega (arith, length_from a.c.now a.m, c.requires.2), from-below a.p a.c.now a.m r.below)

pub slice_bounds-split_by-end : goal.slice_bounds-split_by-end
slice_bounds-split_by-end c =
    let a = c.args in
    let high = c.requires.0.high in
    sym (length-take-le a.m a.c.now (omega arith))

pub split_by-requires : goal.split_by-requires
split_by-requires c =
    let a = c.args in
    let r = c.requires.0 in
    let l = c.requires.1 in
    let hi = lines-drop a.p a.c.now _ a.m c.product_of.ensures in (
      node-start r.prime a.c.now a.m r _ hi,
      record {
        width = l.width;
        from_low = l.from_low;
        from-high = l.from-high;
        terms-high = l.terms-high;
        long = l.long ∙ sym (node-rows r.prime a.c.now a.m r _ hi a.n);
        below = l.below;
      },
    )

pub returns : goal.returns
returns c =
    let a = c.args in
    let r = c.requires.0 in
    let hi = lines-drop a.p a.c.now _ a.m c.product_of.ensures in
    node-split r.prime a.c.now a.m r _ hi a.n a.w a.rows.now _ c.split_by.ensures
