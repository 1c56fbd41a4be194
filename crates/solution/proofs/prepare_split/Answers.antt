-- `solution::prepare_split` meets its contract.
-- Assumes nothing.
use native.Mathlib.Omega.{arith}
use Rattle.solution.proofs.NodeLaws.{bases, node-first}
use borrow.Author.Rules.{rules}
use Rattle.solution.proofs.prepare_split.Goals as goal

pub first_solution-requires : goal.first_solution-requires
first_solution-requires c =
    let h = c.requires.0 in
    let low = h.low in
    let high = h.high in
    let room = h.room in
    (h.prime, h.small, low, high, omega arith, omega arith, c.requires.2, h.c-below, h.A-below, h.values)

pub fill_table-requires : goal.fill_table-requires
fill_table-requires c =
    let h = c.requires.0 in
    let a = c.args in
    let f = node-first h.prime a.c.now a.a0.now h _ c.product_of.ensures _ c.first_solution.ensures.is in
    (bases h.prime a.c.now a.a0.now h _ c.product_of.ensures, f.0, f.1, c.requires.4, f.2)

pub returns : goal.returns
returns c = record { lines = c.product_of.ensures; size = search rules; scratch = search rules; is = c.fill_table.ensures }
