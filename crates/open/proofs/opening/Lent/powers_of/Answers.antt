-- `open::opening::Lent::powers_of` meets its contract.
-- Assumes nothing.
use mathlib.Core.Path.{sym}
use Prim.Native.Nat.{◌+◌}
use native.Mathlib.Omega.{arith}
use lib.Seq.{length-take-le}
use Rattle.open.specs.internal.Opening.{whole}
use Rattle.open.proofs.OpenChecksLaws.{list-pass}
use Rattle.open.proofs.FirstColumnLaws.{lent_fits, lent-monic, powers-answer}
use borrow.Author.Rules.{rules}
use Rattle.open.proofs.opening.Lent.powers_of.Goals as goal

pub first_column-requires : goal.first_column-requires
first_column-requires c = let h = (list-pass (whole c.args.self) c.requires.0).rows.polynomial in search (rules, h.degree-high, h.width_low, h.width-high, h.long)

pub slice_bounds-e-end : goal.slice_bounds-e-end
slice_bounds-e-end c = lent_fits (whole c.args.self) _ _ c.first_column.ensures

pub slice_bounds-find_powers-end : goal.slice_bounds-find_powers-end
slice_bounds-find_powers-end c = sym (length-take-le (c.args.self.d + 1) _ (lent_fits (whole c.args.self) _ _ c.first_column.ensures))

pub find_powers-requires : goal.find_powers-requires
find_powers-requires c =
    let h = list-pass (whole c.args.self) c.requires.0 in
    let m = lent-monic (whole c.args.self) h.rows _ _ c.first_column.ensures in
    let some = m.some in
    (m.prime, m.small, h.rows.polynomial.roots-below, h.up, omega arith, omega arith, m.few, m.below, m.top)

pub returns : goal.returns
returns c =
    let h = list-pass (whole c.args.self) c.requires.0 in
    powers-answer (whole c.args.self) h.rows _ _ c.first_column.ensures h.up _ _ (omega arith) c.find_powers.ensures
