-- `open::opening::Lent::roots_of` meets its contract.
-- Assumes nothing.
use mathlib.Core.Path.{sym}
use Prim.Native.Nat.{◌+◌}
use lib.Seq.{length-take-le}
use Rattle.open.specs.internal.Opening.{unlisted_whole}
use Rattle.open.proofs.OpenChecksLaws.{rows_pass}
use Rattle.open.proofs.FirstColumnLaws.{lent_fits, lent-monic, roots-answer}
use borrow.Author.Rules.{rules}
use Rattle.open.proofs.opening.Lent.roots_of.Goals as goal

pub first_column-requires : goal.first_column-requires
first_column-requires c = let h = (rows_pass (unlisted_whole c.args.self) c.requires.0).polynomial in search (rules, h.degree-high, h.width_low, h.width-high, h.long)

pub slice_bounds-e-end : goal.slice_bounds-e-end
slice_bounds-e-end c = lent_fits (unlisted_whole c.args.self) _ _ c.first_column.ensures

pub slice_bounds-find_roots-end : goal.slice_bounds-find_roots-end
slice_bounds-find_roots-end c = sym (length-take-le (c.args.self.d + 1) _ (lent_fits (unlisted_whole c.args.self) _ _ c.first_column.ensures))

pub find_roots-requires : goal.find_roots-requires
find_roots-requires c = (lent-monic (unlisted_whole c.args.self) (rows_pass (unlisted_whole c.args.self) c.requires.0) _ _ c.first_column.ensures, c.requires.1, c.requires.2)

pub returns : goal.returns
returns c = roots-answer (unlisted_whole c.args.self) (rows_pass (unlisted_whole c.args.self) c.requires.0) _ _ c.first_column.ensures _ _ _ c.find_roots.ensures
