-- `open::opening::Lent::write_sheet` meets its contract.
-- Assumes nothing.
use Prim.Native.Nat.{◌+◌}
use native.Mathlib.Omega.{arith}
use Rattle.numbers.proofs.RefusalsLaws.{few_words}
use Rattle.open.specs.internal.Opening.{given}
use Rattle.open.proofs.SheetWritingLaws.{count_small, Begun, degree-small, roots-part, factors-part, sheet-written}
use Rattle.open.proofs.opening.Lent.write_sheet.Goals as goal
use Rattle.open.proofs.opening.Lent.write_sheet.Lts as step
use Rattle.open.proofs.opening.Lent.write_sheet.Reads as reads
use Rattle.open.proofs.opening.Lent.write_sheet.Tie as tie

-- what is known before the first word is written
begun : (b : step.After-factors_from tie.the-claims reads.Pre reads.Post) → Begun (given b.args.self) b.args.powers.now b.args.out.now b.args.total b.roots_from-first.result b.polynomial_from-polynomial.result b.factors_from-factors.result
begun b =
    record {
      ready = b.requires.0;
      long-rows = b.requires.1;
      long-lengths = b.requires.2;
      same = b.requires.3;
      total = b.requires.4;
      fits = b.requires.5;
      roots = b.roots_from-first.ensures;
      polynomial = b.polynomial_from-polynomial.ensures;
      factors = b.factors_from-factors.ensures;
    }

pub polynomial_from-polynomial-requires : goal.polynomial_from-polynomial-requires
polynomial_from-polynomial-requires c = (c.requires.0.degree-high, count_small (given c.args.self) c.args.powers.now c.requires.0)

pub factors_from-factors-requires : goal.factors_from-factors-requires
factors_from-factors-requires c = (c.requires.0.degree-high, c.requires.0.width-high, count_small (given c.args.self) c.args.powers.now c.requires.0)

pub write_front-requires : goal.write_front-requires
write_front-requires c =
    let h = c.requires.0 in
    let e = c.requires.4 in
    (h.degree-high, h.width-high, count_small (given c.args.self) c.args.powers.now c.requires.0, c.requires.2, omega arith)

pub write_roots-requires : goal.write_roots-requires
write_roots-requires c = (c.requires.3, count_small (given c.args.self) c.args.powers.now c.requires.0, roots-part (begun c.before.before.before.before.before.before.before) _ c.write_front.ensures)

pub offset_bounds-out-factors : goal.offset_bounds-out-factors
offset_bounds-out-factors c = let r = count_small (given c.args.self) c.args.powers.now c.requires.0 in omega (arith, few_words (c.args.self.d + 1) c.args.self.n (omega (arith, c.requires.0.degree-high)) c.requires.0.width-high, c.factors_from-factors.ensures, c.requires.0.degree-high)

pub write_factors-requires : goal.write_factors-requires
write_factors-requires c =
    let h = c.requires.0 in
    let small = h.small in
    let b = begun c.before.before.before.before.before.before.before.before.before.before.before.before.before.before.before.before.before in
    (h.prime.two-le, omega arith, h.splits.reduced, c.requires.3, degree-small b, h.width_low, h.width-high, factors-part b _ c.write_front.ensures _ c.write_roots.ensures _ c.copy.ensures)

pub returns : goal.returns
returns c = sheet-written (begun c.before.before.before.before.before.before.before.before.before.before.before.before.before.before.before.before.before.before.before.before) _ c.write_front.ensures _ c.write_roots.ensures _ c.copy.ensures _ c.write_factors.ensures
