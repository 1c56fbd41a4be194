-- `solution::digit` meets its contract.
-- Assumes nothing.
use mathlib.Core.Path.{sym, ◌∙◌}
use native.Mathlib.Omega.{arith}
use Rattle.solution.proofs.DigitsLaws.{copied, prepare-ready, scratch-long, inverse-small, rest-long, rest_below, digit-is}
use Rattle.solution.proofs.digit.Goals as goal

pub prepare-inverse-requires : goal.prepare-inverse-requires
prepare-inverse-requires c =
    let a = c.args in
    let r = c.requires in
    let x = prepare-ready r.0 a.c a.a.now r.3 r.7 r.9 _ (copied a.a.now a.b.now _ r.6 c.load_column.ensures) in
    (r.0, r.1, r.2, x.0, x.1, x.2)

pub digit-requires : goal.digit-requires
digit-requires c =
    let a = c.args in
    let r = c.requires in
    let q = copied a.a.now a.b.now _ r.6 c.load_column.ensures in
    let n = rest-long r.0 a.c a.a.now r.3 r.7 r.9 _ _ q c.prepare-inverse.ensures.words _ c.prepare-inverse.ensures.inverse in (
      let two = r.0.two-le in omega arith,
      r.1,
      r.2,
      inverse-small r.0 a.c a.a.now r.3 r.7 r.9 _ _ q c.prepare-inverse.ensures.words _ c.prepare-inverse.ensures.inverse,
      omega (arith, n),
      rest_below r.0 a.c a.a.now r.3 r.7 r.9 _ _ q c.prepare-inverse.ensures.words _ c.prepare-inverse.ensures.inverse,
      r.8,
    )

pub returns : goal.returns
returns c =
    let a = c.args in
    let r = c.requires in
    let q = copied a.a.now a.b.now _ r.6 c.load_column.ensures in
    record { scratch = scratch-long r.0 a.c a.a.now r.3 r.7 r.9 _ _ q c.prepare-inverse.ensures.words _ c.prepare-inverse.ensures.inverse ∙ sym r.6; is = digit-is r.0 a.c a.a.now r.3 r.7 r.9 _ _ q c.prepare-inverse.ensures.words _ c.prepare-inverse.ensures.inverse a.e.now _ r.5 c.digit.ensures }
