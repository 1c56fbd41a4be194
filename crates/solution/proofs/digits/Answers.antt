-- `solution::digits` meets its contract.
-- Assumes nothing.
use mathlib.Core.Path.{◌∙◌}
use native.Mathlib.Omega.{arith}
use Rattle.numbers.proofs.WordsLaws.{length_from, from-below}
use Rattle.solution.proofs.DigitsLaws.{digits-none, digits_step}
use Rattle.solution.proofs.digits.Goals as goal

pub loop-l-init : goal.loop-l-init
loop-l-init c = digits-none _ _ _ _ c.requires.8

pub digit-requires : goal.digit-requires
digit-requires c =
    let a = c.args in
    let r = c.requires in
    let l = c.loop-l in (
      r.0,
      omega arith,
      r.6 l.l (omega arith),
      omega arith,
      omega arith,
      omega (arith, length_from l.e l.l),
      l.auto.b ∙ r.5,
      r.7,
      from-below a.p l.e l.l l.invariant.below,
      r.9 l.l (omega arith),
    )

pub loop-l-preserved : goal.loop-l-preserved
loop-l-preserved c =
    let a = c.args in
    let l = c.loop-l in
    digits_step a.p a.c.now a.a.now l.l a.e.now l.e _ (omega arith) l.invariant c.digit.ensures.is
