-- `powers::divide_out` meets its contract. The loop's invariant: Y − c is divided out a − at times.
-- Assumes nothing.
use mathlib.Core.Path.{◌≡◌, ◌∙◌, sym}
use native.Mathlib.Omega.{arith}
use Rattle.numbers.proofs.WordsLaws.{length_from, from-below}
use Rattle.powers.proofs.PowersLaws.{divided-none, divided-step}
use Rattle.powers.proofs.divide_out.Goals as goal

pub loop-a-init : goal.loop-a-init
loop-a-init c = divided-none c.args.p c.args.c c.args.at c.args.e.now c.requires.3 c.requires.4

pub horner-requires : goal.horner-requires
horner-requires c =
    let l = c.loop-a in
    (c.requires.0, c.requires.1, c.requires.2, omega (arith, length_from l.e l.a, l.invariant.long), from-below c.args.p l.e l.a l.invariant.below)

pub loop-a-preserved : goal.loop-a-preserved
loop-a-preserved c =
    let l = c.loop-a in
    let v = c.value in
    divided-step c.args.p c.args.c c.args.at c.args.e.now l.a l.e l.invariant (omega arith) (sym v.ensures ∙ (let z : v.result ≡ 0 = omega arith in z)) _ c.horner.ensures c.requires.0
