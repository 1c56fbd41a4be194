-- `read::places::exponent_at` meets its contract.
-- Assumes nothing.
use mathlib.Core.Path.{sym, subst}
use native.Mathlib.Omega.{arith}
use Rattle.std.specs.Prelude.{Option}
use Rattle.read.specs.declared.Number.{Number}
use Rattle.read.specs.internal.Places.{Exponent}
use Rattle.read.proofs.NumberLaws.{digit-inside, digit-nine, exponent-none, exponent-many, exponent-large, exponent-value}
use Rattle.read.proofs.places.exponent_at.Goals as goal

pub returns-in_err-d : goal.returns-in_err-d
returns-in_err-d c = subst (λ (x : Option Number). Exponent c.args.text.now c.args.at x) (sym c.from_residual.ensures) (exponent-none _ _ _ c.look-q.ensures (sym c.in_err-d.ensures))

pub digits_at-requires : goal.digits_at-requires
digits_at-requires c =
    let l = digit-inside _ _ _ (sym c.in_ok-d.ensures) in
    let k = digit-nine _ _ _ (sym c.in_ok-d.ensures) in
    omega arith

pub returns-in_err-r : goal.returns-in_err-r
returns-in_err-r c = subst (λ (x : Option Number). Exponent c.args.text.now c.args.at x) (sym c.from_residual-in_err-r.ensures) (exponent-many _ _ _ c.look-q.ensures _ (sym c.in_ok-d.ensures) c.in_err-r.ensures)

pub returns-then-r-le-LARGEST_POWER : goal.returns-then-r-le-LARGEST_POWER
returns-then-r-le-LARGEST_POWER c = exponent-value _ _ _ c.look-q.ensures _ (sym c.in_ok-d.ensures) _ c.in_ok-r.ensures c.if-r-le-LARGEST_POWER.true _ c.look.ensures

pub returns-else-r-le-LARGEST_POWER : goal.returns-else-r-le-LARGEST_POWER
returns-else-r-le-LARGEST_POWER c = exponent-large _ _ _ c.look-q.ensures _ (sym c.in_ok-d.ensures) _ c.in_ok-r.ensures c.if-r-le-LARGEST_POWER.false
