-- `read::parts::simple_at` meets its contract.
-- Assumes nothing.
use mathlib.Core.Path.{◌≡◌, sym, ◌∙◌}
use native.Mathlib.Omega.{arith}
use Rattle.std.specs.Prelude.{None}
use Rattle.formula.specs.internal.Scan.{kind_of}
use Rattle.read.proofs.ByteLaws.{byte-there, no-x, no-y}
use Rattle.read.proofs.NumberLaws.{digit-kind, digit-inside, digit-nine}
use Rattle.read.proofs.ElementLaws.{element-number, element-x, element-y, element-none}
use Rattle.read.proofs.parts.simple_at.Goals as goal

pub number_at-requires : goal.number_at-requires
number_at-requires c =
    let q = c.requires in
    let l = digit-inside _ _ _ (sym c.in_ok-d.ensures) in
    let k = digit-nine _ _ _ (sym c.in_ok-d.ensures) in
    (omega arith, omega arith, q.1)

pub returns-then-has_byte : goal.returns-then-has_byte
unfolding kind_of
returns-then-has_byte c = λ b o. element-x _ _ _ _ _ (byte-there _ _ _ (sym c.has_byte.ensures ∙ c.if-has_byte.true)) c.set_x.ensures

pub returns-then-has_byte-2 : goal.returns-then-has_byte-2
unfolding kind_of
returns-then-has_byte-2 c = λ b o. element-y _ _ _ _ _ (byte-there _ _ _ (sym c.has_byte-else-has_byte.ensures ∙ c.if-has_byte-2.true)) c.set_y.ensures

pub returns-in_ok-d : goal.returns-in_ok-d
returns-in_ok-d c =
    let a = c.args in
    λ b o. element-number a.ring.p a.ring.n _ _ _ c.number_at.result c.number_at.new.out (digit-kind _ _ (sym c.in_ok-d.ensures)) c.number_at.ensures

pub returns-in_err-d : goal.returns-in_err-d
returns-in_err-d c =
    let e : c.from_residual.result ≡ None = cc in
    rw e (λ b o. element-none _ _ _ _ c.requires.0 (no-x _ _ (sym c.has_byte.ensures ∙ c.if-has_byte.false)) (no-y _ _ (sym c.has_byte-else-has_byte.ensures ∙ c.if-has_byte-2.false)) (sym c.in_err-d.ensures) b o)
