-- `read::parts::power` meets its contract.
-- Assumes nothing.
use mathlib.Core.Path.{◌≡◌, sym, ◌∙◌}
use native.Mathlib.Omega.{arith}
use Rattle.std.specs.Prelude.{None}
use Rattle.formula.specs.Formula.{letter_x}
use Rattle.read.proofs.NumberLaws.{caret-inside, raise-plain, raise-none, raise-high, raise-value, power-read, power-lost}
use Rattle.read.proofs.parts.power.Goals as goal

pub returns-then-not-has_byte : goal.returns-then-not-has_byte
returns-then-not-has_byte c =
    let a = c.args in
    λ at h. power-read a.ring.p a.ring.n a.text.now at a.element _ h _ _ (raise-plain a.ring.p a.ring.n _ _ _ c.look-q.ensures h.tree _ _ (sym c.has_byte.ensures ∙ c.if-not-has_byte.true) h.stored h.low)

pub exponent_at-requires : goal.exponent_at-requires
exponent_at-requires c =
    let l = caret-inside 0 0 _ _ _ c.look-q.ensures letter_x (sym c.has_byte.ensures ∙ c.if-not-has_byte.false) in
    omega arith

pub returns-in_err-r : goal.returns-in_err-r
returns-in_err-r c =
    let a = c.args in
    let e : c.from_residual.result ≡ None = cc in
    rw e (λ at h. power-lost a.ring.p a.ring.n a.text.now at a.element _ h (raise-none a.ring.p a.ring.n _ _ _ c.look-q.ensures h.tree (sym c.has_byte.ensures ∙ c.if-not-has_byte.false) c.in_err-r.ensures))

pub returns-in_err-rows : goal.returns-in_err-rows
returns-in_err-rows c =
    let a = c.args in
    let e : c.from_residual-in_err-rows.result ≡ None = cc in
    rw e (λ at h. power-lost a.ring.p a.ring.n a.text.now at a.element _ h (raise-high a.ring.p a.ring.n _ _ _ c.look-q.ensures h.tree (sym c.has_byte.ensures ∙ c.if-not-has_byte.false) _ c.in_ok-r.ensures (c.in_err-rows.ensures _ h.stored)))

pub returns : goal.returns
returns c =
    let a = c.args in
    λ at h. power-read a.ring.p a.ring.n a.text.now at a.element _ h _ _ (raise-value a.ring.p a.ring.n _ _ _ c.look-q.ensures h.tree (sym c.has_byte.ensures ∙ c.if-not-has_byte.false) _ c.in_ok-r.ensures _ _ (c.in_ok-rows.ensures _ h.stored) h.low)
