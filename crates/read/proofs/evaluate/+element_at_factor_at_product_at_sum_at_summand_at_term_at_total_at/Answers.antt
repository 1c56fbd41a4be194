-- The readers call each other: what is left of the text falls, or stays and the rank does.
-- Assumes nothing.
use mathlib.Core.Path.{◌≡◌, refl, sym, ◌∙◌}
use Rattle.std.specs.Prelude.{None}
use native.Mathlib.Omega.{arith}
use Rattle.read.specs.internal.Parts.{Opens}
use Rattle.read.proofs.ByteLaws.{byte_inside, no-open}
use Rattle.read.proofs.ElementLaws.{element-waits, bracket-lost, element-bracket}
use Rattle.read.proofs.RunLaws.{some-lead, element-held, term-held, term-first, star-next, times-lost, times-value, times-high, term-copied, sum_first, sign-next, join-lost, join-value, sum-copied, sum-started}
use Rattle.read.proofs.evaluate.+element_at_factor_at_product_at_sum_at_summand_at_term_at_total_at.Goals as goal

pub element_at-sum_at-requires : goal.element_at-sum_at-requires
element_at-sum_at-requires t c =
    let l = byte_inside _ _ _ (sym c.has_byte.ensures ∙ c.if-has_byte.true) in
    let d = c.look-q.ensures in
    (omega (arith, d.later), (omega arith, c.requires.1, c.requires.2))

pub element_at-returns-in_err-inside : goal.element_at-returns-in_err-inside
element_at-returns-in_err-inside t c =
    let the-args = c.args in
    let e : c.from_residual.result ≡ None = cc in
    rw e (bracket-lost the-args.ring.p the-args.ring.n _ _ _ c.look-q.ensures (sym c.has_byte.ensures ∙ c.if-has_byte.true) c.sum_at.new.out c.in_err-inside.ensures)

pub element_at-returns-in_ok-inside : goal.element_at-returns-in_ok-inside
element_at-returns-in_ok-inside t c =
    let the-args = c.args in element-bracket the-args.ring.p the-args.ring.n _ _ _ c.look-q.ensures (sym c.has_byte.ensures ∙ c.if-has_byte.true) _ _ c.in_ok-inside.ensures _ c.closed.ensures

pub element_at-returns-else-has_byte : goal.element_at-returns-else-has_byte
element_at-returns-else-has_byte t c =
    let the-args = c.args in let d = c.look-q.ensures in
    element-waits the-args.ring.p the-args.ring.n _ _ _ d c.simple_at.result c.simple_at.new.out (c.simple_at.ensures d.solid (no-open _ _ (sym c.has_byte.ensures ∙ c.if-has_byte.false)))

pub factor_at-returns-then-at-place : goal.factor_at-returns-then-at-place
factor_at-returns-then-at-place t c =
    let the-args = c.args in element-held the-args.ring.p the-args.ring.n _ _ _ c.copy.ensures _ _ the-args.held c.if-at-place.true c.requires.2

pub product_at-loop-next-init : goal.product_at-loop-next-init
product_at-loop-next-init t c =
    let the-args = c.args in (c.power.auto.out ∙ c.factor_at.auto.out, refl, term-first the-args.ring.p the-args.ring.n the-args.text.now the-args.at _ _ (c.in_ok-run.ensures the-args.at c.in_ok-first.ensures))

pub product_at-factor_at-requires-in-Some : goal.product_at-factor_at-requires-in-Some
product_at-factor_at-requires-in-Some t c =
    let i = c.loop-next.invariant in
    let w = star-next c.args.text.now _ _ c.in-Some.ensures in
    let q = c.requires.0 in
    (omega (arith, w.later, i.2.went.later), ((w.fits, q.1, omega (arith, i.1, c.args.ring.bounds.3)), q.2, c.requires.1))

pub product_at-returns-in_err-element : goal.product_at-returns-in_err-element
product_at-returns-in_err-element t c =
    let the-args = c.args in
    let e : c.from_residual-in_err-element.result ≡ None = cc in
    rw e (times-lost the-args.ring.p the-args.ring.n the-args.text.now the-args.at _ _ c.loop-next.invariant.2 _ c.in-Some.ensures c.in_err-element.ensures)

pub product_at-returns-in_err-power : goal.product_at-returns-in_err-power
product_at-returns-in_err-power t c =
    let the-args = c.args in
    let e : c.from_residual-in_err-power.result ≡ None = cc in
    rw e (times-lost the-args.ring.p the-args.ring.n the-args.text.now the-args.at _ _ c.loop-next.invariant.2 _ c.in-Some.ensures (c.in_err-power.ensures c.in-Some.next c.in_ok-element.ensures))

pub product_at-returns-in_err-rows : goal.product_at-returns-in_err-rows
product_at-returns-in_err-rows t c =
    let the-args = c.args in
    let h = c.loop-next.invariant.2 in
    let f = c.in_ok-power.ensures c.in-Some.next c.in_ok-element.ensures in
    let e : c.from_residual-in_err-rows.result ≡ None = cc in
    rw e (times-high the-args.ring.p the-args.ring.n the-args.text.now the-args.at _ _ h _ c.in-Some.ensures _ _ f (c.in_err-rows.ensures.1 _ _ h.stored f.stored))

pub product_at-loop-next-preserved : goal.product_at-loop-next-preserved
product_at-loop-next-preserved t c =
    let the-args = c.args in
    let i = c.loop-next.invariant in
    let f = c.in_ok-power.ensures c.in-Some.next c.in_ok-element.ensures in
    (c.multiply.auto.out ∙ i.0, c.power-in-Some.auto.out ∙ c.factor_at-in-Some.auto.out ∙ i.1, times-value the-args.ring.p the-args.ring.n the-args.text.now the-args.at _ _ i.2 _ c.in-Some.ensures _ _ f _ _ (c.in_ok-rows.ensures.1 _ _ i.2.stored f.stored))

pub product_at-returns : goal.product_at-returns
product_at-returns t c =
    let the-args = c.args in (term-copied the-args.ring.p the-args.ring.n the-args.text.now c.loop-next.product _ c.copy.ensures the-args.at _ c.loop-next.invariant.2, sym c.in_default.ensures)

pub sum_at-returns : goal.sum_at-returns
sum_at-returns t c =
    let the-args = c.args in let d = c.start_at-start.ensures in
    sum-started the-args.ring.p the-args.ring.n _ _ _ d _ _ (c.total_at.ensures d.leads d.negative)

pub summand_at-returns-then-at-place : goal.summand_at-returns-then-at-place
summand_at-returns-then-at-place t c =
    let the-args = c.args in term-held the-args.ring.p the-args.ring.n _ _ _ c.copy.ensures _ _ the-args.held c.if-at-place.true c.requires.2

pub total_at-loop-sign-init : goal.total_at-loop-sign-init
total_at-loop-sign-init t c =
    let the-args = c.args in (c.lead.auto.out ∙ c.summand_at.auto.out, refl, λ l e. sum_first the-args.ring.p the-args.ring.n the-args.text.now the-args.at l _ c.summand_at.new.out c.lead.new.out c.in_ok-run.ensures (λ f rows h. c.lead.ensures f rows l e h))

pub total_at-summand_at-requires-in-Some : goal.total_at-summand_at-requires-in-Some
total_at-summand_at-requires-in-Some t c =
    let i = c.loop-sign.invariant in
    let s = some-lead c.args.minus in
    let w = sign-next c.args.text.now _ _ _ (sym c.in-Some.ensures) in
    let q = c.requires.0 in
    (omega (arith, w.later, (i.2 s.is s.code).went.later), ((w.fits, q.1, omega (arith, i.1, c.args.ring.bounds.3)), q.2, c.requires.1))

pub total_at-returns-in_err-part : goal.total_at-returns-in_err-part
total_at-returns-in_err-part t c =
    let the-args = c.args in
    let e : c.from_residual-in_err-part.result ≡ None = cc in
    rw e (λ l m. join-lost the-args.ring.p the-args.ring.n the-args.text.now the-args.at (Opens l) _ _ (c.loop-sign.invariant.2 l m) _ _ (sym c.in-Some.ensures) c.in_err-part.ensures)

pub total_at-loop-sign-preserved : goal.total_at-loop-sign-preserved
total_at-loop-sign-preserved t c =
    let the-args = c.args in
    let i = c.loop-sign.invariant in
    (c.join-rows.auto.out ∙ i.0, c.summand_at-in-Some.auto.out ∙ i.1, λ l m. join-value the-args.ring.p the-args.ring.n the-args.text.now the-args.at (Opens l) _ _ (i.2 l m) _ _ (sym c.in-Some.ensures) _ _ c.in_ok-part.ensures _ _ c.join-rows.ensures)

pub total_at-returns : goal.total_at-returns
total_at-returns t c =
    let the-args = c.args in λ l e. (sum-copied the-args.ring.p the-args.ring.n the-args.text.now c.loop-sign.total _ c.copy.ensures (Opens l) the-args.at _ (c.loop-sign.invariant.2 l e), sym c.in_default.ensures)
