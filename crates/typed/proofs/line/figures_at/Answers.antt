-- `typed::line::figures_at` meets its contract. The loop's invariant: digits stand from the place up to `at`, for `value`.
-- Assumes nothing.
use Prim.Native.Nat.{◌+◌, ◌-◌, ◌*◌}
use mathlib.Core.Path.{◌≡◌, sym, ap, ap₂, ◌∙◌, subst}
use native.Mathlib.Omega.{arith}
use Rattle.std.specs.Prelude.{Option}
use lib.ListN.{length, drop}
use Rattle.typed.specs.declared.line.Number.{Number}
use Rattle.typed.specs.internal.Line.{figures, NumberAt}
use Rattle.typed.proofs.LineLaws.{figures-go, figures-none, figures-full, figures-end, number-told, ten-step, ten-small}
use Rattle.typed.proofs.line.figures_at.Goals as goal
use Rattle.typed.proofs.line.figures_at.Goals.{then-not-is_ascii_digit-via-then-not-is_ascii_digit, then-not-is_ascii_digit-via-else-not-is_ascii_digit+then-at-from}

pub returns-then-not-is_ascii_digit : goal.returns-then-not-is_ascii_digit
returns-then-not-is_ascii_digit c =
    let s = c.args.input.now in
    let l = c.loop-at in
    let k = l.at - c.args.from in
    let f = figures 0 0 (drop c.args.from s) in
    subst (λ (x : Option Number). NumberAt f s x) (sym c.told.ensures)
    (elim c.then-not-is_ascii_digit.branch [
      | then-not-is_ascii_digit-via-then-not-is_ascii_digit w ↦ number-told s l.at l.value k c.args.from f l.invariant.2 (figures-none s l.at l.value k (omega arith) w.if-not-is_ascii_digit.ensures.cases) (omega arith) (omega arith)
      | then-not-is_ascii_digit-via-else-not-is_ascii_digit+then-at-from w ↦
          let d = w.if-not-is_ascii_digit.ensures.cases in
          number-told s l.at l.value k c.args.from f l.invariant.2 (figures-full s l.at l.value k (omega arith) (omega arith) (omega arith) (omega arith)) (omega arith) (omega arith)
    ])

pub overflow_mul-value : goal.overflow_mul-value
overflow_mul-value c = let z = ten-small (c.loop-at.at - c.args.from) (omega arith) in omega arith

pub overflow_add-value : goal.overflow_add-value
overflow_add-value c = let z = ten-small (c.loop-at.at - c.args.from) (omega arith) in let d = c.if-not-is_ascii_digit.ensures.cases in omega arith

pub loop-at-preserved : goal.loop-at-preserved
loop-at-preserved c =
    let s = c.args.input.now in
    let l = c.loop-at in
    let k = l.at - c.args.from in
    let d = c.if-not-is_ascii_digit.ensures.cases in
    let e = ten-step k in
    let n : l.at + 1 - c.args.from ≡ k + 1 = omega arith in (
      omega arith,
      rw n (omega arith),
      l.invariant.2 ∙ figures-go s l.at l.value k (omega arith) (omega arith) (omega arith) (omega arith)
          ∙ ap₂ (λ x i. figures (l.value * 10 + x) i (drop (l.at + 1) s)) (sym c.from.ensures) (sym n),
    )

pub returns : goal.returns
returns c =
    let s = c.args.input.now in
    let from = c.args.from in
    let l = c.loop-at in
    let end : l.at ≡ length s = omega arith in
    subst (λ (x : Option Number). NumberAt (figures 0 0 (drop from s)) s x) (sym c.told-2.ensures)
    (number-told s (length s) l.value (length s - from) from (figures 0 0 (drop from s)) (l.invariant.2 ∙ ap (λ q. figures l.value (q - from) (drop q s)) end) (figures-end s (length s) l.value _ (omega arith)) (omega arith) (omega arith))
