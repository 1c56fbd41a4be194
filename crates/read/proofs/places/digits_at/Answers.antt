-- `read::places::digits_at` meets its contract.
-- Assumes nothing.
use mathlib.Core.Path.{◌≡◌, sym, ap, ◌∙◌}
use Prim.Native.Nat.{ℕ, ◌+◌, ◌-◌, ◌*◌}
use native.Mathlib.Omega.{arith}
use lib.ListN.{length, drop}
use Rattle.std.specs.Prelude.{Some}
use Rattle.formula.specs.internal.Scan.{kind_at, scan}
use Rattle.formula.proofs.PlaceLaws.{kind-inside, kind-outside}
use Rattle.read.specs.internal.Places.{digit_of}
use Rattle.read.proofs.NumberLaws.{digit-nine, ten-step, ten-small, counts-on, counts-over}
use Rattle.read.proofs.places.digits_at.Goals as goal

pub returns-in_default : goal.returns-in_default
returns-in_default c =
    let i = c.loop-q.invariant in
    record { count = c.loop-q.q - c.args.at + 1; passes = i.2; stops = ap digit_of (kind-inside _ _ c.loop-q-test.true) ∙ sym c.in_default.ensures; later = omega arith; fits = omega arith }

pub returns-then-q-at : goal.returns-then-q-at
returns-then-q-at c =
    let l = c.loop-q in
    λ m h f r. counts-over _ _ m h _ _ _ f (ap digit_of (kind-inside _ _ c.loop-q-test.true) ∙ sym c.in-Some.ensures) c.if-q-at.true (sym (l.invariant.2 m h) ∙ r)

pub overflow_mul-value : goal.overflow_mul-value
overflow_mul-value c =
    let l = c.loop-q in
    let i = l.invariant in
    let s = ten-small (l.q - c.args.at + 1) (omega (arith, i.0)) in
    omega (arith, i.1)

pub overflow_add-value : goal.overflow_add-value
overflow_add-value c =
    let l = c.loop-q in
    let i = l.invariant in
    let s = ten-small (l.q - c.args.at + 1) (omega (arith, i.0)) in
    let k = digit-nine _ _ _ (ap digit_of (kind-inside _ _ c.loop-q-test.true) ∙ sym c.in-Some.ensures) in
    omega (arith, i.1)

pub loop-q-preserved : goal.loop-q-preserved
loop-q-preserved c =
    let s = c.args.text.now in
    let l = c.loop-q in
    let i = l.invariant in
    let j = l.q - c.args.at + 1 in
    let n : l.q + 1 - c.args.at + 1 ≡ j + 1 = omega arith in
    let here : digit_of (kind_at s l.q) ≡ Some c.in-Some.k = ap digit_of (kind-inside _ _ c.loop-q-test.true) ∙ sym c.in-Some.ensures in
    let k = digit-nine _ _ _ here in
    let e = ten-step j in
    (omega (arith, i.0), rw n (omega (arith, i.1)), λ m h. i.2 m h ∙ counts-on _ _ m h _ _ _ here (omega (arith, i.0)) ∙ ap (λ (x : ℕ). scan (m x (l.value * 10 + c.in-Some.k)) (drop (l.q + 1) s)) (sym n))

pub returns : goal.returns
returns c =
    let s = c.args.text.now in
    let l = c.loop-q in
    let end : l.q ≡ length s = omega arith in
    record {
      count = length s - c.args.at + 1;
      passes = λ m h. l.invariant.2 m h ∙ ap (λ (q : ℕ). scan (m (q - c.args.at + 1) l.value) (drop q s)) end;
      stops = ap digit_of (kind-outside _ _ (omega arith));
      later = omega arith;
      fits = omega arith;
    }
