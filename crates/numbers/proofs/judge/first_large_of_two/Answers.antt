-- `numbers::judge::first_large_of_two` meets its contract.
-- Assumes nothing.
use mathlib.Core.Path.{◌≡◌, ◌∙◌, sym, ap₂}
use Prim.Native.Nat.{◌+◌, ◌≤◌}
use native.Mathlib.Omega.{arith}
use lib.ListN.{length}
use Rattle.numbers.specs.Words.{first_large}
use Rattle.numbers.proofs.WordsLaws.{large-first, large-second, large-le}
use Rattle.numbers.proofs.judge.first_large_of_two.Goals as goal

pub returns-then-i-f : goal.returns-then-i-f
returns-then-i-f c =
    let a = c.args in
    let e = c.first_large-i.ensures in
    e ∙ sym (large-first a.p a.f.now a.g.now (omega arith))

pub overflow_add-result : goal.overflow_add-result
overflow_add-result c =
    let a = c.args in
    omega (arith, large-le a.p a.f.now, large-le a.p a.g.now, c.first_large-i.ensures, c.first_large.ensures)

pub returns-else-i-f : goal.returns-else-i-f
returns-else-i-f c =
    let a = c.args in
    let e = c.first_large-i.ensures in
    let h : length a.f.now ≤ first_large a.p a.f.now = omega arith in
    ap₂ ◌+◌ (let z : c.first_large-i.result ≡ length a.f.now = omega (arith, large-le a.p a.f.now) in z) c.first_large.ensures
    ∙ sym (large-second a.p a.f.now a.g.now h)
