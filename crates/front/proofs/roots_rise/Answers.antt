-- `front::roots_rise` meets its contract.
-- Assumes nothing.
use Prim.Native.Nat.{◌<◌, ◌+◌, ◌-◌}
use native.Mathlib.Omega.{arith}
use mathlib.Core.Path.{◌≡◌, refl, subst}
use borrow.Author.Rules.{rules}
use borrow.Author.Tests.{tests}
use Rattle.std.proofs.lemmas.Iterator.{cases_from_all, YieldsList-from_range}
use Rattle.layout.specs.Layout.{root}
use Rattle.front.proofs.EachLaws.{decides_each}
use Rattle.front.proofs.roots_rise.Goals as goal

pub returns : goal.returns
returns c =
    let a = c.args in
    let s = a.s.now in
    let d = decides_each 1 a.r (λ i. root s (i - 1) < root s i) _ (cases_from_all _ _ _ (λ i. root s (i - 1) < root s i) (λ i. root s (i - 1) < root s i → ⊥) c.all.ensures.ran (YieldsList-from_range 1 a.r _ refl refl) (λ x q k. (search rules, grind (arith, tests))) (λ x q k. grind (arith, tests))) in
    record {
      yes = λ t i l. subst (λ k. root s k < root s (i + 1)) (let e : i + 1 - 1 ≡ i = omega arith in e) (d.yes t (i + 1) (omega arith) l);
      no = λ f h. d.no f (λ i low l. subst (λ k. root s (i - 1) < root s k) (let e : i - 1 + 1 ≡ i = omega arith in e) (h (i - 1) (omega arith)));
    }
