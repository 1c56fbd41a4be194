-- `front::roots_below` meets its contract.
-- Assumes nothing.
use Prim.Native.Nat.{◌<◌}
use native.Mathlib.Omega.{arith}
use mathlib.Core.Path.{refl}
use borrow.Author.Rules.{rules}
use borrow.Author.Tests.{tests}
use Rattle.std.proofs.lemmas.Iterator.{cases_from_all, YieldsList-from_range}
use Rattle.layout.specs.Layout.{root}
use Rattle.front.proofs.EachLaws.{decides_each}
use Rattle.front.proofs.roots_below.Goals as goal

pub returns : goal.returns
returns c =
    let a = c.args in
    let d = decides_each 0 a.r (λ i. root a.s.now i < a.p) _ (cases_from_all _ _ _ (λ i. root a.s.now i < a.p) (λ i. root a.s.now i < a.p → ⊥) c.all.ensures.ran (YieldsList-from_range 0 a.r _ refl refl) (λ x q k. (search rules, grind (arith, tests))) (λ x q k. grind (arith, tests))) in
    record { yes = λ t i l. d.yes t i (omega arith) l; no = λ f h. d.no f (λ i _ l. h i l) }
