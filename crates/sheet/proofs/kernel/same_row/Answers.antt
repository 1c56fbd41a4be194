-- `sheet::kernel::same_row` meets its contract.
-- Assumes nothing.
use native.Mathlib.Omega.{arith}
use mathlib.Core.Path.{◌≡◌, refl}
use borrow.Author.Rules.{rules}
use borrow.Author.Tests.{tests}
use lib.ListN.{length}
use Rattle.std.proofs.lemmas.Iterator.{cases_from_all, YieldsList-from_range}
use Rattle.numbers.specs.Words.{word, up_to}
use Rattle.front.proofs.EachLaws.{decides_each}
use Rattle.sheet.proofs.kernel.same_row.Goals as goal

pub returns : goal.returns
returns c =
    let s = c.args.stored.now in
    let f = up_to c.args.k (word c.args.computed.now) in
    let d = decides_each 0 (length s) (λ t. word s t ≡ f t) _ (cases_from_all _ _ _ (λ t. word s t ≡ f t) (λ t. word s t ≡ f t → ⊥) c.all.ensures.ran (YieldsList-from_range 0 (length s) _ refl refl) (λ x q k. (search rules, grind (arith, tests))) (λ x q k. grind (arith, tests))) in
    record { yes = λ e t l. d.yes e t (omega arith) l; no = λ e h. d.no e (λ t _ l. h t l) }
