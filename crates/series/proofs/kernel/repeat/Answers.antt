-- `series::kernel::repeat` meets its contract.
-- Assumes nothing.
use mathlib.Core.Path.{◌≡◌, refl, sym, ap, ◌∙◌}
use mathlib.Core.List.{List, ◌∷◌}
use Prim.Native.Nat.{ℕ, zero, suc}
use lib.ListN.{replicate}
use Rattle.numbers.specs.Words.{tabulate}
use Rattle.numbers.proofs.WordsLaws.{tabulate-front}
use Rattle.series.proofs.kernel.repeat.Goals as goal

-- one word, n times
replicate-is : (n x : ℕ) → replicate n x ≡ tabulate n (λ _. x)
unfolding tabulate
replicate-is zero x = refl
replicate-is (suc n) x = ap (λ (l : List ℕ). x ∷ l) (replicate-is n x) ∙ sym (tabulate-front n (λ _. x))

pub returns : goal.returns
returns c = c.fill.ensures.after (λ y e. e) ∙ replicate-is _ c.args.x
