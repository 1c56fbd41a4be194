-- `series::least_power` meets its contract.
-- Assumes nothing.
use mathlib.Core.Path.{ap, ◌∙◌}
use native.Mathlib.Nat.{mul-one}
use Rattle.numbers.specs.Words.{word}
use Rattle.numbers.proofs.WordsLaws.{nonzero-ext}
use Rattle.series.proofs.least_power.Goals as goal

pub returns : goal.returns
returns c = c.first_nonzero.ensures ∙ nonzero-ext _ (λ k _. ap (word c.args.s.now) (mul-one k))
