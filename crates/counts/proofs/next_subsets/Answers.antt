-- `counts::next_subsets` meets its contract.
-- Assumes nothing.
use Prim.Native.Nat.{◌+◌, ◌*◌, ◌-◌, ◌/◌}
use native.Mathlib.Omega.{arith}
use mathlib.Core.Path.{sym, ◌∙◌, ap}
use Rattle.counts.proofs.SubsetsLaws.{subsets-past, subsets-next}
use Rattle.counts.proofs.next_subsets.Goals as goal

pub returns-then-n-i : goal.returns-then-n-i
returns-then-n-i c = sym (subsets-past _ _ (omega arith))

pub returns-else-n-i : goal.returns-else-n-i
returns-else-n-i c = let a = c.args in ap (λ x. x * (a.n - a.i) / (a.i + 1)) c.requires.1 ∙ subsets-next a.n a.i
