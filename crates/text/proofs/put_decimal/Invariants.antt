-- `text::put_decimal` meets its contract: the digits found so far stand after those of what is left.
-- Assumes nothing.
use Prim.Native.Nat.{◌<◌}
use Rattle.text.proofs.DecimalLaws.{Finding}
use Rattle.text.proofs.put_decimal.Given as goal

abbrev pub invariant-loop-rest : goal.invariant-loop-rest
invariant-loop-rest l = (l.rest < 4294967296) × Finding l.v l.found l.first l.rest

abbrev pub decreases-loop-rest : goal.decreases-loop-rest
decreases-loop-rest l = l.rest
