-- `powers::find_powers` meets its contract. The loop's invariant is `Finding`.
-- Assumes nothing.
use Rattle.powers.proofs.FindingLaws.{Searching}
use Rattle.powers.proofs.find_powers.Given as goal

abbrev pub invariant-loop-i : goal.invariant-loop-i
invariant-loop-i l = Searching l.p l.roots l.initial.e l.i l.at l.e l.powers
