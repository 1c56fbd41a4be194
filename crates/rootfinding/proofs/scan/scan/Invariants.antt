-- `rootfinding::scan::scan` meets its contract. The loop's invariant is `Scanning`.
-- Assumes nothing.
use Rattle.rootfinding.proofs.ScanLaws.{Scanning}
use Rattle.rootfinding.proofs.scan.scan.Given as goal

abbrev pub invariant-loop-c : goal.invariant-loop-c
invariant-loop-c l = Scanning l.p l.e l.initial.roots l.c l.n l.roots
