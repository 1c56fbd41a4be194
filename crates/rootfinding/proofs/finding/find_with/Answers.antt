-- `rootfinding::finding::find_with` meets its contract.
-- Assumes nothing.
use native.Mathlib.Omega.{arith}
use Rattle.rootfinding.proofs.FoundLaws.{found-checked}
use Rattle.rootfinding.proofs.finding.find_with.Goals as goal

pub returns-then-certify : goal.returns-then-certify
returns-then-certify c =
    let s = c in
    let few = c.candidates-n.ensures in
    found-checked s.args.p s.args.e.now s.requires.0 c.candidates-n.result _ _ _ c.certify.ensures (omega arith) c.if-certify.true
