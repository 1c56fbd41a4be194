-- `rootfinding::finding::by_scan` meets its contract.
-- Assumes nothing.
use native.Mathlib.Omega.{arith}
use Rattle.rootfinding.proofs.FoundLaws.{found-checked, found-scanned}
use Rattle.rootfinding.proofs.finding.by_scan.Goals as goal

pub returns-then-certify : goal.returns-then-certify
returns-then-certify c =
    let n = c.scan-n.ensures.0 in
    found-checked c.args.p c.args.e.now c.requires.0 c.scan-n.result _ _ _ c.certify.ensures (omega arith) c.if-certify.true

pub returns-else-certify : goal.returns-else-certify
returns-else-certify c =
    found-scanned c.args.p c.args.e.now c.requires.0 c.scan-n.result _ _ _ c.certify.ensures c.scan-n.ensures.1 c.if-certify.false
