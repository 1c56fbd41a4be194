-- `simple::kernel::write_roots` meets its contract: the factors' rows, negated.
-- Assumes nothing.
use native.Mathlib.Omega.{arith}
use Rattle.layout.proofs.PlacesLaws.{placed-entries}
use Rattle.sheet.proofs.ReadingLaws.{sound-placed}
use Rattle.simple.proofs.SimpleLaws.{negate-ready, negated-roots}
use Rattle.simple.proofs.kernel.write_roots.Goals as goal

pub read_header-h-requires : goal.read_header-h-requires
read_header-h-requires c = omega (arith, placed-entries _ (sound-placed _ c.requires.0))

pub factors_part-requires : goal.factors_part-requires
factors_part-requires c = sound-placed _ c.requires.0

pub negate-requires : goal.negate-requires
negate-requires c =
    let h = c.requires in
    negate-ready _ h.0 h.1 _ _ c.read_header-h.ensures.p-is c.factors_part.ensures _ h.2

pub returns : goal.returns
returns c =
    let h = c.requires in
    negated-roots _ h.0 h.1 _ _ c.read_header-h.ensures.p-is c.factors_part.ensures _ c.negate.ensures
