-- `simple::kernel::check_multiple` meets its contract: the first root of power above 1, where there is one.
-- Assumes nothing.
use mathlib.Core.Path.{◌∙◌, sym, ap}
use native.Mathlib.Omega.{arith}
use Rattle.numbers.specs.Refusals.{refusal, Refuse}
use Rattle.layout.proofs.PlacesLaws.{placed-entries}
use Rattle.sheet.proofs.ReadingLaws.{sound-placed}
use Rattle.simple.proofs.SimpleLaws.{multiple-there, multiple-none}
use Rattle.simple.proofs.kernel.check_multiple.Goals as goal

pub read_header-h-requires : goal.read_header-h-requires
read_header-h-requires c = omega (arith, placed-entries _ (sound-placed _ c.requires))

pub root_at-requires : goal.root_at-requires
root_at-requires c =
    let h = sound-placed _ c.requires in
    let e = c.read_header-h.ensures.count-is in
    (omega (arith, h.count-high), h.degree-high, omega (arith, placed-entries _ h))

pub returns-then-i-h : goal.returns-then-i-h
returns-then-i-h c = ap (λ x. Refuse (refusal 22 x)) c.root_at.ensures ∙ sym (multiple-there c.args.sheet.now _ c.first_multiple-i.ensures (omega (arith, c.read_header-h.ensures.count-is)))

pub returns : goal.returns
returns c = sym (multiple-none c.args.sheet.now _ c.first_multiple-i.ensures (omega (arith, c.read_header-h.ensures.count-is)))
