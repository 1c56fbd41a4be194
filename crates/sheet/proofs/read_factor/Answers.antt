-- `sheet::read_factor` meets its contract.
-- Assumes nothing.
use Rattle.numbers.proofs.RefusalsLaws.{told-pass, told-refuse, handed-up}
use mathlib.Core.Path.{◌≡◌, refl}
use Prim.Native.Nat.{◌+◌, ◌≤◌}
use native.Mathlib.Omega.{arith}
use lib.ListN.{length}
use Rattle.numbers.specs.Refusals.{Pass, Refuse}
use Rattle.numbers.specs.Limits.{largest_degree}
use Rattle.layout.specs.Layout.{degree, polynomial_from}
use Rattle.layout.proofs.PlacesLaws.{placed-entries}
use Rattle.sheet.specs.Reading.{read_verdict}
use Rattle.sheet.proofs.ReadingLaws.{read-pass, sound-placed}
use Rattle.sheet.proofs.read_factor.Goals as goal
use Rattle.sheet.proofs.read_factor.Lts as step
use Rattle.sheet.proofs.read_factor.Reads as reads
use Rattle.sheet.proofs.read_factor.Tie as tie

pub returns-in_err-check_read : goal.returns-in_err-check_read
returns-in_err-check_read c =
    let a = c.args in
    rw (handed-up c.from_residual.ensures.1) (let m : read_verdict a.sheet.now a.i ≡ Refuse _ = told-refuse c.check_read.ensures c.in_err-check_read.was in rw m refl)

-- checks 13 and 16 have passed, so the root and the power are there
passed : (b : step.Past-After-known_told tie.the-claims reads.Pre reads.Post tie.handed_clauses) → let a = b.args in read_verdict a.sheet.now a.i ≡ Pass
passed b = told-pass b.check_read.ensures b.in_ok-check_read.was

there : (b : step.Past-After-known_told tie.the-claims reads.Pre reads.Post tie.handed_clauses) → let a = b.args in (a.i ≤ largest_degree) × (degree a.sheet.now ≤ largest_degree) × (polynomial_from (degree a.sheet.now) (a.i + 1) ≤ length a.sheet.now)
there b =
    let a = b.args in
    let (sound, l) = read-pass a.sheet.now a.i (passed b) in
    let h = sound-placed a.sheet.now sound in
    let e = placed-entries a.sheet.now h in
    (omega arith, h.degree-high, omega arith)

pub root_at-requires : goal.root_at-requires
root_at-requires c = there c.before

pub power_at-requires : goal.power_at-requires
power_at-requires c = there c.before.before

pub returns : goal.returns
returns c = rw (passed c.before.before.before, c.root_at.ensures, c.power_at.ensures) refl
