-- `front::rows_size` meets its contract.
-- Assumes nothing.
use Prim.Native.Nat.{◌*◌, ◌≤◌}
use native.Mathlib.Omega.{arith}
use Rattle.layout.proofs.PlacesLaws.{header-size}
use Rattle.front.specs.internal.Front.{Front}
use Rattle.front.proofs.FrontLaws.{rows-room}
use Rattle.front.proofs.rows_size.Goals as goal
use Rattle.front.proofs.rows_size.Lts as step
use Rattle.front.proofs.rows_size.Reads as reads
use Rattle.front.proofs.rows_size.Tie as tie

pub returns-then-not-front_fits : goal.returns-then-not-front_fits
returns-then-not-front_fits c = c.front_fits.ensures.no c.if-not-front_fits.true

fits : (b : step.Else1 tie.the-claims reads.Pre reads.Post) → Front b.args.s.now
fits b = b.front_fits.ensures.yes (b.if-not-front_fits.false)

pub read_header-h-requires : goal.read_header-h-requires
read_header-h-requires c = let h = (fits c.before).shape.header.roomy in omega arith

-- the factors' rows fit the scratch
room : (b : step.After-read_header tie.the-claims reads.Pre reads.Post) → b.read_header-h.result.degree * b.read_header-h.result.width ≤ 8192
room b = let z = header-size _ _ b.read_header-h.ensures in omega (arith, rows-room _ (fits b.before).shape.header)

pub overflow_mul-result : goal.overflow_mul-result
overflow_mul-result c = let l = room c.before.before in record { fits = omega arith }

pub returns : goal.returns
returns c =
    let f = fits c.before.before.before in
    let e = header-size _ _ c.read_header-h.ensures in
    record { front = f; size = e; room = room c.before.before }
