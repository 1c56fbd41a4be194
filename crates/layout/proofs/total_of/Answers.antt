-- `layout::total_of` meets its contract.
-- Assumes nothing.
use Prim.Native.Nat.{◌+◌, ◌*◌}
use native.Mathlib.Omega.{arith}
use Rattle.layout.proofs.PlacesLaws.{all-rows-small}
use Rattle.layout.proofs.total_of.Goals as goal

pub overflow_mul-result-3 : goal.overflow_mul-result-3
overflow_mul-result-3 c = omega (arith, all-rows-small (2 * c.args.d + 1) c.args.n (omega arith) (omega arith))

pub overflow_add-result-4 : goal.overflow_add-result-4
overflow_add-result-4 c = omega (arith, all-rows-small (2 * c.args.d + 1) c.args.n (omega arith) (omega arith))
