-- `layout::factors_from` meets its contract.
-- Assumes nothing.
use Prim.Native.Nat.{◌+◌}
use native.Mathlib.Omega.{arith}
use Rattle.numbers.proofs.RefusalsLaws.{few_words}
use Rattle.layout.proofs.factors_from.Goals as goal

pub overflow_mul-result-2 : goal.overflow_mul-result-2
overflow_mul-result-2 c = omega (arith, few_words (c.args.d + 1) c.args.n (omega arith) (omega arith))

pub overflow_add-result-4 : goal.overflow_add-result-4
overflow_add-result-4 c = omega (arith, few_words (c.args.d + 1) c.args.n (omega arith) (omega arith))
