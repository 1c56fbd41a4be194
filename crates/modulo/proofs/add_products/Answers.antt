-- `modulo::add_products` meets its contract.
-- Assumes nothing.
use native.Mathlib.Omega.{arith}
use Rattle.columns.proofs.ColumnLaws.{product-fits}
use Rattle.modulo.proofs.add_products.Goals as goal

pub overflow_mul-result : goal.overflow_mul-result
overflow_mul-result c = omega (arith, product-fits c.args.a c.args.q (omega arith) (omega arith), product-fits c.args.c c.args.b (omega arith) (omega arith))

pub overflow_add-result : goal.overflow_add-result
overflow_add-result c = omega (arith, product-fits c.args.a c.args.q (omega arith) (omega arith), product-fits c.args.c c.args.b (omega arith) (omega arith))

pub overflow_mul-result-2 : goal.overflow_mul-result-2
overflow_mul-result-2 c = omega (arith, product-fits c.args.a c.args.q (omega arith) (omega arith), product-fits c.args.c c.args.b (omega arith) (omega arith))

pub overflow_add-result-2 : goal.overflow_add-result-2
overflow_add-result-2 c = omega (arith, product-fits c.args.a c.args.q (omega arith) (omega arith), product-fits c.args.c c.args.b (omega arith) (omega arith))
