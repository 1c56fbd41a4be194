-- `modulo::Modulus::product_sums` meets its contract. The loop's invariant: the coefficients of a from i on, times b, are added up.
-- Assumes nothing.
use Rattle.modulo.proofs.ProductLaws.{Multiplying}
use Rattle.modulo.proofs.Modulus.product_sums.Given as goal

abbrev pub invariant-loop-i : goal.invariant-loop-i
invariant-loop-i l = Multiplying l.self.p l.self.f.now l.a l.b l.i l.acc
