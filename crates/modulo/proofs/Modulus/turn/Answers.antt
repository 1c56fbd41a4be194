-- `modulo::Modulus::turn` meets its contract. The loop's invariant: from j on the words are those of the turn, before j the old ones.
-- Assumes nothing.
use native.Mathlib.Omega.{arith}
use Rattle.modulo.proofs.TurnLaws.{turn-all}
use Rattle.modulo.proofs.Modulus.turn.Goals as goal

pub returns : goal.returns
returns c =
    let a = c.args in
    let o = c.loop-j in
    turn-all a.self.p a.self.f.now a.c a.b.now a.acc.now o.acc o.j _ _ o.invariant.3 (omega arith) (omega arith) o.invariant.2 c.add_products-2.ensures
