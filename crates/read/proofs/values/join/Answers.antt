-- `read::values::join` meets its contract.
-- Assumes nothing.
use mathlib.Core.List.{List}
use mathlib.Core.Path.{sym, subst}
use Prim.Native.Nat.{ℕ}
use native.Mathlib.Omega.{arith}
use Rattle.read.specs.Value.{signed}
use Rattle.read.specs.internal.Values.{Stored, TopRows}
use Rattle.read.proofs.ValueLaws.{stored-plus, stored-minus, signed-plus, signed-minus}
use Rattle.read.proofs.values.join.Goals as goal
use Rattle.read.proofs.values.join.Goals.{in-Plus, in-Minus}

pub returns : goal.returns
returns c =
    let a = c.args in
    λ f h i k σ e sf sh.
    elim c.match-sign.branch [
      | in-Plus w ↦ subst (λ (x : List ℕ). Stored a.ring.p a.ring.n (signed a.ring.p σ f h) x c.top_rows.result) (sym w.out-is) (signed-plus _ _ f h _ _ _ σ e w.in-Plus.is (stored-plus a.ring.p a.ring.n f h i k _ _ _ (omega arith) sf sh _ (subst (λ (x : List ℕ). TopRows a.ring.n x 33 c.top_rows.result) w.out-is c.top_rows.ensures) w.add_words.ensures))
      | in-Minus w ↦ subst (λ (x : List ℕ). Stored a.ring.p a.ring.n (signed a.ring.p σ f h) x c.top_rows.result) (sym w.out-is) (signed-minus _ _ f h _ _ _ σ e w.in-Minus.is (stored-minus a.ring.p a.ring.n f h i k _ _ _ (omega arith) sf sh _ (subst (λ (x : List ℕ). TopRows a.ring.n x 33 c.top_rows.result) w.out-is c.top_rows.ensures) w.subtract_words.ensures))
    ]
