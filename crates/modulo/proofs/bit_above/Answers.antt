-- `modulo::bit_above` meets its contract.
-- Assumes nothing.
use mathlib.Core.Path.{◌≡◌, refl, ◌∙◌}
use Prim.Native.Nat.{ℕ, zero, suc, ◌^◌}
use native.Mathlib.Nat.{pow-suc}
use native.Mathlib.Omega.{arith}
use Rattle.modulo.specs.internal.Modulo.{two_to}
use Rattle.modulo.proofs.bit_above.Goals as goal

two_to-is : (i : ℕ) → 2 ^ i ≡ two_to i
unfolding two_to
two_to-is zero = refl
two_to-is (suc i) = rw pow-suc (let e = two_to-is i in omega arith)

pub returns : goal.returns
returns c =
    let (i, is) = c.next_power_of_two.ensures.power in
    ((i, is ∙ two_to-is i), omega (arith, c.next_power_of_two.ensures.lower_bound))
