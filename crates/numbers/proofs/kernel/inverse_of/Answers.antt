-- `numbers::kernel::inverse_of` meets its contract. The loop's invariant: c * a is m modulo p, and m is at least 1, since no m between
-- divides the prime p.
-- Assumes nothing.
use mathlib.Core.Path.{sym, ap, ◌∙◌}
use Prim.Native.Nat.{ℕ, ◌≤◌, ◌<◌, ◌*◌, ◌/◌, ◌%◌, ◌-◌}
use native.Mathlib.Omega.{arith}
use native.Mathlib.Nat.{mod-lt, mod-eq_of_lt, one-mul, mul-le-mul, div-le_self, pos_of_ne-zero}
use Rattle.numbers.proofs.DivisorLaws.{prime-none, inverse-step, inverse-is}
use Rattle.numbers.specs.internal.Limits.{modulus_bound}
use Rattle.numbers.proofs.kernel.inverse_of.Goals as goal

pub loop-m-init : goal.loop-m-init
loop-m-init c = (omega arith, omega arith, omega arith, ap (λ (x : ℕ). x % c.args.p) (one-mul _) ∙ mod-eq_of_lt c.requires.1)

pub overflow_sub-c : goal.overflow_sub-c
overflow_sub-c c = omega (arith, div-le_self c.args.p c.loop-m.m)

pub overflow_mul-c : goal.overflow_mul-c
overflow_mul-c c =
    let p = c.args.p in
    let m : c.loop-m.c * (p - p / c.loop-m.m) ≤ modulus_bound * modulus_bound = mul-le-mul {n₂ = modulus_bound} {m₂ = modulus_bound} (omega arith) (omega arith) in
    record { fits = omega arith }

pub loop-m-smaller : goal.loop-m-smaller
loop-m-smaller c = omega (arith, mod-lt c.args.p {m = c.loop-m.m} (omega arith))

pub loop-m-preserved : goal.loop-m-preserved
loop-m-preserved c =
    let p = c.args.p in
    let i = c.loop-m.invariant in
    let m = c.loop-m.m in
    let l : p % m < m = mod-lt p (omega arith) in
    (pos_of_ne-zero (prime-none c.requires.3 m (omega arith) i.1), omega arith, mod-lt _ (omega arith), inverse-step p _ _ m i.0 i.1 i.3)

pub returns : goal.returns
returns c =
    let i = c.loop-m.invariant in
    sym (inverse-is _ _ _ i.2 (i.3 ∙ omega arith))
