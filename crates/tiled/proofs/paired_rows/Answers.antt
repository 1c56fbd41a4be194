-- `tiled::paired_rows` meets its contract.
-- Assumes nothing.
use mathlib.Core.Path.{refl}
use mathlib.Core.Logic.{inl, inr}
use Prim.Native.Nat.{◌+◌, ◌*◌, ◌/◌, ◌≤◌}
use native.Mathlib.Nat.{mul-le-mul}
use native.Mathlib.Omega.{arith}
use Rattle.tiled.proofs.TiledLaws.{tiles-few}
use Rattle.tiled.proofs.paired_rows.Goals as goal

pub overflow_mul-m : goal.overflow_mul-m
overflow_mul-m c = let a = c.args in let z : a.m * ((a.k + 7) / 8) ≤ 33 * 5 = mul-le-mul {n₂ = 33} {m₂ = 5} (omega (arith, c.requires)) (tiles-few a.k 5 (omega (arith, c.requires))) in omega arith

pub overflow_mul-k : goal.overflow_mul-k
overflow_mul-k c = let a = c.args in let z : a.k * ((a.m + 7) / 8) ≤ 33 * 5 = mul-le-mul {n₂ = 33} {m₂ = 5} (omega (arith, c.requires)) (tiles-few a.m 5 (omega (arith, c.requires))) in omega arith

pub returns-then-m-k : goal.returns-then-m-k
returns-then-m-k c = inl refl

pub returns-else-m-k : goal.returns-else-m-k
returns-else-m-k c = inr refl
