-- Rows in blocks: block i has m i rows, one block after the other.
--   in_block, locate   row sum_to i m + j is row j of block i, and every row of r blocks is one
-- Assumes nothing.
use Prim.Native.Nat.{ℕ, zero, suc, ◌+◌, ◌-◌, ◌≤◌, ◌<◌}
use native.Mathlib.Nat.{lt_of_not-le}
use native.Mathlib.Decide.{dec_le}
use native.Mathlib.Omega.{arith}
use mathlib.Core.Path.{◌≡◌}
use Rattle.algebra.specs.Sums.{sum_to}
use Rattle.algebra.proofs.SumsLaws.{sum_to-zero, sum_to-suc, sum_to-mono}

-- row j of block i, of r blocks
pub in_block : (r : ℕ) (m : ℕ → ℕ) (i j : ℕ) → i < r → j < m i → sum_to i m + j < sum_to r m
in_block r m i j l g = omega (arith, sum_to-mono (suc i) r m l, sum_to-suc i m)

pub record Block (r : ℕ) (m : ℕ → ℕ) (q : ℕ) : Type 0 where
  pub block : ℕ
  pub row : ℕ
  pub block-low : block < r
  pub row_low : row < m block
  pub at : q ≡ sum_to block m + row

pub locate : (r : ℕ) (m : ℕ → ℕ) (q : ℕ) → q < sum_to r m → Block r m q
locate zero m q l = absurd (let z = sum_to-zero m in let y : ⊥ = omega arith in y)
locate (suc r) m q l = go (dec_le (suc q) (sum_to r m)) (locate r m q)
  where
    go : Dec (suc q ≤ sum_to r m) → (q < sum_to r m → Block r m q) → Block (suc r) m q
    go (yes g) rec =
        let b = rec g in
        record { block = b.block; row = b.row; block-low = let z = b.block-low in omega arith; row_low = b.row_low; at = b.at }
    go (no g) rec =
        let z = sum_to-suc r m in
        let y = lt_of_not-le g in
        record { block = r; row = q - sum_to r m; block-low = omega arith; row_low = omega arith; at = omega arith }
