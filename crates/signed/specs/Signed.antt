-- Numbers below p as signed numbers. A whole number is `pos n`, which is n, or `negsuc n`, which is −(n + 1).
--   InRange p x         −p/2 < x ≤ p/2
--   Congruent p v x     x and v differ by a multiple of p
--   IsSigned p v x      both: x is the signed number of v
--   signed_of p v        it, computed (`signed-one` in proofs/SignedLaws)
-- Assumes nothing.
use Rattle.std.specs.Prelude.{ℕ, suc, ◌+◌, ◌-◌, ◌*◌, ◌≤◌, ◌<◌, ◌%◌, ◌≡◌, leb, ℤ, pos, negsuc, neg_ℤ}
use Rattle.numbers.specs.Words.{choose}

abbrev pub InRange : ℕ → ℤ → Type 0
InRange p (pos n) = 2 * n ≤ p
InRange p (negsuc n) = 2 * suc n < p

abbrev pub Congruent : ℕ → ℕ → ℤ → Type 0
Congruent p v (pos n) = n % p ≡ v % p
Congruent p v (negsuc n) = (v + suc n) % p ≡ 0

pub record IsSigned (p v : ℕ) (x : ℤ) : Type 0 where
  pub range : InRange p x
  pub congruent : Congruent p v x

abbrev pub signed_of : ℕ → ℕ → ℤ
signed_of p v = choose (leb (2 * v) p) (pos v) (neg_ℤ (pos (p - v)))
