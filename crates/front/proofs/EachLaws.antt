-- What `all` says of the numbers from a to b − 1.
--   decides_each   where it asks each of them whether it has P
-- Assumes nothing.
use Prim.Native.Nat.{ℕ, ◌+◌, ◌-◌, ◌≤◌, ◌<◌}
use native.Mathlib.Omega.{arith}
use mathlib.Core.Path.{◌≡◌, subst}
use mathlib.Core.Bool.{Bool, true, false}
use lib.ListN.{length, get_or}
use Rattle.std.specs.Bool.{MatchBool}
use Rattle.std.specs.List.{AllWithin, HoldsAt, range_with_len}
use Rattle.std.proofs.lemmas.List.FromFn.{length-range_with_len, get_or-range_with_len}
use Rattle.numbers.specs.internal.Facts.{Decides}
use Rattle.numbers.proofs.TestsLaws.{decides-yes, decides-no}

pub decides_each : (a b : ℕ) (P : ℕ → Type 0) (r : Bool)
    → MatchBool r (AllWithin P (range_with_len a (b - a)) 0 (length (range_with_len a (b - a)))) ((k : ℕ) × (k < length (range_with_len a (b - a))) × HoldsAt (λ i. P i → ⊥) (range_with_len a (b - a)) k)
    → Decides r ((i : ℕ) → a ≤ i → i < b → P i)
decides_each a b P true h =
    decides-yes (λ i low high.
    let l : i - a < b - a = omega arith in
    let e : get_or (range_with_len a (b - a)) (i - a) 0 ≡ i = omega (arith, get_or-range_with_len a (b - a) (i - a) 0 l) in
    subst P e (h (i - a) 0 (omega arith) (omega (arith, length-range_with_len a (b - a)))))
decides_each a b P false (k, l, f) =
    let g : k < b - a = omega (arith, length-range_with_len a (b - a)) in
    let e : a + k ≡ get_or (range_with_len a (b - a)) k 0 = omega (arith, get_or-range_with_len a (b - a) k 0 g) in
    decides-no (λ h. f 0 (subst P e (h (a + k) (omega arith) (omega arith))))
