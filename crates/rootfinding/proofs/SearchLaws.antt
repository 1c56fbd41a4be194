-- What the search needs to be safe.
--   fewer, within    a number of words that are among the first ones
--   piece-modulus    words below p, copied, and 1 after them are a monic polynomial
-- Assumes nothing.
use mathlib.Core.Path.{◌≡◌, sym, subst, ◌∙◌, ap}
use mathlib.Core.List.{List, [], ◌∷◌, ◌++◌}
use Prim.Native.Nat.{ℕ, ◌+◌, ◌-◌, ◌≤◌, ◌<◌}
use native.Mathlib.Numerals.{add-one}
use native.Mathlib.Omega.{arith}
use lib.ListN.{length, take, set, length-take, length-append}
use lib.Seq.{take-suc-set, get_or_at}
use Rattle.algebra.specs.Prime.{Prime}
use Rattle.numbers.specs.Words.{word, over}
use Rattle.numbers.specs.Limits.{largest_degree, most_rows}
use Rattle.numbers.specs.internal.Facts.{AllBelow}
use Rattle.numbers.specs.internal.Limits.{modulus_bound}
use Rattle.numbers.proofs.WordsLaws.{length_over, append-below}
use Rattle.series.proofs.CheckLaws.{one_below}
use Rattle.modulo.specs.internal.Modulo.{ModulusOf}
use Rattle.rootfinding.proofs.FoundLaws.{over-take}

pub fewer : (r m : ℕ) (s : List ℕ) → 1 ≤ m → r ≤ length (take (m - 1) s) → r < m
fewer r m s l h = omega (arith, length-take (m - 1) s)

pub within : (r n : ℕ) (s : List ℕ) → r < length (take n s) → r < n
within r n s h = omega (arith, length-take n s)

module _ (p : ℕ) (prime : Prime p) (small : p < modulus_bound) (piece : List ℕ) (some : 1 ≤ length piece) (few : length piece ≤ largest_degree)
    (below : AllBelow p piece) where
  pub piece-modulus : (old f : List ℕ) (k : ℕ) → length old ≡ most_rows → f ≡ over piece old → k ≡ length piece
      → ModulusOf p (take (length piece + 1) (set f (length piece) 1)) k
  piece-modulus old f k n e q =
      let d = length piece in
      let long : length f ≡ most_rows = ap length e ∙ length_over piece old (omega arith) ∙ n in
      let is : take (d + 1) (set f d 1) ≡ piece ++ (1 ∷ []) =
      ap (λ i. take i (set f d 1)) (add-one d) ∙ take-suc-set f d 1 (omega arith) ∙ ap (λ s. s ++ (1 ∷ [])) (over-take piece old f e) in
      let two = prime.two-le in
      record {
        positive = omega arith;
        small = small;
        some = omega arith;
        few = omega arith;
        long = ap length is ∙ length-append piece (1 ∷ []) ∙ ap (λ i. i + 1) (sym q);
        below = subst (AllBelow p) (sym is) (append-below p piece (1 ∷ []) below (one_below p prime.two-le));
        top = ap (λ s. word s k) is ∙ get_or_at piece 1 [] 0 k (sym q);
      }
