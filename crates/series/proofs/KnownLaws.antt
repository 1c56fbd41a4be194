-- Rows of which not all terms are known.
--   known-test, rows-known-test   known_to and KnownTo: the test of such a row, or of rows, and its conditions are one
--   known-ext, rows-known-ext     only the words of the rows count
--   known-not, known_from_all   what `known_to` finds: a count outside, or whether all is 0 from word n on
--   sums-known, product-known   words past the counts have no part in a sum or product
--   sums-written, product-written   how the code gets there: the known words added or multiplied, and zeros after them
-- Assumes nothing.
use Prim.Native.Nat.{ℕ, ◌+◌, ◌-◌, ◌%◌, ◌≤◌, ◌<◌, zero-le, min}
use native.Mathlib.Omega.{arith}
use mathlib.Core.Path.{◌≡◌, sym, ap, ap₂, ◌∙◌}
use mathlib.Core.Logic.{◌↔◌}
use mathlib.Core.Bool.{Bool, true, false}
use mathlib.Core.List.{List, ◌++◌}
use borrow.Author.Tests.{leb-true, le-leb}
use lib.Dec.{eqb}
use Rattle.std.specs.Bool.{MatchBool}
use Rattle.std.specs.List.{AllWithin, HoldsAt}
use lib.ListN.{length, take, drop}
use lib.Seq.{get_or-take, length-take-le}
use Rattle.numbers.specs.Words.{word, tabulate, over, part, up_to}
use Rattle.numbers.proofs.WordsLaws.{from, length_from, word-from, length-tabulate, tabulate-ext, tabulate-cut, up-ext}
use Rattle.numbers.proofs.TestsLaws.{all_to-at, at-all_to, all_to-ext, all-at, ◌&◌, none_left, all_of, past_row, decided-test, decides-yes, decides-no}
use Rattle.series.specs.Known.{KnownTo, known_to, rows_known}
use Rattle.series.specs.Series.{sums, product_column, product}
use Rattle.series.proofs.SeriesLaws.{sums-whole, product_whole, product-ext, zeros-after}

pub known-test : (N n : ℕ) (s : ℕ → ℕ) → (known_to N n s ≡ true) ↔ KnownTo N n s
unfolding known_to
known-test N n s = (
  λ e. record { low = leb-true _ _ (all-at _ e 0); high = leb-true _ _ (all-at _ e 1); rest = (past_row n N s).0 (all-at _ e 2) },
  λ h. all_of (le-leb _ _ h.low & le-leb _ _ h.high & (past_row n N s).1 h.rest & none_left),
)

pub rows-known-test : (N n : ℕ) (lengths : ℕ → ℕ) (f : ℕ → ℕ → ℕ) → (rows_known N n lengths f ≡ true) ↔ ((j : ℕ) → j < n → KnownTo N (lengths j) (f j))
unfolding rows_known
rows-known-test N n lengths f = (λ e j l. (known-test N (lengths j) (f j)).0 (all_to-at n _ e j l), λ h. at-all_to n _ (λ j l. (known-test N (lengths j) (f j)).1 (h j l)))

pub known-ext : (N n : ℕ) (s s' : ℕ → ℕ) → ((t : ℕ) → t < N → s t ≡ s' t) → known_to N n s ≡ known_to N n s'
unfolding known_to
known-ext N n s s' e = rw (all_to-ext (N - n) _ (λ t. eqb (s' (n + t)) 0) (λ t l. ap (λ x. eqb x 0) (e (n + t) (omega arith))))

pub rows-known-ext : (N n : ℕ) (lengths lengths' : ℕ → ℕ) (f f' : ℕ → ℕ → ℕ) → ((j : ℕ) → j < n → lengths j ≡ lengths' j) → ((j : ℕ) → j < n → (t : ℕ) → t < N → f j t ≡ f' j t)
    → rows_known N n lengths f ≡ rows_known N n lengths' f'
unfolding rows_known
rows-known-ext N n lengths lengths' f f' e q = all_to-ext n _ _ (λ j l. ap (λ m. known_to N m (f j)) (e j l) ∙ known-ext N (lengths' j) (f j) (f' j) (q j l))

pub known-not : (N n : ℕ) (s : ℕ → ℕ) → (KnownTo N n s → ⊥) → false ≡ known_to N n s
known-not N n s h = decided-test false (known_to N n s) (known-test N n s) (decides-no h)

-- where n is from 1 to the width
pub known_from_all : (s : List ℕ) (n : ℕ) (r : Bool) → 1 ≤ n → n ≤ length s
    → MatchBool r (AllWithin (λ x. x ≡ 0) (from s n) 0 (length (from s n))) ((k : ℕ) × (k < length (from s n)) × HoldsAt (λ x. x ≡ 0 → ⊥) (from s n) k)
    → r ≡ known_to (length s) n (word s)
known_from_all s n true low high h =
    decided-test true _ (known-test (length s) n (word s))
    (decides-yes record {
      low = low;
      high = high;
      rest = λ t l u. ap (word s) (let z : t ≡ n + (t - n) = omega arith in z) ∙ sym (word-from s n (t - n)) ∙ h (t - n) 0 zero-le (omega (arith, length_from s n));
    })
known_from_all s n false low high h = known-not _ _ _ (λ k. h.2 0 (word-from s n h.0 ∙ k.rest (n + h.0) (omega arith) (omega (arith, length_from s n))))

module _ (p N : ℕ) (g g'' : List ℕ) (a : ℕ) (h h' : List ℕ) (b : ℕ) (same-g : (t : ℕ) → t < a → word g t ≡ word g'' t) (same-h : (t : ℕ) → t < b → word h t ≡ word h' t) where
  pub sums-known : sums p N g a h b ≡ sums p N g'' a h' b
  unfolding sums
  sums-known = tabulate-ext N _ _ (λ t _. up-ext (min a b) _ _ (λ i l. ap₂ (λ (x y : ℕ). (x + y) % p) (same-g i (omega arith)) (same-h i (omega arith))) t)

  pub product-known : product p N g a h b ≡ product p N g'' a h' b
  unfolding product
  product-known = tabulate-ext N _ _ (λ t _. up-ext (min a b) _ _ (λ i l. product-ext p g g'' h h' i (λ j u. same-g j (omega arith)) (λ j u. same-h j (omega arith))) t)

-- the first k words of g and h, k the lesser of two counts, give the first k words of the result; then zeros are put after them
module _ (p : ℕ) (g : List ℕ) (a : ℕ) (h : List ℕ) (b k : ℕ) (lesser : k ≡ min a b) (within : k ≤ length g) (old out ys : List ℕ) (room : length g ≤ length old)
    (zeros : ys ≡ tabulate (length (part out k (length g - k))) (λ _. 0)) where
  first-words : (s : List ℕ) (t : ℕ) → t < k → word (take k s) t ≡ word s t
  first-words s t l = get_or-take k s t 0 l

  -- what the second call makes of the words of f below k
  cut : (f : ℕ → ℕ) (xs : List ℕ) → xs ≡ tabulate k f → out ≡ over xs old
      → take k out ++ (ys ++ drop (length g - k) (drop k out)) ≡ over (tabulate (length g) (up_to (min a b) f)) old
  cut f xs e is =
      zeros-after xs old out ys k (length g) (ap length e ∙ length-tabulate k f) within room is zeros
      ∙ ap (λ (s : List ℕ). over s old) (ap (λ (s : List ℕ). s ++ tabulate (length g - k) (λ _. 0)) e ∙ sym (tabulate-cut (length g) k f within) ∙ ap (λ (m : ℕ). tabulate (length g) (up_to m f)) lesser)

  pub sums-written : out ≡ over (sums p (length (take k g)) (take k g) (length (take k g)) (take k h) (length (take k g))) old
      → take k out ++ (ys ++ drop (length g - k) (drop k out)) ≡ over (sums p (length g) g a h b) old
  unfolding sums
  sums-written =
      cut _ _ (ap (λ (m : ℕ). sums p m (take k g) m (take k h) m) (length-take-le k g within) ∙ sums-known p k (take k g) g k (take k h) h k (first-words g) (first-words h) ∙ sums-whole p k g h)

  pub product-written : out ≡ over (product p (length (take k g)) (take k g) (length (take k g)) (take k h) (length (take k g))) old
      → take k out ++ (ys ++ drop (length g - k) (drop k out)) ≡ over (product p (length g) g a h b) old
  unfolding product
  product-written =
      cut (product_column p g h) _ (ap (λ (m : ℕ). product p m (take k g) m (take k h) m) (length-take-le k g within) ∙ product-known p k (take k g) g k (take k h) h k (first-words g) (first-words h) ∙ product_whole p k g h)
