-- The coefficients of (Y − c)^m, as the shift of Y^m to Y − c gives them.
--   unit-below   the words of Y^m are below p
--   root-words   what the shift of Y^m leaves
--   front-words  .. at the front of an array
-- Assumes nothing.
use mathlib.Core.Path.{◌≡◌, refl, sym, ap, ap₂, ◌∙◌}
use mathlib.Core.List.{List}
use Prim.Native.Nat.{ℕ, zero, suc, ◌+◌, ◌-◌, ◌*◌, ◌%◌, ◌≤◌, ◌<◌}
use native.Mathlib.Nat.{mod-add-mod, mod-eq_of_lt, zero-mul, one-mul, zero-add, lt_of_not-le}
use native.Mathlib.Numerals.{add-one}
use native.Mathlib.Decide.{dec_le}
use native.Mathlib.Omega.{arith}
use lib.ListN.{length, take, set, length-set}
use lib.Seq.{ext_get_or, get_or-take, get_or-set_same, get_or-set_other, length-take-le}
use Rattle.algebra.specs.Sums.{sum_to}
use Rattle.algebra.proofs.SumsLaws.{sum_to-suc, sum_to-zeros}
use Rattle.algebra.specs.internal.Fp.{mod-mul-mod}
use Rattle.numbers.specs.Words.{word, first_large, tabulate, over}
use Rattle.numbers.specs.internal.Facts.{AllBelow}
use Rattle.numbers.proofs.WordsLaws.{none-large, length-tabulate, word-tabulate, over-whole}
use Rattle.numbers.specs.Limits.{largest_degree}
use Rattle.series.proofs.SeriesLaws.{word_below}
use Rattle.rows.specs.Rows.{rows_of, table, line_power, shifted}
use Rattle.rows.proofs.RowsLaws.{zeros, rows-below, line-lt, length-table, word-table}
use Rattle.hensel.specs.Factors.{root_power}

mod_same : (p a b x : ℕ) → a % p ≡ b % p → (a + x) % p ≡ (b + x) % p
mod_same p a b x e = sym (mod-add-mod a p x) ∙ ap (λ (y : ℕ). (y + x) % p) e ∙ mod-add-mod b p x

line-mod : (p x m j : ℕ) → line_power p (x % p) m j ≡ line_power p x m j
unfolding line_power
line-mod p x zero zero = refl
line-mod p x zero (suc j) = refl
line-mod p x (suc m) zero = mod-mul-mod x (line_power p (x % p) m zero) p ∙ ap (λ (y : ℕ). x * y % p) (line-mod p x m zero)
line-mod p x (suc m) (suc j) =
    mod_same p (x % p * line_power p (x % p) m (suc j)) (x * line_power p (x % p) m (suc j)) (line_power p (x % p) m j) (mod-mul-mod x (line_power p (x % p) m (suc j)) p)
    ∙ ap₂ (λ (y z : ℕ). (x * y + z) % p) (line-mod p x m (suc j)) (line-mod p x m j)

zeros-below : AllBelow 1 zeros
unfolding first_large
zeros-below = none-large 1 zeros (let e : first_large 1 zeros ≡ 33 = refl in omega arith)

zero_word : (i : ℕ) → word zeros i ≡ 0
zero_word i = omega (arith, word_below 1 zeros (omega arith) zeros-below i)

-- the array that holds Y^m
abbrev pub unit_at : ℕ → List ℕ
unit_at m = set zeros m 1

module _ (m : ℕ) (small : m ≤ largest_degree) where
  unit-long : length (take (m + 1) (unit_at m)) ≡ m + 1
  unit-long = length-take-le (m + 1) (unit_at m) (omega (arith, length-set zeros m 1))

  unit-low : (i : ℕ) → i < m → word (unit_at m) i ≡ 0
  unit-low i l = get_or-set_other zeros m i 1 0 (λ e. let z : ⊥ = omega arith in z) ∙ zero_word i

  unit-top : word (unit_at m) m ≡ 1
  unit-top = get_or-set_same zeros m 1 0 (omega arith)

  pub unit-below : (p : ℕ) → 2 ≤ p → AllBelow p (take (m + 1) (unit_at m))
  unit-below p two i l =
      let g : i < m + 1 = omega (arith, unit-long) in
      rw (get_or-take (m + 1) (unit_at m) i 0 g) (go (dec_le (suc i) m))
    where
      go : Dec (suc i ≤ m) → word (unit_at m) i < p
      go (yes u) = omega (arith, unit-low i u)
      go (no u) =
          let v = lt_of_not-le u in
          let e : i ≡ m = omega (arith, unit-long) in
          rw e (omega (arith, unit-top))

  unit_row : (i : ℕ) → i < m + 1 → rows_of (take (m + 1) (unit_at m)) 1 (m + 1) i 0 ≡ word (unit_at m) i
  unit_row i l =
      rows-below (take (m + 1) (unit_at m)) 1 (m + 1) i 0 l ∙ ap (word (take (m + 1) (unit_at m))) (let e : i * 1 + 0 ≡ i = omega arith in e)
      ∙ get_or-take (m + 1) (unit_at m) i 0 l

  shifted-unit : (p c j : ℕ) → 2 ≤ p → shifted p (m + 1) c (rows_of (take (m + 1) (unit_at m)) 1 (m + 1)) j 0 ≡ line_power p c m j
  unfolding shifted
  shifted-unit p c j two =
      let F : ℕ → ℕ = λ i. rows_of (take (m + 1) (unit_at m)) 1 (m + 1) i 0 * line_power p c i j in
      let z : sum_to m F ≡ 0 = sum_to-zeros m F (λ i l. ap (λ (x : ℕ). x * line_power p c i j) (unit_row i (omega arith) ∙ unit-low i l) ∙ zero-mul _) in
      let t : F m ≡ line_power p c m j = ap (λ (x : ℕ). x * line_power p c m j) (unit_row m (omega arith) ∙ unit-top) ∙ one-mul _ in
      let e : sum_to (m + 1) F ≡ line_power p c m j = ap (λ (k : ℕ). sum_to k F) (add-one m) ∙ sum_to-suc m F ∙ ap₂ ◌+◌ z t ∙ zero-add _ in
      ap (λ (x : ℕ). x % p) e ∙ mod-eq_of_lt (line-lt p c m j two)

  -- the words of Y^m at Y − c, as the shift leaves them
  whole-line : (p c : ℕ) (line ws : List ℕ) → 2 ≤ p → length line ≡ m + 1
      → ws ≡ over (table (m + 1) 1 (shifted p (m + 1) ((p - c) % p) (rows_of (take (m + 1) (unit_at m)) 1 (m + 1)))) line → ws ≡ tabulate (m + 1) (root_power p c m)
  whole-line p c line ws two long e =
      let T = table (m + 1) 1 (shifted p (m + 1) ((p - c) % p) (rows_of (take (m + 1) (unit_at m)) 1 (m + 1))) in
      let lt : length T ≡ m + 1 = length-table (m + 1) 1 _ ∙ (let q : (m + 1) * 1 ≡ m + 1 = omega arith in q) in
      e ∙ over-whole T line (lt ∙ sym long)
      ∙ ext_get_or 0 T (tabulate (m + 1) (root_power p c m)) (lt ∙ sym (length-tabulate (m + 1) (root_power p c m))) (λ i l.
      let u : i < m + 1 = omega arith in
      ap (word T) (let q : i ≡ i * 1 + 0 = omega arith in q)
      ∙ word-table (m + 1) 1 _ i 0 u (omega arith)
      ∙ shifted-unit p ((p - c) % p) i two ∙ line-mod p (p - c) m i ∙ sym (word-tabulate (m + 1) (root_power p c m) i u))

  pub root-words : (n p c : ℕ) (line ws : List ℕ) → n ≡ m + 1 → 2 ≤ p → length line ≡ n
      → ws ≡ over (table n 1 (shifted p n ((p - c) % p) (rows_of (take n (unit_at m)) 1 n))) line → ws ≡ tabulate n (root_power p c m)
  root-words n p c line ws q two long e =
      whole-line p c line ws two (long ∙ q) (e ∙ ap (λ (k : ℕ). over (table k 1 (shifted p k ((p - c) % p) (rows_of (take k (unit_at m)) 1 k))) line) q)
      ∙ ap (λ (k : ℕ). tabulate k (root_power p c m)) (sym q)

  -- written to the front of an array
  pub front-words : (p c : ℕ) (ws : List ℕ) → ws ≡ tabulate (length (take (m + 1) zeros)) (root_power p c (length (take (m + 1) zeros) - 1)) → ws ≡ tabulate (m + 1) (root_power p c m)
  front-words p c ws e =
      let n : length (take (m + 1) zeros) ≡ m + 1 = length-take-le (m + 1) zeros (omega arith) in
      e ∙ ap₂ (λ (k l : ℕ). tabulate k (root_power p c l)) n (let q : length (take (m + 1) zeros) - 1 ≡ m = omega arith in q)
