-- Where a word of a sheet stands: every word before the end is in the header, is a known length, a root or a power, or has a row and a column in one of two
-- tables.
--   in_rows, place, place-one   word j·N + t is word t of row j, and every word of a table is one, of one row only
--   entry-there, entry_other, entry-by   what rows are that have one entry changed
--   row_part, row_word, row-long   row j of rows of N words, as it is lent
--   by-region          what holds in each region holds of every word before the end
--   entry_read, factor-read   a slice with another's D, N and r has its rows where that has them
--   outside-columns    slices whose factors' rows agree outside columns a..b − 1 agree in all words that do not stand in these columns
-- Assumes nothing.
use Prim.Native.Nat.{ℕ, zero, suc, ◌+◌, ◌-◌, ◌*◌, ◌/◌, ◌%◌, ◌≤◌, ◌<◌}
use native.Mathlib.Nat.{lt_of_not-le, eq-or-lt_of_le, mod-lt, div-lt_iff_lt-mul, div-add-mod'}
use native.Mathlib.Decide.{dec_le, ℕ_discrete}
use native.Mathlib.Omega.{arith}
use mathlib.Core.Path.{◌≡◌, refl, sym, ap, subst}
use mathlib.Core.Logic.{◌⊎◌, inl, inr, ⊎_elim}
use mathlib.Core.List.{List}
use lib.ListN.{length, take, drop, set}
use lib.Seq.{get_or-set_same, get_or-set_other}
use Rattle.numbers.specs.Words.{word}
use Rattle.numbers.proofs.WordsLaws.{lt-or-ge, word-part}
use Rattle.rows.proofs.RowsLaws.{length_part, row_fits}
use Rattle.layout.specs.Layout.{rows_at, degree, width, count, lengths_from, roots_from, polynomial_from, factors_from, total, end, polynomial, factor_rows, entry_at, InColumns}

-- word t of row j, of R rows of N
pub in_rows : (R N j t : ℕ) → j < R → t < N → j * N + t < R * N
in_rows R N j t l g = omega (arith, row_fits j R N l)

-- row j, as it is lent
abbrev pub row_part : (N j : ℕ) → List ℕ → List ℕ
row_part N j s = take (j * N + N - j * N) (drop (j * N) s)

module _ (j N : ℕ) (s : List ℕ) where
  pub row_word : (t : ℕ) → t < N → word (row_part N j s) t ≡ word s (j * N + t)
  row_word t l = word-part s (j * N) (j * N + N - j * N) t (omega arith)

  pub row-long : j * N + N ≤ length s → length (row_part N j s) ≡ N
  row-long h = length_part s (j * N) N h

record Place (o N R i : ℕ) : Type 0 where
  row : ℕ
  column : ℕ
  row_low : row < R
  column-low : column < N
  at : i ≡ o + row * N + column

place : (o N R i : ℕ) → zero < N → o ≤ i → i < o + R * N → Place o N R i
place o N R i pos l g = record {
  row = (i - o) / N;
  column = (i - o) % N;
  row_low = (div-lt_iff_lt-mul pos).1 (omega arith);
  column-low = mod-lt (i - o) pos;
  at = let e = div-add-mod' (i - o) N in omega arith;
}

-- word t of row j and word c of row i are one only where the rows and the columns are
pub place-one : (N j t i c : ℕ) → t < N → c < N → j * N + t ≡ i * N + c → (i ≡ j) × (c ≡ t)
place-one N j t i c l u e =
    let z : i ≡ j = ⊎_elim (λ (v : i < j). let z : ⊥ = omega (arith, row_fits i j N v) in absurd z)
    (λ (v : j ≤ i). ⊎_elim (λ (q : j ≡ i). sym q) (λ (w : j < i). let z : ⊥ = omega (arith, row_fits j i N w) in absurd z) (eq-or-lt_of_le v))
    (lt-or-ge i j) in
    (z, omega (arith, ap (λ x. x * N) z))

-- rows with row j, column t changed
module _ (s : List ℕ) (o N j t e : ℕ) (low : t < N) where
  abbrev changed : List ℕ
  changed = set s (o + j * N + t) e

  pub entry-there : o + j * N + t < length s → rows_at changed o N j t ≡ e
  entry-there fits = get_or-set_same s (o + j * N + t) e 0 fits

  pub entry_other : (i c : ℕ) → c < N → ¬ ((i ≡ j) × (c ≡ t)) → rows_at changed o N i c ≡ rows_at s o N i c
  entry_other i c l ne = get_or-set_other s (o + j * N + t) (o + i * N + c) e 0 (λ q. ne (place-one N j t i c low l (omega arith)))

  -- what holds of the new number and of all others holds of every entry
  pub entry-by : o + j * N + t < length s → (P : ℕ → ℕ → ℕ → Type 0) → P j t e → ((i c : ℕ) → c < N → ¬ ((i ≡ j) × (c ≡ t)) → P i c (rows_at s o N i c)) → (i c : ℕ) → c < N → P i c (rows_at changed o N i c)
  entry-by fits P here there i c l = go (ℕ_discrete i j) (ℕ_discrete c t)
    where
      other : ¬ ((i ≡ j) × (c ≡ t)) → P i c (rows_at changed o N i c)
      other ne = subst (P i c) (sym (entry_other i c l ne)) (there i c l ne)

      go : Dec (i ≡ j) → Dec (c ≡ t) → P i c (rows_at changed o N i c)
      go (yes x) (yes y) = subst (λ i. P i c (rows_at changed o N i c)) (sym x) (subst (λ c. P j c (rows_at changed o N j c)) (sym y) (subst (P j t) (sym (entry-there fits)) here))
      go (yes x) (no y) = other (λ z. y z.1)
      go (no x) _ = other (λ z. x z.0)

-- a property of all words before the end, from one for each region
module _ (P : ℕ → Type 0) (D N r : ℕ) (pos : zero < N)
    (header : (i : ℕ) → i < lengths_from → P i)
    (lengths : (j : ℕ) → j < D → P (lengths_from + j))
    (roots : (i : ℕ) → i < r → P (roots_from D + 2 * i))
    (powers : (i : ℕ) → i < r → P (roots_from D + 2 * i + 1))
    (polynomial : (j : ℕ) → j ≤ D → (t : ℕ) → t < N → P (polynomial_from D r + j * N + t))
    (factors : (j : ℕ) → j < D → (t : ℕ) → t < N → P (factors_from D N r + j * N + t)) where
  entries : (i : ℕ) → roots_from D ≤ i → i < polynomial_from D r → P i
  entries i l g = go (dec_le ((i - roots_from D) % 2) 0)
    where
      go : Dec ((i - roots_from D) % 2 ≤ 0) → P i
      go (yes z) = subst P (let e : roots_from D + 2 * ((i - roots_from D) / 2) ≡ i = omega arith in e) (roots ((i - roots_from D) / 2) (omega arith))
      go (no z) = let y = lt_of_not-le z in subst P (let e : roots_from D + 2 * ((i - roots_from D) / 2) + 1 ≡ i = omega arith in e) (powers ((i - roots_from D) / 2) (omega arith))

  rows : (o R i : ℕ) → ((j : ℕ) → j < R → (t : ℕ) → t < N → P (o + j * N + t)) → o ≤ i → i < o + R * N → P i
  rows o R i h l g = let p = place o N R i pos l g in subst P (sym p.at) (h p.row p.row_low p.column p.column-low)

  pub by-region : (i : ℕ) → i < total D N r → P i
  by-region i l = go (dec_le (suc i) lengths_from) (dec_le (suc i) (roots_from D)) (dec_le (suc i) (polynomial_from D r)) (dec_le (suc i) (factors_from D N r))
    where
      go : Dec (suc i ≤ lengths_from) → Dec (suc i ≤ roots_from D) → Dec (suc i ≤ polynomial_from D r) → Dec (suc i ≤ factors_from D N r) → P i
      go (yes a) _ b c = header i a
      go (no a) (yes e) b c = let a' = lt_of_not-le a in subst P (let q : lengths_from + (i - lengths_from) ≡ i = omega arith in q) (lengths (i - lengths_from) (omega arith))
      go (no a) (no e) (yes b) c = let e' = lt_of_not-le e in entries i (omega arith) b
      go (no a) (no e) (no b) (yes c) = let b' = lt_of_not-le b in rows (polynomial_from D r) (D + 1) i (λ j g t u. polynomial j (omega arith) t u) (omega arith) c
      go (no a) (no e) (no b) (no c) = let c' = lt_of_not-le c in rows (factors_from D N r) D i factors (omega arith) (omega arith)

-- a slice with another's D, N and r has its rows where that has them
module _ (s u : List ℕ) (eD : degree u ≡ degree s) (eN : width u ≡ width s) (er : count u ≡ count s) (j t : ℕ) where
  pub entry_read : polynomial u j t ≡ word u (entry_at s j t)
  entry_read = rw (eD, eN, er) refl

  pub factor-read : factor_rows u j t ≡ rows_at u (factors_from (degree s) (width s) (count s)) (width s) j t
  factor-read = rw (eD, eN, er) refl

pub outside-columns : (s u : List ℕ) (a b : ℕ) → zero < width s
    → ((j : ℕ) → j < degree s → (t : ℕ) → t < width s → (t < a) ⊎ (b ≤ t) → rows_at u (factors_from (degree s) (width s) (count s)) (width s) j t ≡ factor_rows s j t)
    → (i : ℕ) → factors_from (degree s) (width s) (count s) ≤ i → i < end s → ¬ InColumns s a b i → word u i ≡ word s i
unfolding place
outside-columns s u a b pos same i l v apart =
    let first = factors_from (degree s) (width s) (count s) in
    let p = place first (width s) (degree s) i pos l (omega arith) in
    subst (λ i. word u i ≡ word s i) (sym p.at) (same p.row p.row_low p.column p.column-low
    (⊎_elim (λ (x : p.column < a). inl x) (λ (x : a ≤ p.column). ⊎_elim (λ (y : p.column < b). absurd (apart (l, v, x, y))) (λ (y : b ≤ p.column). inr y) (lt-or-ge p.column b)) (lt-or-ge p.column a)))
