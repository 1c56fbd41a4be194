-- That the places of a sheet are within the slice, and the numbers on the way there small.
--   placed-entries     the roots and powers are there
--   upto-power, each-power, rows_before   the powers up to one, one, and those before it come to at most the degree
--   lower-within, polynomial-within, factors-within   the polynomial's lower rows, all its rows and the factors' rows end within the slice
--   entry-within       so does each of their words
--   lent-long, lent-word     the first rows of the polynomial as they are lent; lower_long, lower_word: all but the top one
--   factor-within      the rows of a factor end within the slice
--   factor-small       and the products on the way there are small
--   header-polynomial, header-entry, header-factors, header-end, header-size, header-rows   the places that a header read by value gives
--   all-rows-small     a product of rows and columns is small
--   part-is            the part from there to there is the factor's
-- Assumes nothing.
use Prim.Native.Nat.{ℕ, suc, ◌+◌, ◌-◌, ◌*◌, ◌≤◌, ◌<◌}
use native.Mathlib.Nat.{add-sub_cancel_left, mul-le-mul, mul-le-mul_right, add-mul}
use native.Mathlib.Omega.{arith}
use mathlib.Core.Path.{◌≡◌, ◌∙◌, ap, ap₂}
use mathlib.Core.List.{List}
use lib.ListN.{length, take, drop, length-drop}
use lib.Seq.{length-take-le}
use Rattle.algebra.specs.Sums.{sum_to}
use Rattle.algebra.proofs.SumsLaws.{sum_to-suc, sum_to-mono}
use Rattle.numbers.specs.Limits.{largest_degree, largest_width}
use Rattle.numbers.specs.Words.{word, part}
use Rattle.numbers.proofs.WordsLaws.{word-part}
use Rattle.numbers.proofs.RefusalsLaws.{few_words}
use Rattle.rows.proofs.RowsLaws.{row_fits}
use Rattle.layout.specs.declared.Header.{Header}
use Rattle.layout.specs.Layout.{degree, width, count, power, polynomial, end, polynomial_from, factors_from, total, factor_from, factor_size, factor_part, entry_at}
use Rattle.layout.specs.internal.Places.{Placed, HeaderIs}

-- the rows of a sheet are few
pub all-rows-small : (rows n : ℕ) → rows ≤ 1200 → n ≤ largest_width → rows * n ≤ 307200
all-rows-small rows n h g = mul-le-mul {n₂ = 1200} {m₂ = largest_width} h g

-- the three products
pub record Small (s : List ℕ) (i : ℕ) : Type 0 where
  pub polynomial : (degree s + 1) * width s ≤ 8448
  pub before : sum_to i (power s) * width s ≤ 8448
  pub here : factor_size s i ≤ 8448

-- what was read of the header, put to use
module _ (s : List ℕ) (h : Header) (e : HeaderIs s h) where
  pub header-polynomial : polynomial_from h.degree h.count ≡ polynomial_from (degree s) (count s)
  header-polynomial = simp (e.degree-is, e.count-is)

  pub header-entry : (j t : ℕ) → polynomial_from h.degree h.count + j * h.width + t ≡ entry_at s j t
  header-entry j t = simp (e.degree-is, e.width_is, e.count-is)

  pub header-factors : factors_from h.degree h.width h.count ≡ factors_from (degree s) (width s) (count s)
  header-factors = simp (e.degree-is, e.width_is, e.count-is)

  pub header-end : total h.degree h.width h.count ≡ end s
  header-end = simp (e.degree-is, e.width_is, e.count-is)

  pub header-size : h.degree * h.width ≡ degree s * width s
  header-size = ap₂ (λ (x y : ℕ). x * y) e.degree-is e.width_is

  pub header-rows : (h.degree + 1) * h.width ≡ (degree s + 1) * width s
  header-rows = ap₂ (λ (x y : ℕ). (x + 1) * y) e.degree-is e.width_is

module _ (s : List ℕ) (h : Placed s) where
  pub placed-entries : polynomial_from (degree s) (count s) ≤ length s
  placed-entries = let l = h.long in omega arith

  pub upto-power : (i : ℕ) → i < count s → sum_to i (power s) + power s i ≤ degree s
  upto-power i l = let d = h.powers-sum in omega (arith, sum_to-mono (suc i) (count s) (power s) l, sum_to-suc i (power s))

  pub each-power : (i : ℕ) → i < count s → power s i ≤ largest_degree
  each-power i l = let z = upto-power i l in let e = h.degree-high in omega arith

  pub rows_before : (i : ℕ) → i < count s → sum_to i (power s) ≤ largest_degree
  rows_before i l = let z = upto-power i l in let e = h.degree-high in omega arith

  pub lower-within : polynomial_from (degree s) (count s) + degree s * width s ≤ length s
  lower-within = let l = h.long in omega arith

  pub entry-within : (j : ℕ) → j < degree s → (t : ℕ) → t < width s → entry_at s j t < polynomial_from (degree s) (count s) + degree s * width s
  entry-within j l t u = omega (arith, row_fits j (degree s) (width s) l)

  pub polynomial-within : polynomial_from (degree s) (count s) + (degree s + 1) * width s ≤ length s
  polynomial-within = let l = h.long in omega arith

  -- the first m rows of the polynomial as they are lent
  module _ (m : ℕ) (few : m ≤ degree s + 1) (rows : List ℕ) (e : rows ≡ part s (polynomial_from (degree s) (count s)) (m * width s)) where
    pub lent-long : length rows ≡ m * width s
    lent-long =
        let from = polynomial_from (degree s) (count s) in
        ap length e ∙ length-take-le (m * width s) (drop from s) (omega (arith, length-drop from s, polynomial-within, mul-le-mul_right (width s) few))

    pub lent-word : (j : ℕ) → j < m → (t : ℕ) → t < width s → word rows (j * width s + t) ≡ polynomial s j t
    lent-word j l t u =
        let from = polynomial_from (degree s) (count s) in
        ap (λ x. word x (j * width s + t)) e ∙ word-part s from (m * width s) (j * width s + t) (omega (arith, row_fits j m (width s) l))
        ∙ ap (word s) (let z : from + (j * width s + t) ≡ from + j * width s + t = omega arith in z)

  -- all of them but the top one
  module _ (lower : List ℕ) (e : lower ≡ part s (polynomial_from (degree s) (count s)) (degree s * width s)) where
    pub lower_long : length lower ≡ degree s * width s
    lower_long = lent-long (degree s) (omega arith) lower e

    pub lower_word : (j : ℕ) → j < degree s → (t : ℕ) → t < width s → word lower (j * width s + t) ≡ polynomial s j t
    lower_word = lent-word (degree s) (omega arith) lower e

  pub factors-within : factors_from (degree s) (width s) (count s) + degree s * width s ≤ length s
  factors-within = let l = h.long in omega arith

  pub factor-within : (i : ℕ) → i < count s → factor_from s i + factor_size s i ≤ length s
  factor-within i l =
      let N = width s in
      let z = mul-le-mul_right N (upto-power i l) in
      let y = add-mul (sum_to i (power s)) (power s i) N in
      let e : (2 * degree s + 1) * N ≡ (degree s + 1) * N + degree s * N = ap (λ x. x * N) (let q : 2 * degree s + 1 ≡ (degree s + 1) + degree s = omega arith in q) ∙ add-mul (degree s + 1) (degree s) N in
      let l = h.long in
      omega arith

  pub factor-small : (i : ℕ) → i < count s → Small s i
  factor-small i l =
      let d = h.degree-high in
      let n = h.width-high in
      let p = each-power i l in
      let q = rows_before i l in
      record { polynomial = few_words (degree s + 1) (width s) (omega arith) n; before = few_words (sum_to i (power s)) (width s) (omega arith) n; here = few_words (power s i) (width s) (omega arith) n }

-- the part from a to a + e, where a and e are the factor's
pub part-is : (s : List ℕ) (i a e : ℕ) → a ≡ factor_from s i → e ≡ factor_size s i → take (a + e - a) (drop a s) ≡ factor_part s i
part-is s i a e p q = simp (add-sub_cancel_left, p, q)
