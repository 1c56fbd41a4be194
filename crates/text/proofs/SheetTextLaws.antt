-- Laws of a sheet's text: where its rows stand, that they have room, and the loops over rows and factors.
-- Assumes nothing.
use Prim.Native.Nat.{ℕ, suc, ◌+◌, ◌-◌, ◌*◌, ◌≤◌, ◌<◌}
use native.Mathlib.Nat.{mul-le-mul, suc-mul, add-mul}
use native.Mathlib.Numerals.{add-one}
use native.Mathlib.Omega.{arith}
use mathlib.Core.Path.{◌≡◌, refl, sym, ap, ap₂, ◌∙◌, fun_ext}
use mathlib.Core.List.{List, ◌++◌}
use lib.ListN.{length, take, drop, length-drop}
use lib.Seq.{ext_get_or, get_or-take, get_or-drop, length-take-le}
use Rattle.algebra.specs.Sums.{sum_to}
use Rattle.algebra.proofs.SumsLaws.{sum_to-suc}
use Rattle.numbers.specs.Words.{word, tabulate}
use Rattle.numbers.proofs.WordsLaws.{length-tabulate, word-tabulate}
use Rattle.layout.proofs.PlacesLaws.{upto-power}
use Rattle.layout.specs.Layout.{rows_at, modulus, degree, width, terms, count, root, power, factor, factors_from, factor_from}
use Rattle.layout.specs.internal.Places.{HeaderIs}
use Rattle.layout.specs.declared.Header.{Header}
use Rattle.job.specs.Limits.{most_degree, most_width}
use Rattle.text.specs.Limits.{text_room}
use Rattle.text.specs.declared.Profile.{Profile}
use Rattle.text.specs.declared.Profile.TheVariants.{Factors, Roots}
use Rattle.text.specs.internal.Rooms.{head_room, root_room, row_room, factors_room}
use Rattle.text.specs.internal.Putting.{Puts, Entries, Listable}
use Rattle.text.specs.Text.{join_to, row_line, row_lines, root_line, head_line, factor_text, listing_text, roots_text}
use Rattle.text.proofs.TextLaws.{puts_none, puts_then, puts-as, join-next}

-- a row where it stands
pub row_is : (s : List ℕ) (start n : ℕ) → start + n ≤ length s → take (start + n - start) (drop start s) ≡ tabulate n (λ t. word s (start + t))
row_is s start n h =
    let l : length (take n (drop start s)) ≡ n = length-take-le n (drop start s) (simp length-drop (omega arith)) in
    ap (λ (k : ℕ). take k (drop start s)) (let z : start + n - start ≡ n = omega arith in z)
    ∙ ext_get_or 0 _ _ (l ∙ sym (length-tabulate n _))
    (λ i g. let g' : i < n = omega arith in get_or-take n (drop start s) i 0 g' ∙ get_or-drop start s i 0 ∙ sym (word-tabulate n (λ t. word s (start + t)) i g'))

pub row-long : (s : List ℕ) (start n : ℕ) → start + n ≤ length s → length (take (start + n - start) (drop start s)) ≡ n
row-long s start n h = ap length (row_is s start n h) ∙ length-tabulate n (λ t. word s (start + t))

-- a loop that puts rows: at its start, one row further, and at its end
module _ (profile : Profile) (p : ℕ) where
  pub rows_start : (n : ℕ) (rows : ℕ → ℕ → ℕ) (at : ℕ) (old : List ℕ) → at ≤ length old → Puts (row_room * 0) (row_lines profile p n 0 rows) at old at old
  unfolding row_lines join_to
  rows_start n rows at old h = puts_none at old h

  pub rows_on : (s : List ℕ) (from n j at : ℕ) {place next : ℕ} {old out new row : List ℕ} → n ≤ most_width → from + j * n + n ≤ length s
      → row ≡ take (from + j * n + n - (from + j * n)) (drop (from + j * n) s)
      → Puts (row_room * j) (row_lines profile p n j (rows_at s from n)) at old place out → Puts (15 + 11 * length row) (row_line profile p j row) place out next new
      → Puts (row_room * (j + 1)) (row_lines profile p n (j + 1) (rows_at s from n)) at old next new
  unfolding row_lines
  rows_on s from n j at {row = row} h l q f g =
      let e : row ≡ tabulate n (λ t. word s (from + j * n + t)) = q ∙ row_is s (from + j * n) n l in
      puts-as (row_room * (j + 1)) (row_lines profile p n (j + 1) (rows_at s from n)) (puts_then f g)
      (ap (λ (r : List ℕ). row_lines profile p n j (rows_at s from n) ++ row_line profile p j r) e ∙ sym (join-next j (λ i. row_line profile p i (tabulate n (rows_at s from n i)))))
      (omega (arith, ap length e, length-tabulate n (λ t. word s (from + j * n + t))))

-- a row stands within its rows
pub row_fits : (from m n j l : ℕ) → from + m * n ≤ l → j < m → from + j * n + n ≤ l
row_fits from m n j l h g =
    let z : suc j * n ≤ m * n = mul-le-mul {n₂ = m} {m₂ = n} g (omega arith) in
    omega (arith, suc-mul j n)

-- rows of entries, by other names of their numbers
pub entries-as : {s : List ℕ} {p o n m q u k l : ℕ} → p ≡ q → o ≡ u → n ≡ k → m ≡ l → Entries q s u k l → Entries p s o n m
entries-as a b c d e = rw (a, b, c, d) e

-- a sheet within a job's limits
module _ (s : List ℕ) (h : Listable s) where
  pub power-few : (i : ℕ) → i < count s → power s i ≤ most_degree
  power-few i l = omega (arith, upto-power s h.placed i l, h.degree-high)

  -- the rows of factor i, by name
  pub factor-rows : (i : ℕ) → (j t : ℕ) → rows_at s (factor_from s i) (width s) j t ≡ factor s i j t
  factor-rows i j t =
      let a = add-mul (sum_to i (power s)) j (width s) in
      ap (word s) (let z : factors_from (degree s) (width s) (count s) + sum_to i (power s) * width s + j * width s + t
      ≡ factors_from (degree s) (width s) (count s) + (sum_to i (power s) + j) * width s + t = omega arith in z)

  -- and their entries
  pub factor-entries : (i : ℕ) → i < count s → Entries (modulus s) s (factor_from s i) (width s) (power s i)
  factor-entries i l = record {
    small = h.entries.small;
    reduced = λ j g t u. rw (factor-rows i j t) (h.entries.reduced (sum_to i (power s) + j) (omega (arith, upto-power s h.placed i l)) t u);
  }

  -- its first line and its rows, by the numbers that were read
  pub factor-put : (i at p from N c m : ℕ) {mid next : ℕ} {old half new : List ℕ} → p ≡ modulus s → from ≡ factor_from s i → N ≡ width s → c ≡ root s i → m ≡ power s i
      → Puts root_room (root_line c m) at old mid half → Puts (row_room * m) (row_lines Factors p N m (rows_at s from N)) mid half next new
      → Puts (root_room + row_room * power s i) (factor_text s i) at old next new
  unfolding factor_text
  factor-put i at p from N c m b e q u v f g =
      let lines : (p N m o : ℕ) → List ℕ = λ p N m o. row_lines Factors p N m (rows_at s o N) in
      let rows = fun_ext (λ j. fun_ext (λ t. factor-rows i j t)) in
      puts-as (root_room + row_room * power s i) (factor_text s i) (puts_then f g)
      (ap₂ ◌++◌ (ap₂ root_line u v) (ap₂ (λ p N. lines p N m from) b q ∙ ap₂ (lines (modulus s) (width s)) v e ∙ ap (row_lines Factors (modulus s) (width s) (power s i)) rows)) (omega arith)

  -- a loop that puts factors: at its start, one factor further, and at its end
  pub factors-none : (at : ℕ) (old : List ℕ) → at ≤ length old → Puts (root_room * 0 + row_room * sum_to 0 (power s)) (join_to 0 (factor_text s)) at old at old
  unfolding join_to
  factors-none at old l = puts-as _ _ (puts_none at old l) refl (omega arith)

  pub factors-on : (i at : ℕ) {place next : ℕ} {old out new : List ℕ} → Puts (root_room * i + row_room * sum_to i (power s)) (join_to i (factor_text s)) at old place out
      → Puts (root_room + row_room * power s i) (factor_text s i) place out next new → Puts (root_room * (i + 1) + row_room * sum_to (i + 1) (power s)) (join_to (i + 1) (factor_text s)) at old next new
  factors-on i at f g =
      let e = sum_to-suc i (power s) in
      let q = ap (λ (k : ℕ). sum_to k (power s)) (add-one i) in
      puts-as (root_room * (i + 1) + row_room * sum_to (i + 1) (power s)) (join_to (i + 1) (factor_text s)) (puts_then f g) (sym (join-next i (factor_text s))) (omega arith)

  -- room for the next factor
  pub factors-room : (i : ℕ) → i < count s → root_room * i + row_room * sum_to i (power s) + (root_room + row_room * power s i) ≤ factors_room
  factors-room i l = omega (arith, upto-power s h.placed i l, h.degree-high, h.count-high)

-- line 1, and then the factors, or the roots by the numbers that were read
pub listing-put : (s : List ℕ) {mid next : ℕ} {old half new : List ℕ} → Puts head_room (head_line (modulus s) (terms s) (degree s) (count s)) 0 old mid half
    → Puts factors_room (join_to (count s) (factor_text s)) mid half next new → Puts text_room (listing_text s) 0 old next new
unfolding listing_text
listing-put s f g = puts-as text_room (listing_text s) (puts_then f g) refl (omega arith)

pub roots-put : (s t : List ℕ) (h : Header) → HeaderIs s h → count s ≤ most_degree → {mid next : ℕ} {old half new : List ℕ} → Puts head_room (head_line (modulus s) (terms s) (degree s) (count s)) 0 old mid half
    → Puts (row_room * h.count) (row_lines Roots h.p h.width h.count (rows_at t 0 h.width)) mid half next new → Puts text_room (roots_text s t) 0 old next new
unfolding roots_text
roots-put s t h e l f g =
    let lines : (p N m : ℕ) → List ℕ = λ p N m. row_lines Roots p N m (rows_at t 0 N) in
    puts-as text_room (roots_text s t) (puts_then f g)
    (ap (λ (x : List ℕ). head_line (modulus s) (terms s) (degree s) (count s) ++ x) (ap₂ (λ p N. lines p N h.count) e.p-is e.width_is ∙ ap (lines (modulus s) (width s)) e.count-is))
    (omega (arith, e.count-is))
