-- Laws of row polynomials: the words of rows and tables, what the passes of a product and the weights of a shift add up, and that it fits.
-- Assumes nothing.
use mathlib.Core.Path.{◌≡◌, refl, sym, ap, ap₂, subst, ◌∙◌}
use mathlib.Core.Logic.{⊎_elim}
use mathlib.Core.List.{List, [], ◌∷◌, ◌++◌}
use Prim.Native.Nat.{ℕ, zero, suc, ◌+◌, ◌-◌, ◌*◌, ◌%◌, ◌≤◌, ◌<◌, ◌/◌}
use native.Mathlib.Nat.{eq-or-lt_of_le, mod-lt, mod-eq_of_lt, mul-le-mul, mul-zero, zero-mul, zero-mod, add_assoc, div-add-mod', div-lt_iff_lt-mul}
use native.Mathlib.Numerals.{add-one}
use native.Mathlib.Omega.{arith}
use borrow.Author.Tests.{lt-ltb, le-ltb}
use lib.ListN.{length, take, drop, set, length-append, length-drop, get_or-append}
use lib.Seq.{get_or-append-add, get_or-drop, get_or-take, get_or-set_other, set-set, set-get_or, take_all, take_at, take-add, ext_get_or, length-take-le}
use Rattle.algebra.specs.Sums.{sum_to}
use Rattle.algebra.proofs.SumsLaws.{sum_to-ext, sum_to-bound, sum_to-zeros, sum_to-append}
use Rattle.numbers.specs.Words.{word, tabulate, over}
use Rattle.numbers.specs.internal.Facts.{AllBelow}
use Rattle.numbers.proofs.WordsLaws.{lt-or-ge, length-tabulate, word-tabulate, tabulate-ext, tabulate-below, Writing, writing-part, over-whole, from, length_from, word-from, append-below}
use Rattle.numbers.specs.internal.Limits.{modulus_bound}
use Rattle.numbers.specs.Limits.{most_rows, largest_width}
use Rattle.numbers.proofs.RefusalsLaws.{few_words}
use Rattle.series.specs.internal.Dot.{dot_sum}
use Rattle.series.proofs.SeriesLaws.{word_below, sum-next}
use Rattle.rows.specs.Rows.{rows_of, table, mul, line_power, shifted}
use Rattle.rows.specs.internal.Passes.{pass_sum, weight_sum, next_weight}

-- rows
pub rows-below : (s : List ℕ) (N rows j t : ℕ) → j < rows → rows_of s N rows j t ≡ word s (j * N + t)
unfolding rows_of
rows-below s N rows j t h = rw (lt-ltb j rows h)

pub rows-past : (s : List ℕ) (N rows j t : ℕ) → rows ≤ j → rows_of s N rows j t ≡ 0
unfolding rows_of
rows-past s N rows j t h = rw (le-ltb j rows h)

pub rows_bound : (p : ℕ) (s : List ℕ) (N rows j t : ℕ) → 1 ≤ p → AllBelow p s → rows_of s N rows j t < p
rows_bound p s N rows j t pos b =
    ⊎_elim
    (λ (l : j < rows). rw (rows-below s N rows j t l) (word_below p s pos b (j * N + t)))
    (λ (l : rows ≤ j). rw (rows-past s N rows j t l) pos)
    (lt-or-ge j rows)

-- a row lies within its table
pub row_fits : (j rows n : ℕ) → j < rows → j * n + n ≤ rows * n
row_fits j rows n h = let l : (j + 1) * n ≤ rows * n = mul-le-mul {n₂ = rows} {m₂ = n} (omega arith) (omega arith) in omega arith

-- row j of so many rows in s, as a loop reaches it
pub record RowIn (j n : ℕ) (s : List ℕ) : Type 0 where
  pub start : j * n ≤ 8448
  pub end : j * n + n ≤ 8448
  pub front : j * n ≤ length s
  pub within : j * n + n ≤ length s

pub row_in : (j rows n : ℕ) (s : List ℕ) → j < rows → rows ≤ most_rows → n ≤ largest_width → rows * n ≤ length s → RowIn j n s
row_in j rows n s l h w e =
    let a = row_fits j rows n l in
    let b = few_words rows n h w in
    record { start = omega arith; end = omega arith; front = omega arith; within = omega arith }

-- tables
pub table_none : (N : ℕ) (a : ℕ → ℕ → ℕ) → table 0 N a ≡ []
unfolding table
table_none N a = refl

pub table-suc : (j N : ℕ) (a : ℕ → ℕ → ℕ) → table (j + 1) N a ≡ table j N a ++ tabulate N (a j)
unfolding table
table-suc j N a = rw add-one

pub length-table : (rows N : ℕ) (a : ℕ → ℕ → ℕ) → length (table rows N a) ≡ rows * N
unfolding table
length-table zero N a = omega arith
length-table (suc j) N a = simp (length-append, length-table j N a, length-tabulate) (omega arith)

pub word-table : (rows N : ℕ) (a : ℕ → ℕ → ℕ) (j t : ℕ) → j < rows → t < N → word (table rows N a) (j * N + t) ≡ a j t
unfolding table
word-table zero N a j t h g = omega arith
word-table (suc k) N a j t h g =
    ⊎_elim
    (λ (e : j ≡ k).
    let q : j * N + t ≡ length (table k N a) + t = omega (arith, length-table k N a, ap (λ (x : ℕ). x * N) e) in
    ap (word (table k N a ++ tabulate N (a k))) q ∙ get_or-append-add (table k N a) (tabulate N (a k)) t 0
    ∙ word-tabulate N (a k) t g ∙ ap (λ (x : ℕ). a x t) (sym e))
    (λ (l : j < k).
    get_or-append (table k N a) (tabulate N (a k)) 0 (j * N + t) (omega (arith, length-table k N a, row_fits j k N l)) ∙ word-table k N a j t l g)
    (eq-or-lt_of_le {n = j} {m = k} (omega arith))

pub table-ext : (rows N : ℕ) (a b : ℕ → ℕ → ℕ) → ((j t : ℕ) → j < rows → t < N → a j t ≡ b j t) → table rows N a ≡ table rows N b
unfolding table
table-ext zero N a b h = refl
table-ext (suc j) N a b h = rw (table-ext j N a b (λ i t l g. h i t (omega arith) g), tabulate-ext N (a j) (b j) (λ t g. h j t (omega arith) g))

pub table_below : (p rows N : ℕ) (a : ℕ → ℕ → ℕ) → ((j t : ℕ) → j < rows → t < N → a j t < p) → AllBelow p (table rows N a)
unfolding table
table_below p zero N a b = λ k h. omega arith
table_below p (suc j) N a b = append-below p (table j N a) (tabulate N (a j)) (table_below p j N a (λ i t u g. b i t (omega arith) g)) (tabulate-below p N (a j) (λ t g. b j t (omega arith) g))

-- a table that is read back from its words
tabulate-part : (s : List ℕ) (a n : ℕ) (f : ℕ → ℕ) → a + n ≤ length s → ((k : ℕ) → k < n → f k ≡ word s (a + k)) → tabulate n f ≡ take n (drop a s)
tabulate-part s a n f h e =
    ext_get_or 0 (tabulate n f) (take n (drop a s)) (length-tabulate n f ∙ sym (length-take-le n (drop a s) (simp length-drop (omega arith)))) (λ i l.
    let u : i < n = omega (arith, length-tabulate n f) in
    word-tabulate n f i u ∙ e i u ∙ sym (get_or-take n (drop a s) i 0 u ∙ get_or-drop a s i 0))

table-front : (s : List ℕ) (rows N : ℕ) → length s ≡ rows * N → (j : ℕ) → j ≤ rows → table j N (rows_of s N rows) ≡ take (j * N) s
unfolding table
table-front s rows N e zero h = ap (λ (k : ℕ). take k s) (sym (zero-mul N))
table-front s rows N e (suc j) h =
    let q : j * N + N ≡ suc j * N = omega arith in
    ap₂ ◌++◌ (table-front s rows N e j (omega arith))
    (tabulate-part s (j * N) N (rows_of s N rows j) (omega (arith, row_fits j rows N (omega arith))) (λ t _. rows-below s N rows j t (omega arith)))
    ∙ sym (take-add (j * N) N s) ∙ ap (λ (k : ℕ). take k s) q

pub table-rows : (s : List ℕ) (rows N : ℕ) → length s ≡ rows * N → table rows N (rows_of s N rows) ≡ s
table-rows s rows N e = table-front s rows N e rows (omega arith) ∙ take_all (rows * N) s (omega arith)

-- summand i of pass_sum, as the loop reads it
abbrev pub pass_term : (a b : ℕ → ℕ → ℕ) (j skip count i : ℕ) → ℕ
pass_term a b j skip count i = sum_to count (λ s. a i (skip + s) * b (j - i) (skip + (count - (s + 1))))

-- a pass along row i of s begins in column `skip`
pub record PassAt (i n skip count : ℕ) (s : List ℕ) : Type 0 where
  pub row : i * n ≤ 8448
  pub place : i * n + skip ≤ 8448
  pub within : i * n + skip ≤ length s
  pub long : count ≤ length (from s (i * n + skip))

pub pass-at : (i rows n skip count : ℕ) (s : List ℕ) → i < rows → rows ≤ most_rows → n ≤ largest_width → skip + count ≤ n → length s ≡ rows * n → PassAt i n skip count s
pass-at i rows n skip count s l h w f e =
    let r = row_in i rows n s l h w (omega arith) in
    record { row = r.start; place = omega arith; within = omega arith; long = omega (arith, length_from s (i * n + skip)) }

module _ (f : List ℕ) (frows : ℕ) (g : List ℕ) (grows n j skip count : ℕ) where
  abbrev term : ℕ → ℕ
  term = pass_term (rows_of f n frows) (rows_of g n grows) j skip count

  before-zero : (i : ℕ) → i < j + 1 - grows → term i ≡ 0
  before-zero i h =
      sum_to-zeros count _ (λ s _. ap (λ (x : ℕ). rows_of f n frows i (skip + s) * x) (rows-past g n grows (j - i) (skip + (count - (s + 1))) (omega arith)) ∙ mul-zero _)

  after-zero : (i : ℕ) → frows ≤ i → term i ≡ 0
  after-zero i h =
      sum_to-zeros count _ (λ s _. ap (λ (x : ℕ). x * rows_of g n grows (j - i) (skip + (count - (s + 1)))) (rows-past f n frows i (skip + s) h) ∙ zero-mul _)

  -- before the first row that both have, nothing is summed
  pub pass-none : sum_to (j + 1 - grows) term ≡ 0
  pass-none = sum_to-zeros (j + 1 - grows) term before-zero

  -- and past the last
  pub pass_all : (i : ℕ) → j + 1 - (j + 1 - frows) ≤ i → i ≤ j + 1 → sum_to i term ≡ pass_sum (rows_of f n frows) (rows_of g n grows) j skip count
  unfolding pass_sum
  pass_all i h l =
      let q : i + (j + 1 - i) ≡ suc j = omega arith in
      let z : sum_to (j + 1 - i) (λ k. term (i + k)) ≡ 0 = sum_to-zeros (j + 1 - i) _ (λ k u. after-zero (i + k) (omega arith)) in
      let e = sum_to-append i (j + 1 - i) term in
      (let r : sum_to i term ≡ sum_to (i + (j + 1 - i)) term = omega arith in r) ∙ ap (λ (x : ℕ). sum_to x term) q

  -- a pass along row i of f and row j − i of g
  pub row-dot : (i : ℕ) {x : ℕ} → i < frows → j - i < grows → x ≡ dot_sum (from f (i * n + skip)) (from g ((j - i) * n + skip)) count → x ≡ term i
  unfolding dot_sum
  row-dot i h l e =
      e ∙ sum_to-ext count (λ s _.
      ap₂ ◌*◌ (word-from f (i * n + skip) s ∙ ap (word f) (add_assoc (i * n) skip s) ∙ sym (rows-below f n frows i (skip + s) h))
      (word-from g ((j - i) * n + skip) (count - (s + 1)) ∙ ap (word g) (add_assoc ((j - i) * n) skip (count - (s + 1))) ∙ sym (rows-below g n grows (j - i) (skip + (count - (s + 1))) l)))

  -- one pass more
  pub pass-next : (i : ℕ) {sum x : ℕ} → sum ≡ sum_to i term → x ≡ term i → sum + x ≡ sum_to (i + 1) term
  pass-next i e g = ap₂ ◌+◌ e g ∙ sym (sum-next i term)

  module _ (fb : AllBelow modulus_bound f) (gb : AllBelow modulus_bound g) (low : count ≤ largest_width) where
    pass-bound : (i : ℕ) → term i ≤ 256 * (16777215 * 16777215)
    pass-bound i =
        let l = sum_to-bound count (16777215 * 16777215) (λ s. rows_of f n frows i (skip + s) * rows_of g n grows (j - i) (skip + (count - (s + 1)))) (λ s _.
        mul-le-mul {n₂ = 16777215} {m₂ = 16777215} (omega (arith, rows_bound modulus_bound f n frows i (skip + s) (omega arith) fb))
        (omega (arith, rows_bound modulus_bound g n grows (j - i) (skip + (count - (s + 1))) (omega arith) gb))) in
        omega arith

    pub passes-bound : (i : ℕ) → sum_to i term ≤ i * (256 * (16777215 * 16777215))
    passes-bound i = sum_to-bound i (256 * (16777215 * 16777215)) term (λ k _. pass-bound k)

    pub pass_fits : (i : ℕ) {sum x : ℕ} → i < most_rows → sum ≡ sum_to i term → x ≡ term i → sum + x < 18446744073709551616
    pass_fits i l e g = omega (arith, passes-bound (i + 1), sum-next i term)

-- passes along t + 1 columns give column t of the product
pub pass-column : (p : ℕ) (a b : ℕ → ℕ → ℕ) (j t : ℕ) → pass_sum a b j 0 (t + 1) % p ≡ mul p a b j t
unfolding pass_sum mul
pass-column p a b j t =
    ap (λ (x : ℕ). x % p) (sum_to-ext (suc j) (λ i _.
    ap (λ (k : ℕ). sum_to k (λ s. a i (0 + s) * b (j - i) (0 + (t + 1 - (s + 1))))) (add-one t)
    ∙ sum_to-ext (suc t) (λ s _. ap₂ (λ (x y : ℕ). a i x * b (j - i) y) (let e : 0 + s ≡ s = omega arith in e) (let e : 0 + (t + 1 - (s + 1)) ≡ t - s = omega arith in e))))

-- a word that a loop has written
pub writing-word : (n : ℕ) (f : ℕ → ℕ) (s e : List ℕ) (k : ℕ) → Writing (tabulate n f) s e → k < n → word e k ≡ f k
writing-word n f s e k w h =
    ap (λ (l : List ℕ). word l k) w.is ∙ get_or-append (tabulate n f) (drop (length (tabulate n f)) s) 0 k (omega (arith, length-tabulate n f)) ∙ word-tabulate n f k h

-- the first word is written before the loop
pub writing-first : (f : ℕ → ℕ) (s : List ℕ) (v : ℕ) → 1 ≤ length s → v ≡ f 0 → Writing (tabulate 1 f) (set s 0 v) (set s 0 v)
unfolding tabulate
writing-first f [] v h q = absurd (let z : ⊥ = omega arith in z)
writing-first f (x ∷ xs) v h q = record { is = ap (λ (y : ℕ). y ∷ xs) q; long = refl }

-- the whole list is written
pub writing-whole : (n : ℕ) (f : ℕ → ℕ) (s e : List ℕ) → Writing (tabulate n f) s e → n ≡ length s → e ≡ tabulate n f
writing-whole n f s e w q = w.is ∙ over-whole (tabulate n f) s (length-tabulate n f ∙ q)

-- powers of Y + c
pub line-one : (p c : ℕ) → 1 ≡ line_power p c 0 0
unfolding line_power
line-one p c = refl

pub line_first : (p c i : ℕ) → 1 ≤ i → c * line_power p c (i - 1) 0 % p ≡ line_power p c i 0
unfolding line_power
line_first p c zero h = absurd (let z : ⊥ = omega arith in z)
line_first p c (suc i) h = ap (λ (k : ℕ). c * line_power p c k 0 % p) (let e : suc i - 1 ≡ i = omega arith in e)

pub line-lt : (p c i j : ℕ) → 2 ≤ p → line_power p c i j < p
unfolding line_power
line-lt p c zero zero h = omega arith
line-lt p c zero (suc j) h = omega arith
line-lt p c (suc i) zero h = mod-lt _ (omega arith)
line-lt p c (suc i) (suc j) h = mod-lt _ (omega arith)

-- (Y + c)^i has degree i
pub line-zero : (p c i j : ℕ) → i < j → line_power p c i j ≡ 0
unfolding line_power
line-zero p c zero zero h = absurd (let z : ⊥ = omega arith in z)
line-zero p c zero (suc j) h = refl
line-zero p c (suc i) zero h = absurd (let z : ⊥ = omega arith in z)
line-zero p c (suc i) (suc j) h = rw (line-zero p c i (suc j) (omega arith), line-zero p c i j (omega arith), mul-zero c) (zero-mod p)

-- and is monic
pub line-top : (p c i : ℕ) → 2 ≤ p → line_power p c i i ≡ 1
unfolding line_power
line-top p c zero two = refl
line-top p c (suc i) two = rw (line-zero p c i (suc i) (omega arith), line-top p c i two) (ap (λ x. x % p) (let z : c * 0 + 1 ≡ 1 = omega arith in z) ∙ mod-eq_of_lt two)

-- the list that `next_weights` had, before its first word was put to 0
abbrev pub before : (s : List ℕ) (b : ℕ) → List ℕ
before s b = set s 0 b

pub before-is : (s : List ℕ) (v : ℕ) → before (set s 0 v) (word s 0) ≡ s
before-is s v = set-set s 0 v (word s 0) ∙ set-get_or s 0 0

pub before-word : (s : List ℕ) (b i : ℕ) → 1 ≤ i → word s i ≡ word (before s b) i
before-word s b i h = sym (get_or-set_other s 0 i b 0 (λ e. let z : ⊥ = omega arith in z))

pub next-first : (p c : ℕ) (w : ℕ → ℕ) → 0 ≡ next_weight p c w 0
unfolding next_weight
next-first p c w = refl

pub next-turn : (p c : ℕ) (w : ℕ → ℕ) (i a b : ℕ) → 1 ≤ i → a ≡ next_weight p c w (i - 1) → b ≡ w (i - 1) → (c * a + b) % p ≡ next_weight p c w i
unfolding next_weight
next-turn p c w zero a b h x y = absurd (let z : ⊥ = omega arith in z)
next-turn p c w (suc i) a b h x y = let e : suc i - 1 ≡ i = omega arith in rw (x, y, e)

-- from the coefficients of Y^j to those of Y^(j+1)
pub next-line : (p c : ℕ) (w : ℕ → ℕ) (j i : ℕ) → ((k : ℕ) → k < i → w k ≡ line_power p c k j) → next_weight p c w i ≡ line_power p c i (suc j)
unfolding next_weight line_power
next-line p c w j zero h = refl
next-line p c w j (suc i) h = rw (next-line p c w j i (λ k l. h k (omega arith)), h i (omega arith))

-- summand i of weight_sum, as the loop reads it
abbrev pub weight_term : (f : List ℕ) (n : ℕ) (weights : List ℕ) (t i : ℕ) → ℕ
weight_term f n weights t i = word f (i * n + t) * word weights i

pub weight_is : (f : List ℕ) (n : ℕ) (weights : List ℕ) (t : ℕ) → sum_to (length weights) (weight_term f n weights t) ≡ weight_sum f n weights t
unfolding weight_sum
weight_is f n weights t = refl

module _ (f : List ℕ) (n : ℕ) (weights : List ℕ) (t : ℕ) (fb : AllBelow modulus_bound f) (wb : AllBelow modulus_bound weights) where
  pub weight-bound : (i : ℕ) → weight_term f n weights t i ≤ 16777215 * 16777215
  weight-bound i =
      mul-le-mul {n₂ = 16777215} {m₂ = 16777215} (omega (arith, word_below modulus_bound f (omega arith) fb (i * n + t)))
      (omega (arith, word_below modulus_bound weights (omega arith) wb i))

  pub weights-bound : (i : ℕ) → sum_to i (weight_term f n weights t) ≤ i * (16777215 * 16777215)
  weights-bound i = sum_to-bound i (16777215 * 16777215) (weight_term f n weights t) (λ k _. weight-bound k)

-- the weights of row j of the shift, as the array holds them
abbrev pub Weights : (p c rows j : ℕ) (ws : List ℕ) → Type 0
Weights p c rows j ws = take rows ws ≡ tabulate rows (λ i. line_power p c i j)

-- rows below j have weight 0, so that the sum may begin with row j
pub weight-row : (p c : ℕ) (f : List ℕ) (rows n j t : ℕ) (ws : List ℕ) → j ≤ rows → rows ≤ length ws → Weights p c rows j ws
    → weight_sum (from f (j * n)) n (take (rows - j) (drop j ws)) t % p ≡ shifted p rows c (rows_of f n rows) j t
unfolding weight_sum shifted
weight-row p c f rows n j t ws h l e =
    let F : ℕ → ℕ = λ i. rows_of f n rows i t * line_power p c i j in
    let q : j + (rows - j) ≡ rows = omega arith in
    let long : length (take (rows - j) (drop j ws)) ≡ rows - j = length-take-le (rows - j) (drop j ws) (simp length-drop (omega arith)) in
    let z : sum_to j F ≡ 0 = sum_to-zeros j F (λ i u. ap (λ (x : ℕ). rows_of f n rows i t * x) (line-zero p c i j u) ∙ mul-zero _) in
    let weight : (i : ℕ) → i < rows - j → word (take (rows - j) (drop j ws)) i ≡ line_power p c (j + i) j = λ i u.
    get_or-take (rows - j) (drop j ws) i 0 u ∙ get_or-drop j ws i 0 ∙ sym (get_or-take rows ws (j + i) 0 (omega arith))
    ∙ ap (λ (s : List ℕ). word s (j + i)) e ∙ word-tabulate rows (λ i. line_power p c i j) (j + i) (omega arith) in
    let at : (i : ℕ) → i < rows - j → word (from f (j * n)) (i * n + t) ≡ rows_of f n rows (j + i) t = λ i u.
    word-from f (j * n) (i * n + t) ∙ ap (word f) (let y : j * n + (i * n + t) ≡ (j + i) * n + t = omega arith in y) ∙ sym (rows-below f n rows (j + i) t (omega arith)) in
    ap (λ (x : ℕ). x % p)
    (ap (λ (k : ℕ). sum_to k (λ i. word (from f (j * n)) (i * n + t) * word (take (rows - j) (drop j ws)) i)) long
    ∙ sum_to-ext (rows - j) (λ i u. ap₂ ◌*◌ (at i u) (weight i u))
    ∙ (let y : sum_to (rows - j) (λ i. F (j + i)) ≡ sum_to (j + (rows - j)) F = omega (arith, sum_to-append j (rows - j) F) in y)
    ∙ ap (λ (k : ℕ). sum_to k F) q)

-- the part of a row, as the rule for `&mut out[a..a + n]` gives it
pub length_part : (s : List ℕ) (a n : ℕ) → a + n ≤ length s → length (take (a + n - a) (drop a s)) ≡ n
length_part s a n h =
    let q : a + n - a ≡ n = omega arith in
    ap (λ (k : ℕ). length (take k (drop a s))) q ∙ length-take-le n (drop a s) (simp length-drop (omega arith))

-- one row more
pub writing-row : (j n : ℕ) (a : ℕ → ℕ → ℕ) (s e ys : List ℕ) → Writing (table j n a) s e → ys ≡ tabulate n (a j) → j * n + n ≤ length s
    → Writing (table (j + 1) n a) s (take (j * n) e ++ (ys ++ drop (j * n + n - j * n) (drop (j * n) e)))
writing-row j n a s e ys w q h =
    let k : j * n + n - j * n ≡ n = omega arith in
    rw (table-suc j n a, q, k) (writing-part (table j n a) (tabulate n (a j)) s e (j * n) n w (length-table j n a) (length-tabulate n (a j)) h)

-- the last row is written
pub writing-rows : (j rows n : ℕ) (a : ℕ → ℕ → ℕ) (s e : List ℕ) → Writing (table j n a) s e → j ≡ rows → e ≡ over (table rows n a) s
writing-rows j rows n a s e w q = w.is ∙ ap (λ (k : ℕ). over (table k n a) s) q

-- new words in front of the array
weights-put : (rows : ℕ) (old ws : List ℕ) (m : ℕ) (f g : ℕ → ℕ) → rows ≤ length old → ws ≡ tabulate m f → m ≡ rows → ((k : ℕ) → k < rows → f k ≡ g k)
    → (take rows (ws ++ drop rows old) ≡ tabulate rows g) × (length (ws ++ drop rows old) ≡ length old)
weights-put rows old ws m f g h e q ext =
    let e' : ws ≡ tabulate rows g = e ∙ ap (λ (k : ℕ). tabulate k f) q ∙ tabulate-ext rows f g ext in
    let l : length ws ≡ rows = ap length e' ∙ length-tabulate rows g in
    (take_at ws (drop rows old) rows l ∙ e', simp (length-append, length-drop) (omega arith))

pub weights-first : (p c rows : ℕ) (old ws : List ℕ) → rows ≤ length old → ws ≡ tabulate (length (take rows old)) (λ i. line_power p c i 0)
    → Weights p c rows 0 (ws ++ drop rows old) × (length (ws ++ drop rows old) ≡ length old)
weights-first p c rows old ws h e = weights-put rows old ws (length (take rows old)) _ (λ i. line_power p c i 0) h e (length-take-le rows old h) (λ k _. refl)

pub weights-next : (p c rows j : ℕ) (old ws : List ℕ) → rows ≤ length old → Weights p c rows j old
    → ws ≡ tabulate (length (take rows old)) (next_weight p c (word (take rows old)))
    → Weights p c rows (j + 1) (ws ++ drop rows old) × (length (ws ++ drop rows old) ≡ length old)
weights-next p c rows j old ws h w e =
    weights-put rows old ws (length (take rows old)) _ (λ i. line_power p c i (j + 1)) h e (length-take-le rows old h) (λ i u.
    next-line p c (word (take rows old)) j i (λ k v. ap (λ (s : List ℕ). word s k) w ∙ word-tabulate rows (λ i. line_power p c i j) k (omega arith))
    ∙ ap (line_power p c i) (sym (add-one j)))

pub weights-below : (p c rows j : ℕ) (ws : List ℕ) → 2 ≤ p → Weights p c rows j ws → AllBelow p (take rows ws)
weights-below p c rows j ws h w = subst (AllBelow p) (sym w) (tabulate-below p rows _ (λ k _. line-lt p c k j h))

-- `&weights[j..rows]`
module _ (rows j : ℕ) (ws : List ℕ) (h : j ≤ rows) (l : rows ≤ length ws) where
  pub length_rest : length (take (rows - j) (drop j ws)) ≡ rows - j
  length_rest = length-take-le (rows - j) (drop j ws) (simp length-drop (omega arith))

  pub rest_below : (p : ℕ) → AllBelow p (take rows ws) → AllBelow p (take (rows - j) (drop j ws))
  rest_below p b k g =
      let u : k < rows - j = omega (arith, length_rest) in
      let v : j + k < length (take rows ws) = omega (arith, length-take-le rows ws l) in
      subst (λ (x : ℕ). x < p) (get_or-take rows ws (j + k) 0 (omega arith) ∙ sym (get_or-take (rows - j) (drop j ws) k 0 u ∙ get_or-drop j ws k 0)) (b (j + k) v)

  pub rest-fits : (f : List ℕ) (n : ℕ) → length f ≡ rows * n → length (take (rows - j) (drop j ws)) * n ≤ length (from f (j * n))
  rest-fits f n e =
      let q : j + (rows - j) ≡ rows = omega arith in
      let m : (j + (rows - j)) * n ≡ rows * n = ap (λ (x : ℕ). x * n) q in
      let r : (rows - j) * n ≤ length (from f (j * n)) = omega (arith, length_from f (j * n)) in
      rw length_rest r

-- row j of the shift, as `combine` gives it
pub shift-row-is : (p c : ℕ) (f : List ℕ) (rows n j : ℕ) (ws ys : List ℕ) → j ≤ rows → rows ≤ length ws → Weights p c rows j ws
    → ys ≡ tabulate n (λ t. weight_sum (from f (j * n)) n (take (rows - j) (drop j ws)) t % p) → ys ≡ tabulate n (shifted p rows c (rows_of f n rows) j)
shift-row-is p c f rows n j ws ys h l w e = e ∙ tabulate-ext n _ _ (λ t _. weight-row p c f rows n j t ws h l w)

-- the array before its first words are written
abbrev pub zeros : List ℕ
zeros = 0 ∷ 0 ∷ 0 ∷ 0 ∷ 0 ∷ 0 ∷ 0 ∷ 0 ∷ 0 ∷ 0 ∷ 0 ∷ 0 ∷ 0 ∷ 0 ∷ 0 ∷ 0 ∷ 0 ∷ 0 ∷ 0 ∷ 0 ∷ 0 ∷ 0 ∷ 0 ∷ 0 ∷ 0 ∷ 0 ∷ 0 ∷ 0 ∷ 0 ∷ 0 ∷ 0 ∷ 0 ∷ 0 ∷ []

-- every word of so many rows stands in a row and a column
pub by_row : (rows N : ℕ) (A : ℕ → Type 0) → zero < N → ((j : ℕ) → j < rows → (t : ℕ) → t < N → A (j * N + t)) → (i : ℕ) → i < rows * N → A i
by_row rows N A pos h i l = subst A (div-add-mod' i N) (h (i / N) ((div-lt_iff_lt-mul pos).1 l) (i % N) (mod-lt i pos))
