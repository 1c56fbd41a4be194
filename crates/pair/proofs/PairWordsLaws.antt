-- The pair as words.
--   order-words                the order, as a loop finds it
--   order-there, order_least   what the order is
--   low_word, high_word        the rows of P below Y^d and of A, in the words
--   words-ext                  any list that begins with the words of a pair has that pair
--   words_same                 the pair's words are determined, column by column
--   pair_one                   for every f that is not flat and every number of terms there is exactly one pair, as words
--   pair-test                  PairWords and pair_test are one
-- Assumes nothing.
use Prim.Native.Nat.{ℕ, zero, ◌+◌, ◌-◌, ◌*◌, ◌≤◌, ◌<◌, zero-le}
use native.Mathlib.Nat.{add-mul, add-zero}
use native.Mathlib.Omega.{arith}
use mathlib.Core.Path.{◌≡◌, refl, sym, ◌∙◌, ap, subst}
use mathlib.Core.Logic.{◌≢◌, ◌↔◌, ⊎_elim}
use mathlib.Core.Bool.{true}
use mathlib.Core.List.{List}
use borrow.Author.Tests.{ne_eqb, eqb-false, not-true, lt-ltb, le-ltb}
use lib.Dec.{ltb}
use lib.ListN.{length, take, drop}
use lib.Seq.{ext_get_or, get_or-take, get_or-drop, length-take-le}
use Rattle.algebra.specs.Prime.{Prime}
use Rattle.algebra.proofs.FpLaws.{p-pos}
use Rattle.numbers.specs.Words.{word, choose, first_nonzero}
use Rattle.numbers.specs.internal.Facts.{AllBelow}
use Rattle.numbers.proofs.WordsLaws.{lt-or-ge, nonzero-ext, nonzero-there, nonzero-before}
use Rattle.numbers.proofs.TestsLaws.{all-at, all_of, ◌&◌, none_left, square}
use Rattle.rows.specs.Rows.{rows_of, table, mul, monic}
use Rattle.rows.proofs.RowsLaws.{rows-below, rows-past, rows_bound, length-table, word-table, by_row}
use Rattle.rows.proofs.RowsBelowLaws.{rows_below-at, at-rows_below}
use Rattle.rows.proofs.MulLaws.{mul-ext}
use Rattle.pair.specs.Pair.{order_of, order, given, low_rows, high_rows, IsPair, PairWords}
use Rattle.pair.specs.Test.{product_test, pair_test}
use Rattle.rows.proofs.MonicLaws.{monic-ext}
use Rattle.pair.proofs.PairLaws.{pair-unique, pair-b, pair_c, pair_lt, pair_is}

pub order-words : (f : List ℕ) (n rows : ℕ) → first_nonzero rows (λ j. word f (j * n)) ≡ order_of rows (rows_of f n rows)
unfolding order_of
order-words f n rows = nonzero-ext rows (λ j l. sym (rows-below f n rows j 0 l ∙ ap (word f) (add-zero (j * n))))

module _ (D N : ℕ) (f : List ℕ) where
  pub order-there : order D N f ≤ D → given D N f (order D N f) 0 ≢ 0
  unfolding order_of
  order-there l = nonzero-there (D + 1) (λ j. given D N f j 0) (omega arith)

  pub order_least : (j : ℕ) → j < order D N f → given D N f j 0 ≡ 0
  unfolding order_of
  order_least = nonzero-before (D + 1) (λ j. given D N f j 0)

pub low_word : (N d : ℕ) (s : List ℕ) (j t : ℕ) → j < d → low_rows N d s j t ≡ word s (j * N + t)
low_word N d s j t l = rows-below s N d j t l

pub high_word : (D N d : ℕ) (s : List ℕ) (j t : ℕ) → d + j < D + 1 → high_rows D N d s j t ≡ word s ((d + j) * N + t)
high_word D N d s j t l =
    rows-below (drop (d * N) s) N (D + 1 - d) j t (omega arith) ∙ get_or-drop (d * N) s (j * N + t) 0
    ∙ ap (word s) (let z : d * N + (j * N + t) ≡ (d + j) * N + t = omega (arith, add-mul d j N) in z)

pub high-past : (D N d : ℕ) (s : List ℕ) (j t : ℕ) → D < d + j → high_rows D N d s j t ≡ 0
high-past D N d s j t l = rows-past (drop (d * N) s) N (D + 1 - d) j t (omega arith)

-- the pair's conditions look at the rows of P below d and at the rows of A, below column k
pub pair-ext : (p D k d : ℕ) (f b b' c c' : ℕ → ℕ → ℕ) → 1 ≤ k → ((j : ℕ) → j < d → (t : ℕ) → t < k → b' j t ≡ b j t) → ((j t : ℕ) → t < k → c' j t ≡ c j t)
    → ((j t : ℕ) → D < d + j → c' j t ≡ 0) → IsPair p D k d f b c → IsPair p D k d f b' c'
pair-ext p D k d f b b' c c' pos eb ec height h = record {
  bound = h.bound;
  there = h.there;
  least = h.least;
  first = λ j l. eb j l 0 pos ∙ h.first j l;
  height = height;
  unit = λ e. h.unit (sym (ec 0 0 pos) ∙ e);
  same = λ j l t g.
      mul-ext p (monic d b') (monic d b) c' c j t (λ i s _ u. monic-ext d b' b s (λ i v. eb i v s (omega arith)) i) (λ i s _ u. ec i s (omega arith)) ∙ h.same j l t g;
}

-- the pair's words are looked at in the D + 1 rows only
pub words-ext : (p D N : ℕ) (f : List ℕ) (k : ℕ) (s s' : List ℕ) → 1 ≤ k → k ≤ N → ((j : ℕ) → j < D + 1 → (t : ℕ) → t < N → word s' (j * N + t) ≡ word s (j * N + t))
    → PairWords p D N f k s → PairWords p D N f k s'
words-ext p D N f k s s' one fits at h =
    let d = order D N f in
    let b = h.pair.bound in
    record {
      pair = pair-ext p D k d (given D N f) (low_rows N d s) (low_rows N d s') (high_rows D N d s) (high_rows D N d s') one
          (λ j l t g. low_word N d s' j t l ∙ at j (omega arith) t (omega arith) ∙ sym (low_word N d s j t l))
          (λ j t g. ⊎_elim (λ l. high_word D N d s' j t l ∙ at (d + j) l t (omega arith) ∙ sym (high_word D N d s j t l))
          (λ l. high-past D N d s' j t (omega arith) ∙ sym (high-past D N d s j t (omega arith))) (lt-or-ge (d + j) (D + 1)))
          (λ j t l. high-past D N d s' j t l) h.pair;
      reduced = λ j l t g. subst (λ x. x < p) (sym (at j l t (omega arith))) (h.reduced j l t g);
      rest = λ j l t g u. at j l t u ∙ h.rest j l t g u;
    }

module _ (p D N : ℕ) (f : List ℕ) (prime : Prime p) where
  abbrev d : ℕ
  d = order D N f

  abbrev pos : zero < p
  pos = p-pos prime

  -- rows below p
  rows-lt : (k : ℕ) (s : List ℕ) → PairWords p D N f k s → (j t : ℕ) → t < k → (j < d → low_rows N d s j t < p) × (high_rows D N d s j t < p)
  rows-lt k s h j t l =
      let b = h.pair.bound in (
        λ g. subst (λ x. x < p) (sym (low_word N d s j t g)) (h.reduced j (omega arith) t l),
        ⊎_elim (λ g. subst (λ x. x < p) (sym (high_word D N d s j t g)) (h.reduced (d + j) g t l)) (λ g. subst (λ x. x < p) (sym (high-past D N d s j t (omega arith))) pos) (lt-or-ge (d + j) (D + 1)),
      )

  -- the words below column k and k' are the same
  pub words-agree : (k k' : ℕ) (s s' : List ℕ) → PairWords p D N f k s → PairWords p D N f k' s' → (j : ℕ) → j < D + 1 → (t : ℕ) → t < k → t < k' → word s (j * N + t) ≡ word s' (j * N + t)
  words-agree k k' s s' h h' j l t g g'' =
      let u = pair-unique prime t k k' D d d (given D N f) (given D N f) _ _ _ _ h.pair h'.pair g g''
      (λ j t' v. rows-lt k s h j t' (omega arith)) (λ j t' v. rows-lt k' s' h' j t' (omega arith)) (λ j v t v'. refl) in
      let b = h.pair.bound in
      ⊎_elim (λ low. sym (low_word N d s j t low) ∙ u.1 j low t (omega arith) ∙ low_word N d s' j t low)
      (λ high.
      let e : d + (j - d) ≡ j = omega arith in
      ap (λ x. word s (x * N + t)) (sym e) ∙ sym (high_word D N d s (j - d) t (omega arith)) ∙ u.2 (j - d) t (omega arith)
      ∙ high_word D N d s' (j - d) t (omega arith) ∙ ap (λ x. word s' (x * N + t)) e)
      (lt-or-ge j d)

  pub words_same : (k : ℕ) (s s' : List ℕ) → PairWords p D N f k s → PairWords p D N f k s' → (j : ℕ) → j < D + 1 → (t : ℕ) → t < N → word s (j * N + t) ≡ word s' (j * N + t)
  words_same k s s' h h' j l t g =
      ⊎_elim (λ u. words-agree k k s s' h h' j l t u u) (λ u. h.rest j l t u g ∙ sym (h'.rest j l t u g)) (lt-or-ge t k)

  pub words-unique : (k : ℕ) (s s' : List ℕ) → zero < N → PairWords p D N f k s → PairWords p D N f k s' → (D + 1) * N ≤ length s → (D + 1) * N ≤ length s'
      → take ((D + 1) * N) s ≡ take ((D + 1) * N) s'
  words-unique k s s' width h h' l l' =
      let e = length-take-le ((D + 1) * N) s l in
      ext_get_or 0 _ _ (e ∙ sym (length-take-le ((D + 1) * N) s' l'))
      (λ i g. let g'' : i < (D + 1) * N = omega arith in
      get_or-take ((D + 1) * N) s i 0 g'' ∙ by_row (D + 1) N (λ i. word s i ≡ word s' i) width (words_same k s s' h h') i g'' ∙ sym (get_or-take ((D + 1) * N) s' i 0 g''))

  -- there is a pair
  module _ (width : zero < N) (below : AllBelow p f) (bound : d ≤ D) where
    given-lt : (j t : ℕ) → given D N f j t < p
    given-lt j t = rows_bound p f N (D + 1) j t pos below

    given-past : (j t : ℕ) → D < j → given D N f j t ≡ 0
    given-past j t l = rows-past f N (D + 1) j t (omega arith)

    abbrev b : ℕ → ℕ → ℕ
    b = pair-b prime D N d (given D N f) bound (order-there D N f bound) (order_least D N f) given-lt given-past

    abbrev c : ℕ → ℕ → ℕ
    c = pair_c prime D N d (given D N f) bound (order-there D N f bound) (order_least D N f) given-lt given-past

    solved : (k : ℕ) → IsPair p D k d (given D N f) b c
    solved k = pair_is prime D N d (given D N f) bound (order-there D N f bound) (order_least D N f) given-lt given-past k

    lt : (j t : ℕ) → (b j t < p) × (c j t < p)
    lt = pair_lt prime D N d (given D N f) bound (order-there D N f bound) (order_least D N f) given-lt given-past

    row : ℕ → ℕ → ℕ → ℕ
    row k j t = choose (ltb t k) (choose (ltb j d) (b j t) (c (j - d) t)) 0

    row_low : (k j t : ℕ) → t < k → j < d → row k j t ≡ b j t
    unfolding row
    row_low k j t l g = simp (lt-ltb t k l, lt-ltb j d g)

    row-high : (k j t : ℕ) → t < k → row k (d + j) t ≡ c j t
    unfolding row
    row-high k j t l = simp (lt-ltb t k l, le-ltb (d + j) d (omega arith)) (ap (λ x. c x t) (let z : d + j - d ≡ j = omega arith in z))

    row-rest : (k j t : ℕ) → k ≤ t → row k j t ≡ 0
    unfolding row
    row-rest k j t l = simp (le-ltb t k l)

    pub pair_words : ℕ → List ℕ
    pair_words k = table (D + 1) N (row k)

    pub length-pair : (k : ℕ) → length (pair_words k) ≡ (D + 1) * N
    unfolding pair_words
    length-pair k = length-table (D + 1) N (row k)

    word_at : (k j t : ℕ) → j < D + 1 → t < N → word (pair_words k) (j * N + t) ≡ row k j t
    unfolding pair_words
    word_at k j t l g = word-table (D + 1) N (row k) j t l g

    pub pair-words : (k : ℕ) → 1 ≤ k → k ≤ N → PairWords p D N f k (pair_words k)
    pair-words k one fits = record {
      pair = pair-ext p D k d (given D N f) b (low_rows N d (pair_words k)) c (high_rows D N d (pair_words k)) one
          (λ j l t g. low_word N d (pair_words k) j t l ∙ word_at k j t (omega arith) (omega arith) ∙ row_low k j t g l)
          (λ j t g. ⊎_elim (λ l. high_word D N d (pair_words k) j t l ∙ word_at k (d + j) t l (omega arith) ∙ row-high k j t g)
          (λ l. high-past D N d (pair_words k) j t (omega arith) ∙ sym ((solved k).height j t (omega arith))) (lt-or-ge (d + j) (D + 1)))
          (λ j t l. high-past D N d (pair_words k) j t l) (solved k);
      reduced = λ j l t g. subst (λ x. x < p) (sym (word_at k j t l (omega arith)))
          (⊎_elim (λ u. subst (λ x. x < p) (sym (row_low k j t g u)) (lt j t).0)
          (λ u. let e : d + (j - d) ≡ j = omega arith in subst (λ x. x < p) (sym (row-high k (j - d) t g) ∙ ap (λ x. row k x t) e) (lt (j - d) t).1) (lt-or-ge j d));
      rest = λ j l t g u. word_at k j t l u ∙ row-rest k j t g;
    }

    -- exactly one
    pub pair_one : (k : ℕ) → 1 ≤ k → k ≤ N
        → PairWords p D N f k (pair_words k) × ((s : List ℕ) → (D + 1) * N ≤ length s → PairWords p D N f k s → take ((D + 1) * N) s ≡ take ((D + 1) * N) (pair_words k))
    pair_one k one fits = (
      pair-words k one fits,
      λ s l h. words-unique k s (pair_words k) width h (pair-words k one fits) l (omega (arith, length-pair k)),
    )

  -- PairWords and the test that computes
  module _ (bound : d ≤ D) (k : ℕ) (one : 1 ≤ k) (s : List ℕ) where
    first_word : word s (d * N) ≡ high_rows D N d s 0 0
    first_word = sym (high_word D N d s 0 0 (omega arith) ∙ ap (word s) (let z : (d + 0) * N + 0 ≡ d * N = ap (λ x. x * N + 0) (add-zero d) ∙ add-zero (d * N) in z))

    pub test-pair : pair_test p D N f k s ≡ true → PairWords p D N f k s
    unfolding pair_test product_test
    test-pair e = record {
      pair = record {
        bound = bound;
        there = order-there D N f bound;
        least = order_least D N f;
        first = λ j l. low_word N d s j 0 l ∙ (let z = rows_below-at 1 s N d 0 1 (all-at _ e 2) j l 0 zero-le (omega arith) in omega arith);
        height = λ j t l. high-past D N d s j t l;
        unit = λ z. eqb-false (word s (d * N)) 0 (not-true _ (all-at _ e 3)) (first_word ∙ z);
        same = λ j l t g. (square (D + 1) k (mul p (monic d (low_rows N d s)) (high_rows D N d s)) (given D N f)).0 (all-at _ e 4) j (omega arith) t g;
      };
      reduced = λ j l t g. rows_below-at p s N (D + 1) 0 k (all-at _ e 0) j l t zero-le g;
      rest = λ j l t g u. let z = rows_below-at 1 s N (D + 1) k N (all-at _ e 1) j l t g u in omega arith;
    }

    pub pair-passes : PairWords p D N f k s → pair_test p D N f k s ≡ true
    unfolding pair_test product_test
    pair-passes h =
        all_of (
        at-rows_below p s N (D + 1) 0 k (λ j l t _ g. h.reduced j l t g)
        & at-rows_below 1 s N (D + 1) k N (λ j l t g u. let z = h.rest j l t g u in omega arith)
        & at-rows_below 1 s N d 0 1 (λ j l t _ g. let e : t ≡ 0 = omega arith in let z = sym (low_word N d s j 0 l) ∙ h.pair.first j l in
        subst (λ x. word s (j * N + x) < 1) (sym e) (omega arith))
        & rw (ne_eqb (word s (d * N)) 0 (λ e. h.pair.unit (sym first_word ∙ e))) refl
        & (square (D + 1) k _ _).1 (λ j l t g. h.pair.same j (omega arith) t g)
        & none_left
        )

    pub pair-test : (pair_test p D N f k s ≡ true) ↔ PairWords p D N f k s
    pair-test = (test-pair, pair-passes)
