-- The lift: f's columns are put into the rows, and split in place.
--   first-column      column 0 of a pair is f's
--   begun             what stands in the rows before they are split
--   worked            rows whose columns from h on multiply to f's hold the pair
--   lift-start        what the split begins with: Y^d, and column 0 of the rows from d on
--   lift-none         for d = 0 there is nothing to split: P is 1
--   lift-split        the rows as the split leaves them
--   lift-whole, lift-begins, lift-ends    the same for the numbers that `lift` has
-- Assumes nothing.
use Prim.Native.Nat.{ℕ, zero, suc, ◌+◌, ◌-◌, ◌*◌, ◌%◌, ◌≤◌, ◌<◌}
use native.Mathlib.Nat.{add-zero, zero-add, mod-eq_of_lt, zero-mul, one-mul, add-mul}
use native.Mathlib.Omega.{arith}
use mathlib.Core.Path.{◌≡◌, refl, sym, ◌∙◌, ap, ap₂, subst}
use mathlib.Core.Logic.{◌≢◌, ⊎_elim, inl, inr}
use mathlib.Core.List.{List, [], ◌∷◌, ◌++◌}
use borrow.Author.Tests.{eq-eqb, ne_eqb}
use lib.Dec.{eqb}
use lib.ListN.{length, take, drop, set, length-append, length-drop, length-set, get_or-replicate, get_or-append}
use lib.Seq.{ext_get_or, get_or-append-add, get_or-set_same, get_or-set_other, get_or-take, length-take-le}
use Rattle.algebra.specs.Prime.{Prime}
use Rattle.algebra.specs.internal.Fp.{Fp, rem}
use Rattle.algebra.proofs.FpLaws.{p-pos}
use Rattle.algebra.proofs.BridgeLaws.{same-rem, rem-zero}
use Rattle.algebra.specs.Sums.{sum_to}
use Rattle.algebra.proofs.SolutionLaws.{lines-ext, lines_same}
use Rattle.algebra.proofs.SumsLaws.{sum_to-front, sum_to-zeros}
use Rattle.numbers.specs.Words.{word, choose, tabulate}
use Rattle.numbers.specs.internal.Facts.{AllBelow}
use Rattle.numbers.specs.Limits.{most_rows}
use Rattle.numbers.proofs.WordsLaws.{lt-or-ge, length-tabulate, word-tabulate, from, word-from}
use Rattle.rows.specs.Rows.{mul, monic, unit}
use Rattle.rows.proofs.RowsLaws.{rows-below, rows_bound, row_fits, by_row, zeros}
use Rattle.rows.proofs.MulLaws.{mul-ext}
use Rattle.rows.proofs.MonicLaws.{monic-low, monic-top, monic-above, monic-ext, by_place}
use Rattle.columns.specs.internal.Column.{horner_word, horner_words, ColumnsSet}
use Rattle.columns.proofs.ColumnLaws.{horner-word-suc, horner-words-at}
use Rattle.solution.specs.internal.Table.{rows_from, low_poly, high_poly, Lines, SplitTo, SplitStart, SplitRoom, SplitBy}
use Rattle.solution.proofs.NodeLaws.{lines-last}
use Rattle.solution.proofs.StepLaws.{capped-low, capped-top, capped-above}
use Rattle.pair.specs.Pair.{order, given, low_rows, high_rows, PairWords}
use Rattle.pair.specs.internal.Lifting.{PairGiven, PairStart, leading_column, Begun}
use Rattle.pair.proofs.PairLaws.{first-high, first-low, y_pow-below}
use Rattle.pair.proofs.PairWordsLaws.{order-there, order_least, low_word, high_word, high-past}

-- 1 · c is c
monic-none : (p d : ℕ) (b c : ℕ → ℕ → ℕ) (j t : ℕ) → d ≡ 0 → c j t < p → mul p (monic d b) c j t ≡ c j t
unfolding mul
monic-none p d b c j t z l =
    let at : ℕ → ℕ → ℕ = λ i s. monic d b i s * c (j - i) (t - s) in
    let zeroth : at 0 0 ≡ c j t = ap₂ (λ x y. x * c y (t - 0)) (top 0) (let e : j - 0 ≡ j = omega arith in e) ∙ one-mul (c j (t - 0)) ∙ ap (c j) (let e : t - 0 ≡ t = omega arith in e) in
    let first : sum_to t (λ s. at 0 (suc s)) ≡ 0 = sum_to-zeros t _ (λ s _. ap (λ x. x * c (j - 0) (t - suc s)) (top (suc s)) ∙ zero-mul _) in
    let others : sum_to j (λ i. sum_to (suc t) (at (suc i))) ≡ 0 =
    sum_to-zeros j _ (λ i _. sum_to-zeros (suc t) (at (suc i)) (λ s _. ap (λ x. x * c (j - suc i) (t - s)) (monic-above d b (suc i) s (omega arith)) ∙ zero-mul _)) in
    ap (λ x. x % p) (let e : sum_to (suc j) (λ i. sum_to (suc t) (at i)) ≡ c j t = omega (arith, sum_to-front j (λ i. sum_to (suc t) (at i)), sum_to-front t (at 0), zeroth, first, others) in e)
    ∙ mod-eq_of_lt l
  where
    top : (s : ℕ) → monic d b 0 s ≡ unit s
    top s = ap (λ x. monic d b x s) (sym z) ∙ monic-top d b s

module _ (p D N : ℕ) (f : List ℕ) (prime : Prime p) (below : AllBelow p f) (bound : order D N f ≤ D) where
  abbrev d : ℕ
  d = order D N f

  abbrev pos : zero < p
  pos = p-pos prime

  given-lt : (j t : ℕ) → given D N f j t < p
  given-lt j t = rows_bound p f N (D + 1) j t pos below

  given_word : (j t : ℕ) → j < D + 1 → given D N f j t ≡ word f (j * N + t)
  given_word j t l = rows-below f N (D + 1) j t l

  given-first : (j : ℕ) → j < D + 1 → given D N f j 0 ≡ word f (j * N)
  given-first j l = given_word j 0 l ∙ ap (word f) (add-zero (j * N))

  at_first : (s : List ℕ) (j : ℕ) → word s (j * N + 0) ≡ word s (j * N)
  at_first s j = ap (word s) (add-zero (j * N))

  -- P · A with the words of s
  abbrev product : List ℕ → ℕ → ℕ → ℕ
  product s = mul p (monic d (low_rows N d s)) (high_rows D N d s)

  -- it reads the words of the D + 1 rows up to its own column
  product-ext : (s s' : List ℕ) (t : ℕ) → ((u : ℕ) → u ≤ t → (j : ℕ) → j < D + 1 → word s' (j * N + u) ≡ word s (j * N + u)) → (j : ℕ) → product s' j t ≡ product s j t
  product-ext s s' t e j =
      mul-ext p _ _ _ _ j t
      (λ i u _ g. monic-ext d (low_rows N d s') (low_rows N d s) u (λ i l. low_word N d s' i u l ∙ e u g i (omega arith) ∙ sym (low_word N d s i u l)) i)
      (λ i u _ g. ⊎_elim (λ l. high_word D N d s' i u l ∙ e u g (d + i) l ∙ sym (high_word D N d s i u l))
      (λ l. high-past D N d s' i u (omega arith) ∙ sym (high-past D N d s i u (omega arith))) (lt-or-ge (d + i) (D + 1)))

  -- column 0 of a pair is f's
  pub first-column : (k : ℕ) (s : List ℕ) → 1 ≤ k → PairWords p D N f k s → (j : ℕ) → j < D + 1 → word s (j * N) ≡ word f (j * N)
  first-column k s one h j l =
      sym (at_first s j)
      ∙ ⊎_elim (λ (g : j < d). sym (low_word N d s j 0 g) ∙ h.pair.first j g ∙ sym (order_least D N f j g))
      (λ (g : d ≤ j).
      let e : d + (j - d) ≡ j = omega arith in
      subst (λ x. word s (x * N + 0) ≡ given D N f x 0) e
      (sym (high_word D N d s (j - d) 0 (omega arith))
      ∙ sym (first-high prime d (low_rows N d s) (high_rows D N d s) h.pair.first (j - d) (subst (λ x. x < p) (sym (high_word D N d s (j - d) 0 (omega arith))) (h.reduced (d + (j - d)) (omega arith) 0 one)))
      ∙ h.pair.same (d + (j - d)) (omega arith) 0 one)) (lt-or-ge j d)
      ∙ given-first j l

  -- and where it is, its conditions hold there
  module _ (s : List ℕ) (first : (j : ℕ) → j < D + 1 → word s (j * N) ≡ word f (j * N)) where
    first-given : (j : ℕ) → j < D + 1 → word s (j * N + 0) ≡ given D N f j 0
    first-given j l = at_first s j ∙ first j l ∙ sym (given-first j l)

    low-none : (j : ℕ) → j < d → low_rows N d s j 0 ≡ 0
    low-none j l = low_word N d s j 0 l ∙ first-given j (omega arith) ∙ order_least D N f j l

    high-given : (j : ℕ) → d + j < D + 1 → high_rows D N d s j 0 ≡ given D N f (d + j) 0
    high-given j l = high_word D N d s j 0 l ∙ first-given (d + j) l

    unit-there : high_rows D N d s 0 0 ≢ 0
    unit-there e = order-there D N f bound (ap (λ x. given D N f x 0) (sym (add-zero d)) ∙ sym (high-given 0 (omega arith)) ∙ e)

    first-product : (j : ℕ) → j < D + 1 → product s j 0 ≡ given D N f j 0
    first-product j l =
        ⊎_elim (λ (u : j < d). first-low prime d (low_rows N d s) (high_rows D N d s) low-none j u ∙ sym (order_least D N f j u))
        (λ (u : d ≤ j).
        let e : d + (j - d) ≡ j = omega arith in
        subst (λ x. product s x 0 ≡ given D N f x 0) e
        (first-high prime d (low_rows N d s) (high_rows D N d s) low-none (j - d) (subst (λ x. x < p) (sym (high-given (j - d) (omega arith))) (given-lt (d + (j - d)) 0)) ∙ high-given (j - d) (omega arith)))
        (lt-or-ge j d)

  -- f's columns h..w − 1 are put into rows, and 0 from column w on
  module _ (h w : ℕ) (old s₁ s : List ℕ) (one : 1 ≤ w) (upto : h ≤ w) (top : w ≤ N) (f-long : length f ≡ (D + 1) * N) (long : length old ≡ (D + 1) * N)
      (held : 1 ≤ h → PairWords p D N f h old) (cleared : ColumnsSet N w N (D + 1) (λ _ _. 0) old s₁) (put : ColumnsSet N h w (D + 1) (λ j t. word f (j * N + t)) s₁ s) where
    s-long : length s ≡ (D + 1) * N
    s-long = put.long ∙ cleared.long ∙ long

    s-kept : (t : ℕ) → t < h → (j : ℕ) → j < D + 1 → word s (j * N + t) ≡ word old (j * N + t)
    s-kept t g j l = put.others j l t (omega arith) (inl g) ∙ cleared.others j l t (omega arith) (inl (omega arith))

    s-none : (t : ℕ) → w ≤ t → t < N → (j : ℕ) → j < D + 1 → word s (j * N + t) ≡ 0
    s-none t g u j l = put.others j l t u (inr g) ∙ cleared.set j l t g u

    s-below : AllBelow p s
    s-below x l = by_row (D + 1) N (λ x. word s x < p) (omega arith)
        (λ j a t u. ⊎_elim (λ (g : t < h). subst (λ x. x < p) (sym (s-kept t g j a)) ((held (omega arith)).reduced j a t g))
        (λ (g : h ≤ t). ⊎_elim (λ (v : t < w). subst (λ x. x < p) (sym (put.set j a t g v)) (below (j * N + t) (omega (arith, row_fits j (D + 1) N a))))
        (λ (v : w ≤ t). subst (λ x. x < p) (sym (s-none t v u j a)) pos) (lt-or-ge t w)) (lt-or-ge t h))
        x (omega (arith, s-long))

    begun-at : (first : ℕ) → 1 ≤ first → h ≤ first → ((t : ℕ) → 1 ≤ t → t < first → t < h) → ((j : ℕ) → j < D + 1 → word s (j * N) ≡ word f (j * N)) → Begun p D N f first w s
    begun-at first low from upto' zeroth = record {
      long = s-long;
      below = s-below;
      first = zeroth;
      between = λ t lo hi j l.
          let g : t < h = upto' t lo hi in
          product-ext old s t (λ u v j l. s-kept u (omega arith) j l) j ∙ (held (omega arith)).pair.same j (omega arith) t g ∙ given_word j t l;
      put = λ t lo hi j l. put.set j l t (omega arith) hi;
      rest = s-none;
    }

    pub begun : Begun p D N f (choose (eqb h 0) 1 h) w s
    begun =
        ⊎_elim
        (λ (z : h < 1).
        let e : h ≡ 0 = omega arith in
        subst (λ x. Begun p D N f x w s) (sym (ap (λ b. choose b 1 h) (eq-eqb h 0 e)))
        (begun-at 1 (omega arith) (omega arith) (λ t lo hi. absurd (let z : ⊥ = omega arith in z))
        (λ j l. sym (at_first s j) ∙ put.set j l 0 (omega arith) (omega arith) ∙ at_first f j)))
        (λ (z : 1 ≤ h).
        subst (λ x. Begun p D N f x w s) (sym (ap (λ b. choose b 1 h) (ne_eqb h 0 (λ e. let z : ⊥ = omega arith in z))))
        (begun-at h z (omega arith) (λ t lo hi. hi)
        (λ j l. sym (at_first s j) ∙ s-kept 0 z j l ∙ at_first old j ∙ first-column h old z (held z) j l)))
        (lt-or-ge h 1)

  -- the columns from h on are worked
  module _ (h w : ℕ) (s new : List ℕ) (b : Begun p D N f h w s) (low : 1 ≤ h) (one : 1 ≤ w) (top : w ≤ N)
      (new-below : (i : ℕ) → i < (D + 1) * N → word new i < p)
      (first : (j : ℕ) → j < D + 1 → word new (j * N) ≡ word s (j * N))
      (kept : (t : ℕ) → 1 ≤ t → t < h → (j : ℕ) → j < D + 1 → word new (j * N + t) ≡ word s (j * N + t))
      (same : (t : ℕ) → h ≤ t → t < w → (j : ℕ) → j < D + 1 → product new j t ≡ word s (j * N + t))
      (rest : (t : ℕ) → w ≤ t → t < N → (j : ℕ) → j < D + 1 → word new (j * N + t) ≡ word s (j * N + t)) where
    first-is : (j : ℕ) → j < D + 1 → word new (j * N) ≡ word f (j * N)
    first-is j l = first j l ∙ b.first j l

    before : (u : ℕ) → u < h → (j : ℕ) → j < D + 1 → word new (j * N + u) ≡ word s (j * N + u)
    before zero g j l = at_first new j ∙ first j l ∙ sym (at_first s j)
    before (suc u) g j l = kept (suc u) (omega arith) g j l

    multiply : (t : ℕ) → t < w → (j : ℕ) → j < D + 1 → product new j t ≡ given D N f j t
    multiply zero g j l = first-product new first-is j l
    multiply (suc t) g j l =
        ⊎_elim (λ (u : suc t < h). product-ext s new (suc t) (λ v a j l. before v (omega arith) j l) j ∙ b.between (suc t) (omega arith) u j l)
        (λ (u : h ≤ suc t). same (suc t) u g j l ∙ b.put (suc t) u g j l) (lt-or-ge (suc t) h)
        ∙ sym (given_word j (suc t) l)

    pub worked : PairWords p D N f w new
    worked = record {
      pair = record {
        bound = bound;
        there = order-there D N f bound;
        least = order_least D N f;
        first = low-none new first-is;
        height = λ j t l. high-past D N d new j t l;
        unit = unit-there new first-is;
        same = λ j l t g. multiply t g j (omega arith);
      };
      reduced = λ j l t g. new-below (j * N + t) (omega (arith, row_fits j (D + 1) N l));
      rest = λ j l t g u. rest t g u j l ∙ b.rest t g u j l;
    }

  -- for d = 0 P is 1 and A is f
  pub lift-none : (h w : ℕ) (s : List ℕ) → d ≡ 0 → 1 ≤ h → 1 ≤ w → w ≤ N → Begun p D N f h w s → PairWords p D N f w s
  lift-none h w s z low one top b =
      worked h w s s b low one top (λ i l. b.below i (let e = b.long in omega arith)) (λ j l. refl) (λ t lo hi j l. refl)
      (λ t lo hi j l.
      monic-none p d (low_rows N d s) (high_rows D N d s) j t z (subst (λ x. x < p) (sym (at j t l)) (b.below (j * N + t) (let e = b.long in omega (arith, row_fits j (D + 1) N l)))) ∙ at j t l)
      (λ t lo hi j l. refl)
    where
      at : (j t : ℕ) → j < D + 1 → high_rows D N d s j t ≡ word s (j * N + t)
      at j t l = high_word D N d s j t (omega arith) ∙ ap (λ x. word s (x * N + t)) (let e : d + j ≡ j = omega arith in e)

-- column 0 of the rows from d on, and 0
module _ (d N k : ℕ) (s : List ℕ) where
  front : length (tabulate k (λ j. word s ((d + j) * N))) ≡ k
  front = length-tabulate k _

  pub leading-long : length (leading_column d N k s) ≡ k + 1
  unfolding leading_column
  leading-long = length-append (tabulate k (λ j. word s ((d + j) * N))) (0 ∷ []) ∙ ap (λ x. x + 1) front

  pub leading_at : (j : ℕ) → j < k → word (leading_column d N k s) j ≡ word s ((d + j) * N)
  unfolding leading_column
  leading_at j l = get_or-append (tabulate k (λ j. word s ((d + j) * N))) (0 ∷ []) 0 j (omega (arith, front)) ∙ word-tabulate k _ j l

  pub leading-last : word (leading_column d N k s) k ≡ 0
  unfolding leading_column
  leading-last =
      ap (word (tabulate k (λ j. word s ((d + j) * N)) ++ (0 ∷ []))) (let e : k ≡ length (tabulate k (λ j. word s ((d + j) * N))) + 0 = omega (arith, front) in e)
      ∙ get_or-append-add (tabulate k (λ j. word s ((d + j) * N))) (0 ∷ []) 0 0

  -- as it is made: loaded over the first k words, and then 0
  pub leading-made : (a x : List ℕ) → length a ≡ k + 1 → x ≡ tabulate (length (take k a)) (λ j. word (from s (d * N)) (j * N + 0)) → set (x ++ drop k a) k 0 ≡ leading_column d N k s
  leading-made a x n e =
      let nt : length (take k a) ≡ k = length-take-le k a (omega arith) in
      let nx : length x ≡ k = ap length e ∙ length-tabulate (length (take k a)) _ ∙ nt in
      let nw : length (x ++ drop k a) ≡ k + 1 = length-append x (drop k a) ∙ omega (arith, length-drop k a) in
      let new = set (x ++ drop k a) k 0 in
      let nn : length new ≡ k + 1 = length-set (x ++ drop k a) k 0 ∙ nw in
      ext_get_or 0 _ _ (nn ∙ sym leading-long) (λ j l.
      ⊎_elim
      (λ (u : j < k).
      get_or-set_other (x ++ drop k a) k j 0 0 (λ q. let z : ⊥ = omega arith in z) ∙ get_or-append x (drop k a) 0 j (omega arith)
      ∙ ap (λ y. word y j) e ∙ word-tabulate (length (take k a)) _ j (omega arith) ∙ word-from s (d * N) (j * N + 0)
      ∙ ap (word s) (let z : d * N + (j * N + 0) ≡ (d + j) * N = omega (arith, add-mul d j N) in z) ∙ sym (leading_at j u))
      (λ (u : k ≤ j).
      let q : j ≡ k = omega arith in
      ap (word new) q ∙ get_or-set_same (x ++ drop k a) k 0 0 (omega arith) ∙ sym (ap (word (leading_column d N k s)) q ∙ leading-last))
      (lt-or-ge j k))

-- the product of d lines Y − 0 is Y^d
zeros-low : (p : ℕ) → Prime p → (roots P : List ℕ) → ((i : ℕ) → i < length roots → word roots i ≡ 0) → Lines p roots P → (j : ℕ) → j < length roots → word P j ≡ 0
zeros-low p prime roots P z h j l =
    let pos = p-pos prime in
    let K = Fp p pos in
    same-rem p pos (h.below j (let e = h.long in omega arith)) pos
    (ap (λ x. x j) (h.is pos ∙ lines-ext K (length roots) (λ i u. ap (rem p pos) (z i u) ∙ rem-zero p pos) ∙ lines_same K K.𝟘 (length roots))
    ∙ y_pow-below K (length roots) j l ∙ sym (rem-zero p pos))

-- a split of the rows s that begins with Y^d
module _ (p d N size : ℕ) (roots s : List ℕ) (h : PairStart p d N roots size s) (below : AllBelow p s) (long : length s ≡ (d + (size - 1)) * N) (wide : 1 ≤ N) where
  abbrev A : List ℕ
  A = leading_column d N (size - 1) s

  A-long : length A ≡ size
  A-long = leading-long d N (size - 1) s ∙ (let e = h.high in omega arith)

  some : zero < p
  some = p-pos h.prime

  A-below : AllBelow p A
  A-below j l =
      ⊎_elim (λ (g : j < size - 1). subst (λ x. x < p) (sym (leading_at d N (size - 1) s j g)) (below ((d + j) * N) (omega (arith, row_fits (d + j) (d + (size - 1)) N (omega arith)))))
      (λ (g : size - 1 ≤ j). let e : size - 1 ≡ j = omega (arith, A-long) in subst (λ x. word A x < p) e (subst (λ x. x < p) (sym (leading-last d N (size - 1) s)) some)) (lt-or-ge j (size - 1))

  A-value : word (horner_words p 0 A) 0 ≡ word A 0
  A-value =
      let e : length A ≡ suc (size - 1) = A-long ∙ (let z = h.high in omega arith) in
      horner-words-at p 0 some A 0 ∙ ap (λ n. horner_word p 0 n (word A) 0) e ∙ horner-word-suc p 0 (size - 1) (word A) 0
      ∙ ap (λ x. x % p) (let z : word A 0 + 0 * horner_word p 0 (size - 1) (word A) 1 ≡ word A 0 = omega (arith, zero-mul (horner_word p 0 (size - 1) (word A) 1)) in z)
      ∙ mod-eq_of_lt (A-below 0 (let z = h.high in omega (arith, A-long)))

  A-first : word A 0 ≡ word s (d * N)
  A-first = leading_at d N (size - 1) s 0 (let z = h.high in omega arith) ∙ ap (λ x. word s (x * N)) (add-zero d)

  pub lift-start : SplitStart p roots A
  lift-start =
      let n = h.roots-long in let low = h.low in let high = h.high in let room = h.room in
      record {
        prime = h.prime;
        small = h.small;
        low = omega arith;
        high = omega (arith, A-long);
        room = omega (arith, A-long);
        c-below = λ i l. subst (λ x. x < p) (sym (h.roots-zero i (omega arith))) some;
        A-below = A-below;
        values = λ l g. subst (λ c. 1 ≤ word (horner_words p c A) 0) (sym (h.roots-zero l (omega arith))) (subst (λ x. 1 ≤ x) (sym (A-value ∙ A-first)) h.unit);
      }

-- the rows as the split leaves them
module _ (p D N : ℕ) (f : List ℕ) (prime : Prime p) (below : AllBelow p f) (bound : order D N f ≤ D) (h w : ℕ) (s new roots A : List ℕ)
    (b : Begun p D N f h w s) (low : 1 ≤ h) (one : 1 ≤ w) (top : w ≤ N) (roots-long : length roots ≡ order D N f) (roots-zero : (i : ℕ) → i < length roots → word roots i ≡ 0)
    (column : A ≡ leading_column (order D N f) N (D + 1 - order D N f) s) (split : SplitBy p N h w roots A s new) where
  abbrev e : ℕ
  e = order D N f

  abbrev k : ℕ
  k = D + 1 - order D N f

  abbrev P : List ℕ
  P = split.P

  whole : e + k ≡ D + 1
  whole = omega arith

  done : SplitTo p N e k P A h w s new
  done =
      let n : length A - 1 ≡ k = ap (λ x. x - 1) (ap length column ∙ leading-long e N k s) ∙ omega arith in
      subst (λ x. SplitTo p N x k P A h w s new) roots-long (subst (λ x. SplitTo p N (length roots) x P A h w s new) n split.done)

  A-last : word A k ≡ 0
  A-last = ap (λ x. word x k) column ∙ leading-last e N k s

  P-last : word P e ≡ 1
  P-last = ap (word P) (sym roots-long) ∙ lines-last prime roots P split.lines-low

  first : (j : ℕ) → j < D + 1 → word new (j * N) ≡ word s (j * N)
  first j l =
      ⊎_elim
      (λ (g : j < e).
      done.first-low j g ∙ zeros-low p prime roots P roots-zero split.lines-low j (omega arith)
      ∙ sym (b.first j l ∙ ap (word f) (sym (add-zero (j * N))) ∙ sym (rows-below f N (D + 1) j 0 l) ∙ order_least D N f j g))
      (λ (g : e ≤ j).
      let z : e + (j - e) ≡ j = omega arith in
      subst (λ x. word new (x * N) ≡ word s (x * N)) z
      (done.first-high (j - e) (omega arith) ∙ ap (λ x. word x (j - e)) column ∙ leading_at e N k s (j - e) (omega arith)))
      (lt-or-ge j e)

  low_rows_lem : (i u : ℕ) → monic e (low_rows N e new) i u ≡ low_poly e P N new i u
  low_rows_lem i u = by_place (λ i. monic e (low_rows N e new) i u ≡ low_poly e P N new i u) e
      (λ i l. monic-low e (low_rows N e new) i u l ∙ low_word N e new i u l
      ∙ sym (capped-low e (word P e) (rows_from 0 N new) i u l ∙ ap (λ x. word new (x * N + u)) (zero-add i)))
      (monic-top e (low_rows N e new) u ∙ sym (capped-top e (word P e) (rows_from 0 N new) u ∙ ap (λ x. x * unit u) P-last ∙ one-mul (unit u)))
      (λ i l. monic-above e (low_rows N e new) i u l ∙ sym (capped-above e (word P e) (rows_from 0 N new) i u l)) i

  high-rows : (i u : ℕ) → high_rows D N e new i u ≡ high_poly e k A N new i u
  high-rows i u = by_place (λ i. high_rows D N e new i u ≡ high_poly e k A N new i u) k
      (λ i l. high_word D N e new i u (omega arith) ∙ sym (capped-low k (word A k) (rows_from e N new) i u l))
      (high-past D N e new k u (omega arith) ∙ sym (capped-top k (word A k) (rows_from e N new) u ∙ ap (λ x. x * unit u) A-last ∙ zero-mul (unit u)))
      (λ i l. high-past D N e new i u (omega arith) ∙ sym (capped-above k (word A k) (rows_from e N new) i u l)) i

  pub lift-split : PairWords p D N f w new
  lift-split =
      worked p D N f prime below bound h w s new b low one top
      (λ i l. done.below i (let n = done.long in let z = b.long in omega arith))
      first
      (λ t lo hi j l. done.kept t lo hi j (omega arith))
      (λ t lo hi j l. mul-ext p _ _ _ _ j t (λ i u _ _. low_rows_lem i u) (λ i u _ _. high-rows i u) ∙ done.same t lo hi j (omega arith))
      (λ t lo hi j l. done.rest t lo hi j (omega arith))

-- the roots, at the front of an array of zeros
pub zeros-none : (d : ℕ) → d ≤ most_rows → (i : ℕ) → i < d → word (take d zeros) i ≡ 0
zeros-none d h i l = get_or-take d zeros i 0 l ∙ get_or-replicate {A = ℕ} 33 i 0 0 (omega arith)

-- as `lift` has it: d is a number that is the order, and the split works from column `from` on
module _ (p D N : ℕ) (f : List ℕ) (d : ℕ) (g : PairGiven p D N f d) (h w : ℕ) (old s₁ s : List ℕ) (long : length old ≡ (D + 1) * N) (held : 1 ≤ h → PairWords p D N f h old)
    (upto : h ≤ w) (one : 1 ≤ w) (top : w ≤ N) (cleared : ColumnsSet N w N (D + 1) (λ _ _. 0) old s₁) (put : ColumnsSet N h w (D + 1) (λ j t. word f (j * N + t)) s₁ s) where
  inside : order D N f ≤ D
  inside = subst (λ x. x ≤ D) g.ordered g.bound

  ready : Begun p D N f (choose (eqb h 0) 1 h) w s
  ready = begun p D N f g.prime g.f-below inside h w old s₁ s one upto top g.f-long long held cleared put

  from-bounds : (1 ≤ choose (eqb h 0) 1 h) × (choose (eqb h 0) 1 h ≤ w)
  from-bounds =
      ⊎_elim (λ (z : h < 1). rw (eq-eqb h 0 (let e : h ≡ 0 = omega arith in e)) (omega arith, one))
      (λ (z : 1 ≤ h). rw (ne_eqb h 0 (λ e. let y : ⊥ = omega arith in y)) (z, upto)) (lt-or-ge h 1)

  pub lift-whole : d ≡ 0 → PairWords p D N f w s
  lift-whole e = lift-none p D N f g.prime g.f-below inside (choose (eqb h 0) 1 h) w s (sym g.ordered ∙ e) from-bounds.0 one top ready

  module _ (from : ℕ) (is : from ≡ choose (eqb h 0) 1 h) (roots : List ℕ) (size : ℕ) (some : 1 ≤ d) (n : length roots ≡ d) (zeros : (i : ℕ) → i < d → word roots i ≡ 0)
      (size_is : size ≡ D + 1 - d + 1) where
    rows_are : d + (size - 1) ≡ D + 1
    rows_are = let b = g.bound in omega arith

    unit-first : word s (d * N) ≢ 0
    unit-first e =
        let b = g.bound in
        order-there D N f inside
        (subst (λ x. given D N f x 0 ≡ 0) g.ordered (rows-below f N (D + 1) d 0 (omega arith) ∙ ap (word f) (add-zero (d * N)) ∙ sym (ready.first d (omega arith)) ∙ e))

    pub lift-begins : PairStart p d N roots size s × SplitRoom p N from w (d + (size - 1)) s
    lift-begins =
        let b = g.bound in
        let high = g.degree-high in (
          record {
            prime = g.prime;
            small = g.small;
            low = some;
            high = omega arith;
            room = omega arith;
            roots-long = n;
            roots-zero = zeros;
            unit = ⊎_elim (λ (z : word s (d * N) < 1). absurd (unit-first (let e : word s (d * N) ≡ 0 = omega arith in e))) (λ z. z) (lt-or-ge (word s (d * N)) 1);
          },
          record {
            width = g.width-high;
            from_low = omega (arith, from-bounds.0);
            from-high = omega (arith, from-bounds.1);
            terms-high = top;
            long = ready.long ∙ ap (λ x. x * N) (sym rows_are);
            below = ready.below;
          },
        )

    pub lift-ends : (A new : List ℕ) → A ≡ leading_column d N (size - 1) s → SplitBy p N from w roots A s new → PairWords p D N f w new
    lift-ends A new column split =
        let b = g.bound in
        let e : size - 1 ≡ D + 1 - order D N f = omega (arith, g.ordered) in
        lift-split p D N f g.prime g.f-below inside (choose (eqb h 0) 1 h) w s new roots A ready from-bounds.0 one top (n ∙ g.ordered) (λ i l. zeros i (omega arith))
        (column ∙ ap₂ (λ x y. leading_column x N y s) g.ordered e) (subst (λ x. SplitBy p N x w roots A s new) is split)
