-- The factors' rows of a sheet, worked out to w terms and stored.
--   stored-sound      stored over a slice whose front fits they make a sound sheet
--   computed-exists   there are such rows, where the polynomial splits at X = 0 as the sheet says
--   computed-set      they stay the same where an entry from column w on is another number
--   set-stored        what the two stores leave
--   stored-exists     so there is a slice with these rows stored
-- Assumes nothing.
use Prim.Native.Nat.{ℕ, zero, suc, ◌+◌, ◌-◌, ◌*◌, ◌≤◌, ◌<◌}
use native.Mathlib.Nat.{add_assoc}
use native.Mathlib.Numerals.{add-one}
use native.Mathlib.Omega.{arith}
use mathlib.Core.Path.{◌≡◌, refl, sym, ◌∙◌, ap, ap₂, subst}
use mathlib.Core.Logic.{inl, ⊎_elim}
use mathlib.Core.List.{List}
use lib.ListN.{length, drop, set, length-set, get_or-append}
use lib.Seq.{get_or-set_same, get_or-set_other, get_or-drop}
use Rattle.algebra.specs.Prime.{Prime}
use Rattle.algebra.specs.Sums.{sum_to}
use Rattle.algebra.proofs.SumsLaws.{sum_to-ext}
use Rattle.algebra.proofs.FpLaws.{p-pos}
use Rattle.numbers.specs.Words.{word, over}
use Rattle.numbers.proofs.WordsLaws.{lt-or-ge, length_over, over-past, from, from_is, length_from}
use Rattle.columns.proofs.ColumnLaws.{put_from}
use Rattle.rows.specs.Rows.{table}
use Rattle.rows.proofs.RowsLaws.{length-table, word-table, by_row}
use Rattle.solution.proofs.DigitsLaws.{put-kept, put-drop, put-long}
use Rattle.hensel.specs.Factors.{IsFactors}
use Rattle.hensel.proofs.FactorsLaws.{factors-ext}
use Rattle.hensel.proofs.BlocksLaws.{in_block}
use Rattle.layout.specs.declared.Header.{Header}
use Rattle.layout.specs.internal.Places.{HeaderIs}
use Rattle.layout.proofs.PlacesLaws.{header-factors}
use Rattle.layout.specs.Layout.{modulus, degree, width, terms_at, terms, count, reach, known, lengths_from, roots_from, factors_from, root, power, end, polynomial, entry_at}
use Rattle.sheet.specs.Sheet.{Sound}
use Rattle.front.specs.internal.Front.{Front}
use Rattle.front.proofs.FrontLaws.{set_same, set-degree, set-width, set-count, set-root, set-power, set-polynomial}
use Rattle.sheet.specs.internal.Stages.{SplitFits, block_rows, Computed}
use Rattle.layout.proofs.RegionsLaws.{in_rows, by-region}
use Rattle.sheet.specs.internal.Content.{Content, header_words, sheet_words, stacked, cut, Splits}
use Rattle.sheet.specs.internal.Stored.{Stored}
use Rattle.sheet.proofs.ContentLaws.{word-header, word-known, word-root, word-power, word-polynomial, word-factors}
use Rattle.sheet.proofs.SheetsLaws.{Good, words-sound}
use Rattle.sheet.proofs.ExistsLaws.{solution, solution-lt, solution-is}
use Rattle.sheet.proofs.BuildLaws.{stacked-is, cut_low, cut_high}
use Rattle.sheet.proofs.WorkLaws.{top-is}
use Rattle.sheet.proofs.SoundStagesLaws.{offsets-header}

module _ (old : List ℕ) (front : Front old) (w : ℕ) (low : 1 ≤ w) (high : w ≤ reach old) (rows : List ℕ) (g : Computed old w rows) (new : List ℕ) (st : Stored old w rows new) where
  abbrev first : ℕ
  first = factors_from (degree old) (width old) (count old)

  -- what the sheet holds then
  abbrev c : Content
  c = record {
    p = modulus old;
    D = degree old;
    N = width old;
    k = w;
    r = count old;
    m = reach old;
    known = known old;
    root = root old;
    power = power old;
    f = polynomial old;
    factors = λ j t. word rows (j * width old + t);
  }

  wide : w ≤ width old
  wide = omega (arith, high, front.shape.header.reach-high)

  cell : (j : ℕ) → j < degree old → (t : ℕ) → t < width old → j * width old + t < degree old * width old
  cell j l t u = in_rows (degree old) (width old) j t l u

  good : Good c
  good = record {
    prime = front.shape.header.prime;
    small = front.shape.header.small;
    degree-low = front.shape.header.degree-low;
    degree-high = front.shape.header.degree-high;
    width-high = front.shape.header.width-high;
    terms-low = low;
    terms-high = high;
    reduced = λ j l t u. front.words.reduced j (omega arith) t (omega arith) u;
    top = top-is old front;
    lengths = front.lengths.each;
    reached = front.lengths.reached;
    factors = g.factors;
    factors-reduced = λ j l t u. g.below (j * width old + t) (omega (arith, cell j l t (omega (arith, wide)), g.long));
    factors-rest = g.rest;
  }

  header : (i : ℕ) → i < lengths_from → word new i ≡ word (header_words c) i
  header zero l = st.others 0 (omega arith) (inl (omega arith))
  header (suc zero) l = st.others 1 (omega arith) (inl (omega arith))
  header (suc (suc zero)) l = st.others 2 (omega arith) (inl (omega arith))
  header (suc (suc (suc zero))) l = st.reached
  header (suc (suc (suc (suc i)))) l = st.others (suc (suc (suc (suc i)))) (omega arith) (inl (omega arith)) ∙ offsets-header old front.shape.offsets (suc (suc (suc (suc i)))) l

  agree : (i : ℕ) → i < end old → word new i ≡ word (sheet_words c) i
  agree = by-region (λ i. word new i ≡ word (sheet_words c) i) (degree old) (width old) (count old) (omega (arith, low, wide))
      (λ i l. header i l ∙ sym (word-header c i l))
      (λ j l. st.others (lengths_from + j) (omega arith) (inl (omega arith)) ∙ sym (word-known c j l))
      (λ i l. st.others (roots_from (degree old) + 2 * i) (omega arith) (inl (omega arith)) ∙ sym (word-root c i l))
      (λ i l. st.others (roots_from (degree old) + 2 * i + 1) (omega arith) (inl (omega arith)) ∙ sym (word-power c i l))
      (λ j l t u. st.others _ (omega arith) (inl (omega (arith, in_rows (degree old + 1) (width old) j t (omega arith) u))) ∙ sym (word-polynomial c j t l u))
      (λ j l t u. ap (word new) (add_assoc first (j * width old) t) ∙ st.factors (j * width old + t) (cell j l t u) ∙ sym (word-factors c j t l u))

  pub stored-sound : Sound new
  stored-sound = words-sound new c agree good (let z = st.long in let y = front.shape.offsets.long in omega arith)

-- rows that are the factors' to w terms: the solution's
module _ (s : List ℕ) (front : Front s) (split : SplitFits s) (w : ℕ) (low : 1 ≤ w) (high : w ≤ width s) where
  abbrev p : ℕ
  p = modulus s

  prime : Prime p
  prime = front.shape.header.prime

  splits : Splits p (degree s) (count s) (polynomial s) (root s) (power s)
  splits = record {
    rising = λ i l. subst (λ (x : ℕ). root s i < root s x) (add-one i) (front.rise i (omega arith));
    reduced = front.below;
    powers = front.shape.powers.each;
    degree = front.shape.powers.sum;
    splits = split;
  }

  abbrev a : ℕ → ℕ → ℕ → ℕ
  a = solution prime (degree s) (width s) (count s) (polynomial s) (root s) (power s) splits (omega arith) (λ j l t u. front.words.reduced j (omega arith) t (omega arith) u) (top-is s front)

  abbrev columns : ℕ → ℕ → ℕ
  columns = cut w (stacked (count s) (power s) a)

  abbrev solved-rows : List ℕ
  solved-rows = table (degree s) (width s) columns

  column-below : (j t : ℕ) → columns j t < p
  unfolding stacked
  column-below j t =
      ⊎_elim (λ (l : t < w). rw (cut_low w (stacked (count s) (power s) a) j t l) (solution-lt prime (degree s) (width s) (count s) (polynomial s) (root s) (power s) splits _ _ _ _ _ t))
      (λ (l : w ≤ t). rw (cut_high w (stacked (count s) (power s) a) j t l) (p-pos prime)) (lt-or-ge t w)

  pub computed-exists : (rows : List ℕ) × Computed s w rows
  computed-exists = (
    solved-rows,
    record {
      long = length-table (degree s) (width s) columns;
      below = λ i l. by_row (degree s) (width s) (λ i. word solved-rows i < p) (omega arith) (λ j g t u. rw (word-table (degree s) (width s) columns j t g u) (column-below j t)) i (omega (arith, length-table (degree s) (width s) columns));
      factors = factors-ext p (degree s) w (count s) (polynomial s) (polynomial s) (root s) (root s) (power s) (power s) a (block_rows (width s) (power s) solved-rows) low
          (λ j l t u. refl) (λ i l. refl) (λ i l. refl)
          (λ i l j u t v.
          word-table (degree s) (width s) columns (sum_to i (power s) + j) t (omega (arith, in_block (count s) (power s) i j l u, front.shape.powers.sum)) (omega arith)
          ∙ cut_low w (stacked (count s) (power s) a) (sum_to i (power s) + j) t v ∙ stacked-is (count s) (power s) a i j t l u)
          (solution-is prime (degree s) (width s) (count s) (polynomial s) (root s) (power s) splits _ _ _ w high);
      rest = λ j l t u v. word-table (degree s) (width s) columns j t l v ∙ cut_high w (stacked (count s) (power s) a) j t u;
    },
  )

-- row j, column t of the polynomial is another number, and the rows have no terms from there on
pub computed-set : (s : List ℕ) → Front s → (j t e : ℕ) → j < degree s → t < known s j → e < modulus s → (w : ℕ) → 1 ≤ w → w ≤ t → (rows : List ℕ) → Computed s w rows → Computed (set s (entry_at s j t) e) w rows
computed-set s h j t e lj lt le w low past rows g =
    let u = set s (entry_at s j t) e in
    let wide = (h.lengths.each j lj).high in
    let ep : modulus u ≡ modulus s = set_same s h j t e lj lt le 0 (omega arith) in
    let eD = set-degree s h j t e lj lt le in let eN = set-width s h j t e lj lt le in let er = set-count s h j t e lj lt le in
    let root-same = set-root s h j t e lj lt le in let power-same = set-power s h j t e lj lt le in
    record {
      long = g.long ∙ rw (eD, eN) refl;
      below = rw (ep) g.below;
      factors = subst (λ q. IsFactors q (degree u) w (count u) (polynomial u) (root u) (power u) (block_rows (width u) (power u) rows)) (sym ep)
          (subst (λ d. IsFactors (modulus s) d w (count u) (polynomial u) (root u) (power u) (block_rows (width u) (power u) rows)) (sym eD)
          (subst (λ r. IsFactors (modulus s) (degree s) w r (polynomial u) (root u) (power u) (block_rows (width u) (power u) rows)) (sym er)
          (factors-ext (modulus s) (degree s) w (count s) (polynomial s) (polynomial u) (root s) (root u) (power s) (power u) (block_rows (width s) (power s) rows) (block_rows (width u) (power u) rows) low
          (λ i l c v. set-polynomial s h j t e lj lt le (λ i c x. c < w → x ≡ polynomial s i c) (λ v. absurd (let z : ⊥ = omega arith in z)) (λ i c v ne l. refl) i c (omega arith) v)
          root-same power-same (λ i l q v c y. ap₂ (λ x n. word rows ((x + q) * n + c)) (sum_to-ext i (λ m o. power-same m (omega arith))) eN) g.factors)));
      rest = λ i l c v y. ap (λ n. word rows (i * n + c)) eN ∙ g.rest i (omega arith) c v (omega arith);
    }

-- the words after the factors' first, and the terms
pub set-stored : (old : List ℕ) → Front old → (w : ℕ) (rows : List ℕ) → length rows ≡ degree old * width old → (h : Header) → HeaderIs old h → (a : ℕ) → a ≡ factors_from h.degree h.width h.count
    → (y : List ℕ) → y ≡ over rows (from old a) → (new : List ℕ) → new ≡ set (put_from a old y) terms_at w → Stored old w rows new
set-stored old front w rows nr h is a q' y q new qn = subst (Stored old w rows) (sym qn) (record {
  long = length-set (put_from a old y) terms_at w ∙ whole;
  reached = get_or-set_same (put_from a old y) terms_at w 0 (omega (arith, whole, fits));
  factors = λ i l. ap (λ x. word (set (put_from a old y) terms_at w) (x + i)) (sym e) ∙ get_or-set_other (put_from a old y) terms_at (a + i) w 0 (λ z. let n : ⊥ = omega arith in n)
      ∙ after i ∙ ap (λ x. word x i) q ∙ get_or-append rows (drop (length rows) (from old a)) 0 i (omega arith);
  others = λ i ne s. get_or-set_other (put_from a old y) terms_at i w 0 ne ∙ ⊎_elim (λ (l : i < factors_from (degree old) (width old) (count old)). put-kept a old y fits i (omega (arith, e)))
      (λ (l : end old ≤ i).
      let z : a + (i - a) ≡ i = omega (arith, size) in
      ap (word (put_from a old y)) (sym z) ∙ after (i - a) ∙ ap (λ x. word x (i - a)) q ∙ over-past rows (from old a) (i - a) (omega (arith, size)) ∙ ap (λ x. word x (i - a)) (from_is old a) ∙ get_or-drop a old (i - a) 0 ∙ ap (word old) z) s;
})
  where
    e : a ≡ factors_from (degree old) (width old) (count old)
    e = q' ∙ header-factors old h is

    size : end old ≡ a + degree old * width old
    size = omega (arith, e)

    fits : a ≤ length old
    fits = omega (arith, size, front.shape.offsets.long)

    long-y : length y ≡ length old - a
    long-y = ap length q ∙ length_over rows (from old a) (omega (arith, length_from old a, size, front.shape.offsets.long)) ∙ length_from old a

    whole : length (put_from a old y) ≡ length old
    whole = put-long a old y fits long-y

    after : (i : ℕ) → word (put_from a old y) (a + i) ≡ word y i
    after i = sym (get_or-drop a (put_from a old y) i 0) ∙ ap (λ x. word x i) (put-drop a old y fits)

pub stored-exists : (s : List ℕ) → Front s → (w : ℕ) (rows : List ℕ) → length rows ≡ degree s * width s → (new : List ℕ) × Stored s w rows new
stored-exists s front w rows n =
    let h : Header = record { p = modulus s; degree = degree s; width = width s; terms = terms s; count = count s; reach = reach s } in
    let is : HeaderIs s h = record { p-is = refl; degree-is = refl; width_is = refl; terms-is = refl; count-is = refl; reach-is = refl } in
    (_, set-stored s front w rows n h is _ refl _ refl _ refl)
