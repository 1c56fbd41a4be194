-- The checks of simple_roots, and the words that it writes.
--   multiple-is      what is found is the first root of power above 1
--   multiple-there, multiple-none, multiple-pass   refusal 22, by what is found; where it is not given every root has power 1
--   multiple-least   22 is given exactly where there is a root of power above 1, with the least of these
--   multiple-same    sheets with the same roots and powers are judged alike
--   Simple, simple-pass   what the checks let pass
--   simple-spoiled, simple-multiple, simple-short, simple-fine   the verdict, by what the code finds
--   rows-low         the words of the factors' rows are below p
--   roots-one        minus the factors' rows are the series of the roots, and there are no others
--   roots-reduced    all their words are below p
--   header-words, words-few   how many words there are
--   simple-one       every call has exactly one outcome
--   negate-ready, negated-roots   the factors' rows, as they stand in the sheet, and negated
-- Assumes nothing.
use Prim.Native.Nat.{ℕ, ◌+◌, ◌-◌, ◌*◌, ◌≤◌, ◌<◌, ◌%◌}
use native.Mathlib.Nat.{eq-or-lt_of_le, mod-lt, mod_self, sub-zero}
use native.Mathlib.Omega.{arith}
use mathlib.Core.Path.{◌≡◌, refl, sym, ◌∙◌, ap, ap₂, subst}
use mathlib.Core.Logic.{◌↔◌, ⊎_elim}
use mathlib.Core.Bool.{Bool}
use mathlib.Core.List.{List, [], ◌∷◌}
use borrow.Author.Tests.{lt-ltb, le-ltb, ltb-true, ltb-false}
use lib.Dec.{ltb}
use lib.ListN.{length, length-drop}
use lib.Seq.{get_or-take, get_or-drop, length-take-le}
use Rattle.algebra.proofs.Chain.{rising-all}
use Rattle.numbers.specs.Words.{word, first_where, over, part}
use Rattle.numbers.specs.internal.Facts.{AllBelow}
use Rattle.numbers.specs.Refusals.{judge, refusal, room_check, Row, Pass, Refuse}
use Rattle.numbers.specs.One.{TheOne, OneOutcome}
use Rattle.numbers.proofs.WordsLaws.{lt-or-ge, first-is, first_range, first-before, first_found, true-false, length-tabulate, word-tabulate}
use Rattle.numbers.proofs.RefusalsLaws.{after-pass, after-refuse, pass-parts, pass-check, take-check, skip-check, none-judged, not-pass}
use Rattle.numbers.proofs.OneLaws.{verdict-one}
use Rattle.rows.specs.Rows.{table}
use Rattle.rows.proofs.RowsLaws.{rows-below, length-table, word-table, table-ext, table-rows, by_row}
use Rattle.layout.specs.Layout.{rows_at, modulus, degree, width, terms, count, root, power, polynomial, factor, factor_rows, factors_from}
use Rattle.layout.specs.internal.Places.{HeaderIs}
use Rattle.layout.specs.declared.Header.{Header}
use Rattle.layout.proofs.PlacesLaws.{all-rows-small, factors-within}
use Rattle.layout.proofs.RegionsLaws.{in_rows}
use Rattle.sheet.specs.Sheet.{Sound}
use Rattle.sheet.proofs.SoundTestLaws.{spoiled-first, sound-first, passed_first}
use Rattle.sheet.proofs.SheetsLaws.{sound-terms}
use Rattle.sheet.proofs.ReadingLaws.{sound-placed}
use Rattle.simple.specs.Simple.{SeriesRoots, first_multiple, multiple_check, simple_verdict, RootsDone, SimpleRoots}
use Rattle.simple.specs.internal.Factors.{multiple_verdict, AllSimple, negated, root_series, root_words}
use Rattle.simple.proofs.ValueLaws.{root-ext}
use Rattle.simple.proofs.RootLaws.{sum_ones, sheet-root, sheet-only}

-- what is found
pub multiple-is : (s : List ℕ) (i : ℕ) → i ≤ count s → ((k : ℕ) → k < i → power s k ≤ 1) → (i < count s → 1 < power s i) → i ≡ first_multiple s
unfolding first_multiple
multiple-is s i high low at =
    sym (first-is (λ i. ltb 1 (power s i)) 0 (count s) i (omega arith) (omega arith) (λ l. lt-ltb 1 (power s i) (at (omega arith))) (λ k a b e. true-false (sym e ∙ le-ltb 1 (power s k) (low k b))))

-- refusal 22
module _ (s : List ℕ) where
  pub multiple-there : (i : ℕ) → i ≡ first_multiple s → i < count s → multiple_verdict s ≡ Refuse (refusal 22 (root s i))
  unfolding multiple_verdict
  multiple-there i is l = take-check (multiple_check s) [] (lt-ltb (first_multiple s) (count s) (omega arith)) ∙ ap (λ k. Refuse (refusal 22 (root s k))) (sym is)

  pub multiple-none : (i : ℕ) → i ≡ first_multiple s → count s ≤ i → multiple_verdict s ≡ Pass
  unfolding multiple_verdict
  multiple-none i is l = skip-check (multiple_check s) [] (le-ltb (first_multiple s) (count s) (omega arith)) ∙ none-judged

  pub multiple-pass : Sound s → multiple_verdict s ≡ Pass → AllSimple s
  unfolding multiple_verdict first_multiple
  multiple-pass sound e i l =
      let none : count s ≤ first_multiple s = ltb-false (first_multiple s) (count s) (pass-check (multiple_check s) [] e).0 in
      let z : power s i ≤ 1 = ltb-false 1 (power s i) (first-before (λ i. ltb 1 (power s i)) 0 (count s) i (omega arith) (omega arith) (omega arith)) in
      omega (arith, sound.factors.powers i l)

-- what is found, back: no more than r, powers of 1 before it, and there a higher one
found : (s : List ℕ) → (first_multiple s ≤ count s) × ((k : ℕ) → k < first_multiple s → power s k ≤ 1) × (first_multiple s < count s → 1 < power s (first_multiple s))
unfolding first_multiple
found s =
    let test : ℕ → Bool = λ i. ltb 1 (power s i) in
    let high = (first_range test 0 (count s)).1 in (
      omega arith,
      λ k l. ltb-false 1 (power s k) (first-before test 0 (count s) k (omega arith) l (omega arith)),
      λ l. ltb-true 1 (power s (first_where test 0 (count s))) (first_found test 0 (count s) (omega arith)),
    )

-- sheets with the same roots and powers are judged alike
pub multiple-same : (s u : List ℕ) → count s ≡ count u → ((i : ℕ) → i < count s → root s i ≡ root u i) → ((i : ℕ) → i < count s → power s i ≡ power u i) → multiple_verdict s ≡ multiple_verdict u
multiple-same s u r roots powers =
    let i = first_multiple s in
    let (high, low, at) = found s in
    let is : i ≡ first_multiple u = multiple-is u i (omega arith) (λ k l. omega (arith, low k l, powers k (omega arith))) (λ l. omega (arith, at (omega arith), powers i (omega arith))) in
    ⊎_elim
    (λ (l : i < count s). multiple-there s i refl l ∙ ap (λ c. Refuse (refusal 22 c)) (roots i l) ∙ sym (multiple-there u i is (omega arith)))
    (λ (l : count s ≤ i). multiple-none s i refl l ∙ sym (multiple-none u i is (omega arith)))
    (lt-or-ge i (count s))

-- 22 is given with the least root of power above 1, since the roots rise
rise : (s : List ℕ) → Sound s → (i j : ℕ) → i ≤ j → j < count s → root s i ≤ root s j
rise s sound i j h l =
    ⊎_elim (λ (e : i ≡ j). omega (arith, ap (root s) e)) (λ (u : i < j). omega (arith, rising-all (λ x. x) (count s) (root s) sound.factors.rising i j u l)) (eq-or-lt_of_le h)

same-detail : {x y : ℕ} → Refuse (refusal 22 x) ≡ Refuse (refusal 22 y) → x ≡ y
same-detail {x} {y} e = let z : refusal 22 x ≡ refusal 22 y = cc in ap (λ (r : Row). r.detail) z

pub multiple-least : (s : List ℕ) → Sound s → (c : ℕ) → (judge (multiple_check s ∷ []) ≡ Refuse (refusal 22 c)) ↔ ((i : ℕ) × (i < count s) × (root s i ≡ c) × (1 < power s i) × ((j : ℕ) → j < count s → 1 < power s j → c ≤ root s j))
unfolding multiple_verdict
multiple-least s sound c =
    let i = first_multiple s in
    let (high, low, at) = found s in
    let after : (j : ℕ) → 1 < power s j → i ≤ j = λ j m. ⊎_elim (λ (u : j < i). absurd (let z = low j u in let y : ⊥ = omega arith in y)) (λ (u : i ≤ j). u) (lt-or-ge j i) in (
      λ e. ⊎_elim
          (λ (l : i < count s).
          let is : root s i ≡ c = same-detail (sym (multiple-there s i refl l) ∙ e) in
          (i, l, is, at l, λ j g m. omega (arith, rise s sound i j (after j m) g)))
          (λ (l : count s ≤ i). not-pass _ (sym e ∙ multiple-none s i refl l))
          (lt-or-ge i (count s)),
      λ (k, l, is, m, all).
          let h = after k m in
          let there : i < count s = omega arith in
          multiple-there s i refl there ∙ ap (λ x. Refuse (refusal 22 x)) (omega (arith, rise s sound i k h l, all i there (at there))),
    )

pub record Simple (s : List ℕ) (room : ℕ) : Type 0 where
  pub sound : Sound s
  pub simple : AllSimple s
  pub roomy : count s * width s ≤ room

-- the verdict, by what the code finds
module _ (s : List ℕ) (room : ℕ) where
  pub simple-pass : simple_verdict s room ≡ Pass → Simple s room
  unfolding simple_verdict multiple_verdict
  simple-pass e =
      let a = passed_first s _ e in
      let b = pass-parts (multiple_check s ∷ []) (room_check room (count s * width s) ∷ []) a.1 in
      record {
        sound = a.0;
        simple = multiple-pass s a.0 b.0;
        roomy = ltb-false room (count s * width s) (pass-check (room_check room (count s * width s)) [] b.1).0;
      }

  pub simple-spoiled : ¬ Sound s → simple_verdict s room ≡ Refuse (refusal 13 0)
  unfolding simple_verdict
  simple-spoiled h = spoiled-first s _ h

  module _ (sound : Sound s) where
    pub simple-multiple : (r : Row) → multiple_verdict s ≡ Refuse r → simple_verdict s room ≡ Refuse r
    unfolding simple_verdict multiple_verdict
    simple-multiple r e = sound-first s _ sound ∙ after-refuse (multiple_check s ∷ []) (room_check room (count s * width s) ∷ []) r e

    module _ (e : multiple_verdict s ≡ Pass) where
      past : simple_verdict s room ≡ judge (room_check room (count s * width s) ∷ [])
      unfolding simple_verdict multiple_verdict
      past = sound-first s _ sound ∙ after-pass (multiple_check s ∷ []) (room_check room (count s * width s) ∷ []) e

      pub simple-short : room < count s * width s → simple_verdict s room ≡ Refuse (refusal 10 (count s * width s))
      simple-short g = past ∙ take-check (room_check room (count s * width s)) [] (lt-ltb room (count s * width s) g)

      pub simple-fine : count s * width s ≤ room → simple_verdict s room ≡ Pass
      simple-fine g = past ∙ skip-check (room_check room (count s * width s)) [] (le-ltb room (count s * width s) g) ∙ none-judged

-- the words of the factors' rows are below p
pub rows-low : (s : List ℕ) → Sound s → (j : ℕ) → j < degree s → (t : ℕ) → t < width s → factor_rows s j t < modulus s
rows-low s sound j l t g =
    ⊎_elim (λ (u : t < terms s). sound.factors-reduced j l t u)
    (λ (u : terms s ≤ t). omega (arith, sound.factors-rest j l t u g, sound.prime.two-le)) (lt-or-ge t (terms s))

-- the words of a sheet whose roots are all simple
module _ (s : List ℕ) (sound : Sound s) (simple : AllSimple s) where
  pub degree-is : degree s ≡ count s
  degree-is = sym sound.factors.degree ∙ sum_ones (count s) (power s) simple

  -- the rows of the factors, one of each
  factor-at : (i t : ℕ) → i < count s → factor s i 0 t ≡ factor_rows s i t
  factor-at i t l = ap (λ j. factor_rows s j t) (omega (arith, sum_ones i (power s) (λ m u. simple m (omega arith))))

  later-zero : (i : ℕ) → i < count s → (t : ℕ) → terms s ≤ t → t < width s → root_series s i t ≡ 0
  later-zero i l t g u =
      ap (λ x. (modulus s - x) % modulus s) (factor-at i t l ∙ sound.factors-rest i (omega (arith, degree-is)) t g u)
      ∙ ap (λ x. x % modulus s) (sub-zero (modulus s)) ∙ mod_self (modulus s)

  pub length-roots : length (root_words s) ≡ count s * width s
  unfolding root_words
  length-roots = length-table (count s) (width s) (root_series s)

  row_at : (i : ℕ) → i < count s → (t : ℕ) → t < width s → rows_at (root_words s) 0 (width s) i t ≡ root_series s i t
  unfolding root_words
  row_at i l t g = ap (word (table (count s) (width s) (root_series s))) (let z : 0 + i * width s + t ≡ i * width s + t = omega arith in z) ∙ word-table (count s) (width s) (root_series s) i t l g

  -- minus the factors' rows are the series of the roots ..
  roots-are : SeriesRoots s (root_words s)
  roots-are = record {
    long = length-roots;
    roots = λ i l. root-ext (modulus s) (degree s) (terms s) (polynomial s) (root s i) (root_series s i) (rows_at (root_words s) 0 (width s) i) sound.terms-low
        (λ t g. row_at i l t (omega (arith, sound-terms s sound))) (sheet-root s sound simple i l);
    rest = λ i l t g u. row_at i l t u ∙ later-zero i l t g u;
  }

  -- .. and there are no others
  roots-only : (h : List ℕ) → SeriesRoots s h → h ≡ root_words s
  unfolding root_words
  roots-only h d =
      sym (table-rows h (count s) (width s) d.long)
      ∙ table-ext (count s) (width s) _ _ (λ i t l g.
      rows-below h (width s) (count s) i t l ∙ ap (word h) (let y : i * width s + t ≡ 0 + i * width s + t = omega arith in y)
      ∙ ⊎_elim (λ (u : t < terms s). sheet-only s sound simple i l (rows_at h 0 (width s) i) (d.roots i l) t u)
      (λ (u : terms s ≤ t). d.rest i l t u g ∙ sym (later-zero i l t u g)) (lt-or-ge t (terms s)))

  pub roots-one : TheOne (SeriesRoots s) (root_words s)
  roots-one = record { is = roots-are; only = roots-only }

  pub roots-reduced : (i : ℕ) → i < count s → (t : ℕ) → t < width s → rows_at (root_words s) 0 (width s) i t < modulus s
  roots-reduced i l t g = rw (row_at i l t g) (mod-lt _ (omega (arith, sound.prime.two-le)))

  -- the factors' rows as they stand in the sheet
  abbrev rows : List ℕ
  rows = part s (factors_from (degree s) (width s) (count s)) (degree s * width s)

  rows_long : length rows ≡ degree s * width s
  rows_long = length-take-le _ _ (let z = factors-within s (sound-placed s sound) in simp length-drop (omega arith))

  rows-word : (j t : ℕ) → j < degree s → t < width s → word rows (j * width s + t) ≡ factor_rows s j t
  rows-word j t l g =
      let from = factors_from (degree s) (width s) (count s) in
      get_or-take (degree s * width s) _ (j * width s + t) 0 (in_rows (degree s) (width s) j t l g) ∙ get_or-drop from s (j * width s + t) 0
      ∙ ap (word s) (let z : from + (j * width s + t) ≡ from + j * width s + t = omega arith in z)

  rows-size : length rows ≡ count s * width s
  rows-size = rows_long ∙ ap (λ n. n * width s) degree-is

  -- what the code negates: the part that was read, by the modulus that was read
  module _ (p : ℕ) (words : List ℕ) (ep : p ≡ modulus s) (ew : words ≡ rows) where
    pub negate-ready : (n : ℕ) → n ≡ count s * width s → (1 ≤ p) × AllBelow p words × (n ≡ length words)
    negate-ready n e =
        let low : AllBelow (modulus s) rows = λ k l.
        by_row (degree s) (width s) (λ k. word rows k < modulus s) (omega (arith, sound.terms-low, sound-terms s sound)) (λ j u t g. rw (rows-word j t u g) (rows-low s sound j u t g)) k
        (omega (arith, rows_long)) in
        (omega (arith, sound.prime.two-le), rw (ep, ew) low, e ∙ sym (ap length ew ∙ rows-size))

    pub negated-roots : (h : List ℕ) → h ≡ negated p words → SeriesRoots s h
    unfolding root_words
    negated-roots h is =
        subst (SeriesRoots s) (sym (is ∙ ap₂ negated ep ew ∙ sym (table-rows (negated (modulus s) rows) (count s) (width s) (length-tabulate _ _ ∙ rows-size))
        ∙ table-ext (count s) (width s) _ _ (λ i t l g.
        rows-below (negated (modulus s) rows) (width s) (count s) i t l
        ∙ word-tabulate (length rows) _ (i * width s + t) (omega (arith, rows-size, in_rows (count s) (width s) i t l g))
        ∙ ap (λ x. (modulus s - x) % modulus s) (rows-word i t (omega (arith, degree-is)) g ∙ sym (factor-at i t l))))) roots-are

-- how many words there are, by the header that was read
pub header-words : (s : List ℕ) (h : Header) → HeaderIs s h → h.count * h.width ≡ count s * width s
header-words s h is = ap₂ (λ (x y : ℕ). x * y) is.count-is is.width_is

pub words-few : (s : List ℕ) → Sound s → count s * width s ≤ 307200
words-few s sound = all-rows-small (count s) (width s) (omega (arith, (sound-placed s sound).count-high)) sound.width-high

-- exactly one outcome
pub simple-one : (s old : List ℕ) → OneOutcome (SimpleRoots s old)
simple-one s old =
    verdict-one (SimpleRoots s old) (simple_verdict s (length old)) (count s * width s) (λ new. RootsDone s old new) old (λ a new. (λ x. (x.answers, x.leaves), λ e. record { answers = e.0; leaves = e.1 }))
    (λ e.
    let h = simple-pass s (length old) e in
    let one = roots-one s h.sound h.simple in
    (over (root_words s) old, record { is = (root_words s, one.is, refl); only = λ new x. x.2 ∙ ap (λ y. over y old) (one.only x.0 x.1) }))
