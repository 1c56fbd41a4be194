-- A sheet is sound exactly when it passes every stage of the test.
--   offsets-header   the header of a sheet whose offsets fit
--   sound-front, sound-split, sound-same   a sound sheet passes each stage: its rows are the factors worked out anew, to as many terms or more
--   stages-sound, same-decides             a sheet that passes all is sound
--   answers                                so the answer is sound_test's
-- Assumes nothing.
use mathlib.Core.Path.{◌≡◌, refl, sym, ap, subst, ◌∙◌}
use mathlib.Core.Logic.{⊎_elim}
use mathlib.Core.Bool.{Bool}
use mathlib.Core.List.{List}
use Prim.Native.Nat.{ℕ, ◌+◌, ◌-◌, ◌*◌, ◌≤◌, ◌<◌, zero, suc}
use native.Mathlib.Numerals.{add-one}
use native.Mathlib.Omega.{arith}
use lib.Dec.{ltb}
use lib.ListN.{length}
use Rattle.algebra.specs.Sums.{sum_to}
use Rattle.algebra.proofs.SumsLaws.{sum_to-zero, sum_to-count}
use Rattle.numbers.specs.Words.{word, choose, part, up_to}
use Rattle.numbers.specs.internal.Facts.{Decides}
use Rattle.numbers.proofs.TestsLaws.{decided-test}
use Rattle.numbers.proofs.WordsLaws.{lt-or-ge, word-part, up-low, up-high, least-le}
use Rattle.layout.proofs.RegionsLaws.{row_part, row_word, row-long}
use Rattle.rows.proofs.RowsLaws.{row_fits}
use Rattle.hensel.specs.Factors.{IsFactors}
use Rattle.hensel.proofs.FactorsLaws.{factors-unique, factors-ext}
use Rattle.hensel.proofs.BlocksLaws.{locate, in_block}
use Rattle.layout.specs.declared.Header.{Header}
use Rattle.layout.specs.internal.Places.{HeaderIs}
use Rattle.layout.specs.Layout.{modulus, degree, width, terms, count, factors_from, root, power, polynomial, factor, factor_rows, reach, known, lengths_from, header_of}
use Rattle.sheet.specs.Sheet.{Sound}
use Rattle.sheet.specs.Test.{sound_test}
use Rattle.front.specs.internal.Front.{OffsetsFit, Shape, PolynomialFits, top_from, Front}
use Rattle.sheet.specs.internal.Stages.{SplitFits, block_rows, Computed, SameTerms}
use Rattle.sheet.proofs.SheetsLaws.{sound-terms}
use Rattle.sheet.proofs.SoundTestLaws.{sound-test}
use Rattle.sheet.proofs.WorkLaws.{unit-later, top-is}

-- the header's eleven words, from the offsets
pub offsets-header : (s : List ℕ) → OffsetsFit s → (i : ℕ) → i < lengths_from → word s i ≡ word (header_of (modulus s) (degree s) (width s) (terms s) (count s) (reach s)) i
offsets-header s h zero l = refl
offsets-header s h (suc zero) l = refl
offsets-header s h (suc (suc zero)) l = refl
offsets-header s h (suc (suc (suc zero))) l = refl
offsets-header s h (suc (suc (suc (suc zero)))) l = refl
offsets-header s h (suc (suc (suc (suc (suc zero))))) l = h.offset-roots
offsets-header s h (suc (suc (suc (suc (suc (suc zero)))))) l = h.offset-polynomial
offsets-header s h (suc (suc (suc (suc (suc (suc (suc zero))))))) l = h.offset-factors
offsets-header s h (suc (suc (suc (suc (suc (suc (suc (suc zero)))))))) l = h.offset-rest
offsets-header s h (suc (suc (suc (suc (suc (suc (suc (suc (suc zero))))))))) l = h.offset-end
offsets-header s h (suc (suc (suc (suc (suc (suc (suc (suc (suc (suc zero)))))))))) l = refl
offsets-header s h (suc (suc (suc (suc (suc (suc (suc (suc (suc (suc (suc i))))))))))) l = absurd (let z : ⊥ = omega arith in z)

-- row j of rows of n words, as it is lent to be compared
abbrev pub RowSame : (n k : ℕ) (stored computed : List ℕ) → ℕ → Type 0
RowSame n k stored computed j = (t : ℕ) → t < n → word stored (j * n + t) ≡ up_to k (λ t. word computed (j * n + t)) t

module _ (j d n : ℕ) where
  pub row-whole : (s : List ℕ) → j < d → length s ≡ d * n → length (row_part n j s) ≡ n
  row-whole s l e = row-long j n s (omega (arith, row_fits j d n l))

  module _ (k : ℕ) (stored computed : List ℕ) (l : j < d) (ns : length stored ≡ d * n) (nc : length computed ≡ d * n) where
    pub row_back : RowSame n k stored computed j → (t : ℕ) → t < length (row_part n j stored) → word (row_part n j stored) t ≡ up_to k (word (row_part n j computed)) t
    row_back h t u =
        let v : t < n = omega (arith, row-whole stored l ns) in
        row_word j n stored t v ∙ h t v ∙ ap (λ (x : ℕ). choose (ltb t k) x 0) (sym (row_word j n computed t v))

-- factors to w terms are factors to fewer
pub factors-fewer : (p D k w r : ℕ) (f : ℕ → ℕ → ℕ) (root power : ℕ → ℕ) (a : ℕ → ℕ → ℕ → ℕ) → k ≤ w → IsFactors p D w r f root power a → IsFactors p D k r f root power a
factors-fewer p D k w r f root power a l h = record {
  rising = h.rising;
  reduced = h.reduced;
  powers = h.powers;
  degree = h.degree;
  splits = h.splits;
  first = h.first;
  same = λ j u t g. h.same j u t (omega arith);
}

module _ (s : List ℕ) (h : Sound s) where
  count_low : 1 ≤ count s
  count_low =
      ⊎_elim (λ (l : count s < 1).
      let e : count s ≡ 0 = omega arith in
      omega (arith, ap (λ n. sum_to n (power s)) e, sum_to-zero (power s), h.factors.degree, h.degree-low))
      (λ (l : 1 ≤ count s). l) (lt-or-ge (count s) 1)

  sound-shape : Shape s
  sound-shape = record {
    header = record {
      roomy = omega (arith, h.long);
      prime = h.prime;
      small = h.small;
      degree-low = h.degree-low;
      degree-high = h.degree-high;
      width-high = h.width-high;
      terms-low = h.terms-low;
      terms-high = h.terms-high;
      reach-high = omega (arith, h.reached, least-le (width s) (known s) (degree s));
      count_low = count_low;
      count-high = omega (arith, sum_to-count (count s) (power s) h.factors.powers, h.factors.degree);
    };
    powers = record { each = h.factors.powers; sum = h.factors.degree };
    offsets = record {
      offset-roots = h.header 5 (omega arith);
      offset-polynomial = h.header 6 (omega arith);
      offset-factors = h.header 7 (omega arith);
      offset-rest = h.header 8 (omega arith);
      offset-end = h.header 9 (omega arith);
      long = h.long;
    };
  }

  sound-words : PolynomialFits s
  sound-words = record {
    reduced = λ j l t _ g. h.polynomial-reduced j (omega arith) t g;
    top = ap (word s) (let e : top_from s ≡ top_from s + 0 = omega arith in e) ∙ h.polynomial-monic 0 (omega (arith, h.terms-low, sound-terms s h));
    later = λ j l t u g.
        let z : j ≡ 0 = omega arith in
        let e : word s (top_from s + j * width s + t) ≡ 0 =
        ap (word s) (let q : top_from s + j * width s + t ≡ top_from s + t = omega (arith, ap (λ (x : ℕ). x * width s) z) in q) ∙ h.polynomial-monic t g ∙ unit-later t u in
        omega arith;
  }

  pub sound-front : Front s
  sound-front = record {
    shape = sound-shape;
    below = h.factors.reduced;
    rise = λ i l. subst (λ (x : ℕ). root s i < root s x) (sym (add-one i)) (h.factors.rising i (omega arith));
    words = sound-words;
    lengths = record { each = h.lengths; reached = h.reached };
  }

  pub sound-split : SplitFits s
  sound-split = h.factors.splits

-- the stored rows and those worked out
module _ (s : List ℕ) (h : Front s) (w : ℕ) (rows : List ℕ) (g : Computed s w rows) (k-low : terms s ≤ w) where
  inner : (i : ℕ) → i < count s → (j : ℕ) → j < power s i → sum_to i (power s) + j < degree s
  inner i l j u = omega (arith, in_block (count s) (power s) i j l u, h.shape.powers.sum)

  below_at : (j : ℕ) → j < degree s → (t : ℕ) → t < width s → word rows (j * width s + t) < modulus s
  below_at j l t u = g.below (j * width s + t) (omega (arith, row_fits j (degree s) (width s) l, g.long))

  pub sound-same : Sound s → (j : ℕ) → j < degree s → (t : ℕ) → t < width s → factor_rows s j t ≡ up_to (terms s) (λ t. word rows (j * width s + t)) t
  sound-same f j l t v =
      ⊎_elim
      (λ (u : t < terms s).
      let k = terms s in
      let low = f.terms-low in let high = sound-terms s f in
      let c = factors-unique f.prime (k - 1) k w (degree s) (degree s) (count s) (count s) (polynomial s) (polynomial s) (root s) (root s) (power s) (power s) (factor s) (block_rows (width s) (power s) rows)
      f.factors g.factors (omega arith) (omega arith)
      (λ i a q o t x. f.factors-reduced (sum_to i (power s) + q) (inner i a q o) t (omega arith))
      (λ i a q o t x. below_at (sum_to i (power s) + q) (inner i a q o) t (omega arith))
      (record { degrees = refl; columns = λ q o t x. refl }) in
      let B = locate (count s) (power s) j (omega (arith, h.shape.powers.sum)) in
      ap (λ x. factor_rows s x t) B.at ∙ c.columns B.block B.block-low B.row B.row_low t (omega arith)
      ∙ ap (λ x. word rows (x * width s + t)) (sym B.at) ∙ sym (up-low k (λ t. word rows (j * width s + t)) t u))
      (λ (u : terms s ≤ t). f.factors-rest j l t u v ∙ sym (up-high (terms s) (λ t. word rows (j * width s + t)) t u))
      (lt-or-ge t (terms s))

  module _ (same : (j : ℕ) → j < degree s → (t : ℕ) → t < width s → factor_rows s j t ≡ up_to (terms s) (λ t. word rows (j * width s + t)) t) where
    stored : (j : ℕ) → j < degree s → (t : ℕ) → t < terms s → factor_rows s j t ≡ word rows (j * width s + t)
    stored j l t u = same j l t (omega (arith, h.shape.header.terms-high, h.shape.header.reach-high)) ∙ up-low (terms s) (λ t. word rows (j * width s + t)) t u

    pub stages-sound : Sound s
    stages-sound =
        let low = h.shape.header.terms-low in let high = h.shape.header.terms-high in let wide = h.shape.header.reach-high in
        record {
          prime = h.shape.header.prime;
          small = h.shape.header.small;
          degree-low = h.shape.header.degree-low;
          degree-high = h.shape.header.degree-high;
          width-high = h.shape.header.width-high;
          terms-low = low;
          terms-high = high;
          header = offsets-header s h.shape.offsets;
          long = h.shape.offsets.long;
          polynomial-reduced = λ j l t u. h.words.reduced j (omega arith) t (omega arith) u;
          polynomial-monic = top-is s h;
          lengths = h.lengths.each;
          reached = h.lengths.reached;
          factors = factors-ext (modulus s) (degree s) (terms s) (count s) (polynomial s) (polynomial s) (root s) (root s) (power s) (power s) (block_rows (width s) (power s) rows) (factor s) low
              (λ j l t u. refl) (λ i l. refl) (λ i l. refl) (λ i l j u t v. stored (sum_to i (power s) + j) (inner i l j u) t v)
              (factors-fewer (modulus s) (degree s) (terms s) w (count s) (polynomial s) (root s) (power s) (block_rows (width s) (power s) rows) k-low g.factors);
          factors-reduced = λ j l t u. subst (λ x. x < modulus s) (sym (stored j l t u)) (below_at j l t (omega arith));
          factors-rest = λ j l t u v. same j l t v ∙ up-high (terms s) (λ t. word rows (j * width s + t)) t u;
        }

  -- the comparison of the part of the sheet that holds the factors' rows decides whether it is sound
  pub same-decides : (r : Header) → HeaderIs s r → (x : List ℕ) → x ≡ part s (factors_from (degree s) (width s) (count s)) (degree s * width s) → (b : Bool)
      → Decides b (SameTerms r.width r.terms r.degree x rows) → Decides b (Sound s)
  same-decides r is x e b given = record {
    yes = λ q. stages-sound (λ j l t u. sym (stored-word j l t u) ∙ d.yes q j l t u);
    no = λ q f. d.no q (λ j l t u. stored-word j l t u ∙ sound-same f j l t u);
  }
    where
      d : Decides b (SameTerms (width s) (terms s) (degree s) x rows)
      d = rw (← is.width_is, ← is.terms-is, ← is.degree-is) given

      stored-word : (j : ℕ) → j < degree s → (t : ℕ) → t < width s → word x (j * width s + t) ≡ factor_rows s j t
      stored-word j l t u =
          let from = factors_from (degree s) (width s) (count s) in
          ap (λ y. word y (j * width s + t)) e ∙ word-part s from (degree s * width s) (j * width s + t) (omega (arith, row_fits j (degree s) (width s) l))
          ∙ ap (word s) (omega arith)

-- the test's answer
pub answers : (b : Bool) (s : List ℕ) → Decides b (Sound s) → b ≡ sound_test s
answers b s d = decided-test b (sound_test s) (sound-test s) d
