-- Laws of the stages of the test of a sheet: what their loops find, and that every place that they read is there.
--   modulus-small                what checks 1 and 2 let pass
--   rows-room, rows-some         the factors' rows are few enough for the scratch, and some
--   shape-placed                 every place of a sheet of the right shape is there
--   read_fits, fits_read         the header as it was read fits exactly where it does
--   lengths-not, lengths-decide  what is found of the lengths and the rows as they are lent is found of the sheet's
--   front-set                    what stands before the factors' rows fits still where a known entry that is not at X = 0 is another number below p
-- Assumes nothing.
use Prim.Native.Nat.{ℕ, ◌+◌, ◌*◌, ◌≤◌, ◌<◌}
use native.Mathlib.Nat.{mul-le-mul}
use native.Mathlib.Omega.{arith}
use mathlib.Core.Path.{◌≡◌, refl, sym, ap, ap₂, subst, ◌∙◌}
use mathlib.Core.Logic.{◌≢◌}
use mathlib.Core.Bool.{Bool, true, false}
use mathlib.Core.List.{List}
use borrow.Author.Tests.{ltb-false}
use lib.Dec.{ltb, eqb}
use lib.ListN.{length, drop, set, length-drop, length-set}
use lib.Seq.{length-take-le, get_or-set_other}
use Rattle.algebra.specs.Prime.{Prime}
use Rattle.algebra.specs.Sums.{sum_to}
use Rattle.algebra.proofs.SumsLaws.{sum_to-ext}
use Rattle.numbers.specs.Words.{word, outside, part, least}
use Rattle.numbers.specs.internal.Facts.{Decides}
use Rattle.numbers.specs.Refusals.{check, judge, modulus_checks, Pass}
use Rattle.numbers.proofs.WordsLaws.{true-false, word-part, least-ext}
use Rattle.numbers.proofs.TestsLaws.{decides_eq}
use Rattle.numbers.proofs.RefusalsLaws.{pass-check, neither, modulus-pass, modulus-fine}
use Rattle.numbers.specs.Limits.{largest_modulus, largest_degree, largest_width}
use Rattle.series.specs.Known.{rows_known}
use Rattle.series.proofs.KnownLaws.{rows-known-test, rows-known-ext}
use Rattle.layout.specs.declared.Header.{Header}
use Rattle.layout.specs.Layout.{rows_at, modulus, degree, width, terms, count, reach, known, lengths_from, roots_from, polynomial_from, root, power, end, polynomial, entry_at}
use Rattle.layout.specs.internal.Places.{HeaderIs, Placed}
use Rattle.layout.proofs.PlacesLaws.{lower-within, entry-within, lower_word}
use Rattle.layout.proofs.RegionsLaws.{entry-by, entry_read}
use Rattle.front.specs.internal.Front.{OneTo, HeaderFits, Shape, top_from, LengthsFit, Front}

pub modulus-small : (p : ℕ) → judge (modulus_checks p) ≡ Pass → p ≤ largest_modulus
modulus-small p e =
    let a = pass-check (check 1 (outside 2 largest_modulus p) 0) _ e in
    let (low, high) = neither (ltb p 2) (ltb largest_modulus p) a.0 in
    ltb-false largest_modulus p high

-- the factors' rows fit the scratch that they are worked out in
pub rows-room : (s : List ℕ) → HeaderFits s → degree s * width s ≤ 8192
rows-room s h = let z : degree s * width s ≤ 32 * 256 = mul-le-mul {n₂ = 32} {m₂ = 256} h.degree-high h.width-high in omega arith

-- which are some
pub rows-some : (s : List ℕ) → HeaderFits s → 1 ≤ degree s * width s
rows-some s h = let z : 1 * 1 ≤ degree s * width s = mul-le-mul {n₁ = 1} {m₁ = 1} h.degree-low (omega (arith, h.terms-low, h.terms-high, h.reach-high)) in omega arith

-- every place of a sheet that has this shape is there
pub shape-placed : (s : List ℕ) → Shape s → Placed s
shape-placed s h = record {
  degree-high = h.header.degree-high;
  width-high = h.header.width-high;
  count-high = omega (arith, h.header.count-high, h.header.degree-high);
  powers-sum = h.powers.sum;
  long = h.offsets.long;
}

-- what the header says as it was read
module _ (s : List ℕ) (h : Header) (e : HeaderIs s h) where
  pub record ReadFits : Type 0 where
    pub modulus-in : judge (modulus_checks h.p) ≡ Pass
    pub degree-in : OneTo largest_degree h.degree
    pub width-in : h.width ≤ largest_width
    pub reach-in : h.reach ≤ h.width
    pub terms-in : OneTo h.reach h.terms
    pub count-in : OneTo h.degree h.count
    pub roomy : polynomial_from h.degree h.count ≤ length s

  pub read_fits : ReadFits → HeaderFits s
  read_fits f =
      let m : judge (modulus_checks (modulus s)) ≡ Pass = rw (← e.p-is) f.modulus-in in
      let d = f.degree-in in let k = f.terms-in in let r = f.count-in in
      record {
        roomy = omega arith;
        prime = (modulus-pass (modulus s) m).prime;
        small = modulus-small (modulus s) m;
        degree-low = omega arith;
        degree-high = omega arith;
        width-high = omega arith;
        terms-low = omega arith;
        terms-high = omega arith;
        reach-high = omega arith;
        count_low = omega arith;
        count-high = omega arith;
      }

  pub fits_read : HeaderFits s → ReadFits
  fits_read f = record {
    modulus-in = rw e.p-is (modulus-fine (modulus s) f.prime f.small);
    degree-in = record { low = omega arith; upto = omega arith };
    width-in = omega arith;
    reach-in = omega arith;
    terms-in = record { low = omega arith; upto = omega arith };
    count-in = record { low = omega arith; upto = omega arith };
    roomy = omega arith;
  }

  -- the known lengths and the lower rows as they are lent
  module _ (g : Shape s) (lengths rows : List ℕ) (l : lengths ≡ part s lengths_from (degree s)) (r : rows ≡ part s (polynomial_from (degree s) (count s)) (degree s * width s)) where
    pub lengths-long : length lengths ≡ degree s
    lengths-long = ap length l ∙ length-take-le (degree s) (drop lengths_from s) (let z = g.header.roomy in omega (arith, length-drop lengths_from s))

    length-is : (j : ℕ) → j < degree s → word lengths j ≡ known s j
    length-is j u = ap (λ x. word x j) l ∙ word-part s lengths_from (degree s) j u

    row_is : (j : ℕ) → j < degree s → (t : ℕ) → t < width s → rows_at rows 0 (width s) j t ≡ polynomial s j t
    row_is j u t v = ap (word rows) (let z : 0 + j * width s + t ≡ j * width s + t = omega arith in z) ∙ lower_word s (shape-placed s g) rows r j u t v

    found_rows : rows_known h.width (length lengths) (word lengths) (rows_at rows 0 h.width) ≡ rows_known (width s) (degree s) (known s) (polynomial s)
    found_rows = rw (e.width_is, lengths-long) (rows-known-ext (width s) (degree s) (word lengths) (known s) (rows_at rows 0 (width s)) (polynomial s) length-is row_is)

    found-least : least h.width (length lengths) (word lengths) ≡ least (width s) (degree s) (known s)
    found-least = rw (e.width_is, lengths-long) (least-ext (width s) (degree s) (word lengths) (known s) length-is)

    module _ (b : Bool) (q : b ≡ rows_known h.width (length lengths) (word lengths) (rows_at rows 0 h.width)) where
      pub lengths-not : b ≡ false → LengthsFit s → ⊥
      lengths-not z f = true-false (sym ((rows-known-test (width s) (degree s) (known s) (polynomial s)).1 f.each) ∙ sym found_rows ∙ sym q ∙ z)

      pub lengths-decide : b ≡ true → (m : ℕ) → m ≡ least h.width (length lengths) (word lengths) → Decides (eqb m h.reach) (LengthsFit s)
      lengths-decide z m a =
          decides_eq m h.reach
          (λ u. record { each = (rows-known-test (width s) (degree s) (known s) (polynomial s)).0 (sym found_rows ∙ sym q ∙ z); reached = sym e.reach-is ∙ sym u ∙ a ∙ found-least })
          (λ f. a ∙ found-least ∙ sym f.reached ∙ sym e.reach-is)

-- the sheet with another number in row j, column t
module _ (s : List ℕ) (h : Front s) (j t e : ℕ) (row_low : j < degree s) (inside : t < known s j) (small : e < modulus s) where
  abbrev from : ℕ
  from = polynomial_from (degree s) (count s)

  abbrev at : ℕ
  at = entry_at s j t

  abbrev u : List ℕ
  u = set s at e

  column-low : t < width s
  column-low = omega (arith, (h.lengths.each j row_low).high)

  set-fits : at < from + degree s * width s
  set-fits = entry-within s (shape-placed s h.shape) j row_low t column-low

  fits : at < length s
  fits = omega (arith, set-fits, lower-within s (shape-placed s h.shape))

  pub set_same : (i : ℕ) → i ≢ at → word u i ≡ word s i
  set_same i ne = get_or-set_other s at i e 0 ne

  before : (i : ℕ) → i < from → word u i ≡ word s i
  before i l = set_same i (omega arith)

  pub set-degree : degree u ≡ degree s
  set-degree = before 1 (omega arith)

  pub set-width : width u ≡ width s
  set-width = before 2 (omega arith)

  pub set-count : count u ≡ count s
  set-count = before 4 (omega arith)

  pub set-root : (i : ℕ) → i < count s → root u i ≡ root s i
  set-root i l = ap (λ d. word u (roots_from d + 2 * i)) set-degree ∙ before _ (omega arith)

  pub set-power : (i : ℕ) → i < count s → power u i ≡ power s i
  set-power i l = ap (λ d. word u (roots_from d + 2 * i + 1)) set-degree ∙ before _ (omega arith)

  -- the polynomial then
  pub set-polynomial : (P : ℕ → ℕ → ℕ → Type 0) → P j t e → ((i c : ℕ) → c < width s → ¬ ((i ≡ j) × (c ≡ t)) → P i c (polynomial s i c)) → (i c : ℕ) → c < width s → P i c (polynomial u i c)
  set-polynomial P here there i c l =
      subst (P i c) (sym (entry_read s u set-degree set-width set-count i c))
      (entry-by s from (width s) j t e column-low fits P here there i c l)

  set_known : (i : ℕ) → i < degree s → known u i ≡ known s i
  set_known i l = before (lengths_from + i) (omega arith)

  -- the top row is past it
  top-same : top_from u ≡ top_from s
  top-same = rw (set-degree, set-width, set-count) refl

  pub front-set : Front u
  front-set =
      let ep : modulus u ≡ modulus s = before 0 (omega arith) in
      let ek : terms u ≡ terms s = before 3 (omega arith) in
      let em : reach u ≡ reach s = before 10 (omega arith) in
      let eD = set-degree in let eN = set-width in let er = set-count in
      let long : length u ≡ length s = length-set s at e in
      let f = h.shape.header in let o = h.shape.offsets in
      let ends : end u ≡ end s = rw (eD, eN, er) refl in
      record {
        shape = record {
          header = record {
            roomy = omega (arith, f.roomy);
            prime = subst Prime (sym ep) f.prime;
            small = omega (arith, f.small);
            degree-low = omega (arith, f.degree-low);
            degree-high = omega (arith, f.degree-high);
            width-high = omega (arith, f.width-high);
            terms-low = omega (arith, f.terms-low);
            terms-high = omega (arith, f.terms-high);
            reach-high = omega (arith, f.reach-high);
            count_low = omega (arith, f.count_low);
            count-high = omega (arith, f.count-high);
          };
          powers = record {
            each = λ i l. let z = set-power i (omega arith) in omega (arith, h.shape.powers.each i (omega arith));
            sum = ap (λ n. sum_to n (power u)) er ∙ sum_to-ext (count s) set-power ∙ h.shape.powers.sum ∙ sym eD;
          };
          offsets = record {
            offset-roots = before 5 (omega arith) ∙ o.offset-roots ∙ rw (eD) refl;
            offset-polynomial = before 6 (omega arith) ∙ o.offset-polynomial ∙ rw (eD, er) refl;
            offset-factors = before 7 (omega arith) ∙ o.offset-factors ∙ rw (eD, eN, er) refl;
            offset-rest = before 8 (omega arith) ∙ o.offset-rest ∙ sym ends;
            offset-end = before 9 (omega arith) ∙ o.offset-end ∙ sym ends;
            long = omega (arith, o.long);
          };
        };
        below = λ i l. let z = set-root i (omega arith) in omega (arith, h.below i (omega arith));
        rise = λ i l. let z = set-root i (omega arith) in let y = set-root (i + 1) (omega arith) in omega (arith, h.rise i (omega arith));
        words = record {
          reduced = λ i l c _ v. omega (arith, set-polynomial (λ i c x. i < degree s + 1 → x < modulus s) (λ _. small) (λ i c v _ l. h.words.reduced i l c (omega arith) v) i c (omega arith) (omega arith));
          top = ap (word u) top-same ∙ set_same (top_from s) (omega (arith, set-fits)) ∙ h.words.top;
          later = λ i l c low v.
              let z : top_from u + i * width u + c ≡ top_from s + i * width s + c = rw (eD, eN, er) refl in
              omega (arith, ap (word u) z ∙ set_same (top_from s + i * width s + c) (omega (arith, set-fits)), h.words.later i l c low (omega arith));
        };
        lengths = record {
          each = λ i l.
              let a = h.lengths.each i (omega arith) in
              let b = set_known i (omega arith) in
              record {
                low = omega (arith, a.low);
                high = omega (arith, a.high);
                rest = λ c low v.
                    set-polynomial (λ i c x. i < degree s → known s i ≤ c → x ≡ 0) (λ _ l. absurd (let z : ⊥ = omega arith in z)) (λ i c v _ l low. (h.lengths.each i l).rest c low v) i c (omega arith) (omega arith) (omega arith);
              };
          reached = em ∙ h.lengths.reached ∙ sym (ap₂ (λ N D. least N D (known u)) eN eD ∙ least-ext (width s) (degree s) (known u) (known s) set_known);
        };
      }
