-- The factors of a sheet's polynomial, worked out from the roots, the powers and the rows that the sheet lists.
--   work-listed   what finding the factors is given
--   worked-out    what it finds
--   loaded, loaded-sum   the roots and powers as they are read from the sheet
--   lower-rows    and the polynomial's rows
--   pairs-long, all-long   the parts that are read have their length
-- Assumes nothing.
use Prim.Native.Nat.{ℕ, zero, suc, ◌+◌, ◌*◌, ◌≤◌, ◌<◌}
use native.Mathlib.Nat.{eq-or-lt_of_le, zero-add}
use native.Mathlib.Numerals.{add-one}
use native.Mathlib.Omega.{arith}
use mathlib.Core.Path.{◌≡◌, refl, sym, ◌∙◌, ap, subst}
use mathlib.Core.Logic.{⊎_elim}
use mathlib.Core.Bool.{Bool}
use mathlib.Core.List.{List}
use lib.ListN.{length, drop, length-drop}
use lib.Seq.{length-take-le}
use Rattle.algebra.specs.Sums.{sum_to}
use Rattle.algebra.proofs.SumsLaws.{sum_to-ext}
use Rattle.numbers.specs.Words.{word, tabulate, over, part}
use Rattle.numbers.specs.internal.Facts.{AllBelow}
use Rattle.numbers.proofs.WordsLaws.{length-tabulate, word-tabulate, over-whole, word-part}
use Rattle.rows.specs.Rows.{unit, monic}
use Rattle.rows.proofs.RowsLaws.{by_row}
use Rattle.rows.proofs.MonicLaws.{monic-low, monic-top}
use Rattle.hensel.specs.Factors.{split, IsFactors}
use Rattle.solution.specs.internal.Table.{rows_from}
use Rattle.split.specs.internal.Found.{RootsListed, SplitsAtZero, FactorsTo, Found}
use Rattle.hensel.proofs.FactorsLaws.{factors-ext, split-ext}
use Rattle.layout.specs.declared.Header.{Header}
use Rattle.layout.specs.Layout.{modulus, degree, width, count, roots_from, polynomial_from, factors_from, root, power, polynomial}
use Rattle.layout.specs.internal.Places.{HeaderIs, Placed}
use Rattle.layout.proofs.PlacesLaws.{lower_long, lower_word, factors-within}
use Rattle.front.specs.internal.Front.{top_from, Front}
use Rattle.sheet.specs.internal.Stages.{SplitFits, Loaded, block_rows, Computed, WorkedOut}

-- the rows are the polynomial's but for the top one
pub record LowerRows (s rows : List ℕ) : Type 0 where
  pub long : length rows ≡ degree s * width s
  pub are : (j : ℕ) → j < degree s → (t : ℕ) → t < width s → word rows (j * width s + t) ≡ polynomial s j t

by-unit : (A : ℕ → Type 0) → A 0 → ((t : ℕ) → 1 ≤ t → A t) → (t : ℕ) → A t
by-unit A z h zero = z
by-unit A z h (suc t) = h (suc t) (omega arith)

pub unit-later : (t : ℕ) → 1 ≤ t → unit t ≡ 0
unit-later zero l = absurd (let z : ⊥ = omega arith in z)
unit-later (suc t) l = refl

module _ (s : List ℕ) (h : Front s) where
  pub top-is : (t : ℕ) → t < width s → polynomial s (degree s) t ≡ unit t
  top-is = by-unit (λ t. t < width s → polynomial s (degree s) t ≡ unit t)
      (λ _. ap (word s) (let e : top_from s + 0 ≡ top_from s = omega arith in e) ∙ h.words.top)
      (λ t u g.
      let z = h.words.later 0 (omega arith) t u g in
      let e : polynomial s (degree s) t ≡ 0 = ap (word s) (let q : top_from s + t ≡ top_from s + 0 * width s + t = omega arith in q) ∙ omega arith in
      e ∙ sym (unit-later t u))

  pub loaded-sum : (roots powers : List ℕ) → Loaded s roots powers → sum_to (length powers) (word powers) ≡ degree s
  loaded-sum roots powers g = ap (λ n. sum_to n (word powers)) g.powers-long ∙ sum_to-ext (count s) g.powers-are ∙ h.shape.powers.sum

  module _ (w : ℕ) (low : 1 ≤ w) (high : w ≤ width s) (roots powers rows : List ℕ) (given : Loaded s roots powers) (lower : LowerRows s rows) where
    abbrev D : ℕ
    D = sum_to (length powers) (word powers)

    sum_is : D ≡ degree s
    sum_is = loaded-sum roots powers given

    nr : length roots ≡ count s
    nr = given.roots-long

    np : length powers ≡ count s
    np = given.powers-long

    nw : length rows ≡ degree s * width s
    nw = lower.long

    er : (i : ℕ) → i < count s → word roots i ≡ root s i
    er = given.roots-are

    ep : (i : ℕ) → i < count s → word powers i ≡ power s i
    ep = given.powers-are

    ef : (j : ℕ) → j < degree s → (t : ℕ) → t < width s → word rows (j * width s + t) ≡ polynomial s j t
    ef = lower.are

    rows-below : AllBelow (modulus s) rows
    rows-below i l =
        by_row (degree s) (width s) (λ i. word rows i < modulus s) (omega arith)
        (λ j g t u. subst (λ x. x < modulus s) (sym (ef j g t u)) (h.words.reduced j (omega arith) t (omega arith) u)) i (omega arith)

    listed : RootsListed (modulus s) (width s) w roots powers rows
    listed = record {
      prime = h.shape.header.prime;
      small = let z = h.shape.header.small in omega arith;
      width = h.shape.header.width-high;
      terms-low = low;
      terms-high = high;
      some = let z = h.shape.header.count_low in omega arith;
      count = nr ∙ sym np;
      rising = λ i l.
          let a = er i (omega arith) in let b = er (suc i) (omega arith) in
          let c = subst (λ x. root s i < root s x) (add-one i) (h.rise i (omega arith)) in omega arith;
      reduced = λ i l. subst (λ x. x < modulus s) (sym (er i (omega arith))) (h.below i (omega arith));
      powers-low = λ i l. subst (λ x. 1 ≤ x) (sym (ep i (omega arith))) (h.shape.powers.each i (omega arith));
      room = let z = h.shape.header.degree-high in let y = sum_is in omega arith;
      long = nw ∙ ap (λ d. d * width s) (sym sum_is);
      below = rows-below;
    }

    given_is : (j : ℕ) → j ≤ D → (t : ℕ) → t < width s → monic D (rows_from 0 (width s) rows) j t ≡ polynomial s j t
    given_is j l t g =
        ⊎_elim
        (λ (e : j ≡ D). ap (λ x. monic D (rows_from 0 (width s) rows) x t) e ∙ monic-top D (rows_from 0 (width s) rows) t ∙ sym (ap (λ x. polynomial s x t) (e ∙ sum_is) ∙ top-is t g))
        (λ (u : j < D). monic-low D (rows_from 0 (width s) rows) j t u ∙ ap (λ v. word rows (v * width s + t)) (zero-add j) ∙ ef j (let z = sum_is in omega arith) t g)
        (eq-or-lt_of_le l)

    computed : (new : List ℕ) → FactorsTo (modulus s) (width s) w roots powers rows new → Computed s w new
    computed new g = record {
      long = g.long ∙ nw;
      below = g.below;
      factors =
          subst (λ n. IsFactors (modulus s) (degree s) w n (polynomial s) (root s) (power s) (block_rows (width s) (power s) new)) np
          (subst (λ d. IsFactors (modulus s) d w (length powers) (polynomial s) (root s) (power s) (block_rows (width s) (power s) new)) sum_is
          (factors-ext (modulus s) D w (length powers) (monic D (rows_from 0 (width s) rows)) (polynomial s) (word roots) (root s) (word powers) (power s)
          (λ i. rows_from (sum_to i (word powers)) (width s) new) (block_rows (width s) (power s) new) low
          (λ j l t u. sym (given_is j l t (omega arith))) (λ i l. sym (er i (omega arith))) (λ i l. sym (ep i (omega arith)))
          (λ i l j u t v. ap (λ x. word new ((x + j) * width s + t)) (sym (sum_to-ext i (λ q o. ep q (omega arith))))) g.factors));
      rest = λ j l t u v. g.rest j (let z = sum_is in omega arith) t u v;
    }

    fits-splits : SplitFits s → SplitsAtZero (modulus s) (width s) roots powers rows
    fits-splits g j l =
        ap (λ n. split (modulus s) n (word roots) (word powers) j) np
        ∙ split-ext (modulus s) (count s) (word roots) (root s) (word powers) (power s) er ep j
        ∙ g j (let z = sum_is in omega arith) ∙ sym (given_is j l 0 (omega arith))

    -- for the header as it was read
    pub work-listed : (h : Header) → HeaderIs s h → RootsListed h.p h.width w roots powers rows
    work-listed h e = rw (e.p-is, e.width_is) listed

    pub worked-out : (h : Header) → HeaderIs s h → (found : Bool) (new : List ℕ) → Found h.p h.width w roots powers rows found new → WorkedOut s w found new
    worked-out h e found new f =
        let g : Found (modulus s) (width s) w roots powers rows found new = rw (← e.p-is, ← e.width_is) f in
        record { yes = λ e. computed new (g.yes e); no = λ e f. g.no e (fits-splits f) }

-- parts of a sheet have their length
pub pairs-long : (s pairs : List ℕ) (r : ℕ) → pairs ≡ part s (roots_from (degree s)) (2 * r) → polynomial_from (degree s) r ≤ length s → length pairs ≡ 2 * r
pairs-long s pairs r e l = ap length e ∙ length-take-le (2 * r) (drop (roots_from (degree s)) s) (omega (arith, length-drop (roots_from (degree s)) s))

pub all-long : (s : List ℕ) → Placed s → (all : List ℕ) → all ≡ part s (factors_from (degree s) (width s) (count s)) (degree s * width s) → length all ≡ degree s * width s
all-long s h all e =
    let from = factors_from (degree s) (width s) (count s) in
    ap length e ∙ length-take-le (degree s * width s) (drop from s) (omega (arith, length-drop from s, factors-within s h))

-- the roots and powers, as they are read: two words each
pub loaded : (s roots powers pairs : List ℕ) (r m n : ℕ) → r ≡ count s → m ≡ count s → n ≡ count s → pairs ≡ part s (roots_from (degree s)) (2 * r)
    → roots ≡ tabulate m (λ j. word pairs (j * 2 + 0)) → powers ≡ tabulate n (λ j. word pairs (j * 2 + 1)) → Loaded s roots powers
loaded s roots powers pairs r m n e em en q qr qp = record {
  roots-long = ap length qr ∙ length-tabulate m _ ∙ em;
  powers-long = ap length qp ∙ length-tabulate n _ ∙ en;
  roots-are = λ i l. ap (λ x. word x i) qr ∙ word-tabulate m _ i (omega arith) ∙ entry i 0 l (omega arith) ∙ ap (word s) (let z : roots_from (degree s) + 2 * i + 0 ≡ roots_from (degree s) + 2 * i = omega arith in z);
  powers-are = λ i l. ap (λ x. word x i) qp ∙ word-tabulate n _ i (omega arith) ∙ entry i 1 l (omega arith);
}
  where
    entry : (i t : ℕ) → i < count s → t < 2 → word pairs (i * 2 + t) ≡ word s (roots_from (degree s) + 2 * i + t)
    entry i t l g =
        ap (λ x. word x (i * 2 + t)) q ∙ word-part s (roots_from (degree s)) (2 * r) (i * 2 + t) (omega arith)
        ∙ ap (word s) (let z : roots_from (degree s) + (i * 2 + t) ≡ roots_from (degree s) + 2 * i + t = omega arith in z)

-- the polynomial's rows below Y^D, copied
pub lower-rows : (s : List ℕ) → Placed s → (lower old new : List ℕ) → length old ≡ degree s * width s → lower ≡ part s (polynomial_from (degree s) (count s)) (degree s * width s)
    → new ≡ over lower old → LowerRows s new
lower-rows s h lower old new n e q =
    let long = lower_long s h lower e in
    let w : new ≡ lower = q ∙ over-whole lower old (long ∙ sym n) in
    record { long = ap length w ∙ long; are = λ j l t g. ap (λ x. word x (j * width s + t)) w ∙ lower_word s h lower e j l t g }
