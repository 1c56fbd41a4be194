-- The monic polynomials of degree D over F_p, as open and find are given them.
--   listed p D f c     the polynomial with the lower coefficients f, and the roots c
--   own p D f          the same with the roots that find finds; own_below: they are below p
--   coefficient-low, coefficient-top   its coefficients
--   find-rows          it passes find's checks before 9
--   one_way            rising roots and powers that give it are those that are found
--   one-polynomial     roots and powers give one polynomial
-- Assumes nothing.
use Prim.Native.Nat.{ℕ, zero, ◌+◌, ◌*◌, ◌≤◌, ◌<◌}
use native.Mathlib.Nat.{eq-or-lt_of_le}
use native.Mathlib.Omega.{arith}
use mathlib.Core.Path.{◌≡◌, refl, sym, ◌∙◌, ap, subst}
use mathlib.Core.Logic.{◌≢◌, ⊎_elim}
use mathlib.Core.Bool.{Bool, true, false}
use mathlib.Core.Option.{some}
use mathlib.Core.List.{List, [], ◌∷◌, ◌++◌}
use lib.ListN.{length, length-append, get_or-append}
use lib.Seq.{get_or_at, ext_get_or}
use Rattle.algebra.specs.Prime.{Prime}
use Rattle.algebra.specs.internal.Fp.{Fp}
use Rattle.algebra.proofs.Chain.{at_zero, at-zero-top}
use Rattle.algebra.proofs.FpLaws.{p-pos}
use Rattle.algebra.proofs.BridgeLaws.{same-rem, rem-one}
use Rattle.numbers.specs.Words.{word, rising, tabulate}
use Rattle.numbers.specs.Limits.{largest_modulus, largest_degree}
use Rattle.numbers.specs.internal.Facts.{AllBelow}
use Rattle.numbers.proofs.WordsLaws.{length-tabulate, word-tabulate, tabulate-below, append-below}
use Rattle.numbers.proofs.TestsLaws.{rising-are}
use Rattle.numbers.proofs.EnumerationLaws.{bit, sum_over}
use Rattle.rows.specs.Rows.{unit}
use Rattle.series.proofs.CheckLaws.{one_below}
use Rattle.layout.specs.Layout.{rows_at}
use Rattle.hensel.specs.Factors.{split}
use Rattle.hensel.proofs.FactorsLaws.{product_lt, roots_of}
use Rattle.rootfinding.proofs.RootsLaws.{roots-below}
use Rattle.sheet.specs.Sheet.{Given, whole_of, given-polynomial}
use Rattle.sheet.proofs.ExistsLaws.{split-rem}
use Rattle.open.specs.Open.{splits_test, powers_of}
use Rattle.open.specs.Find.{first_column, with_roots}
use Rattle.open.proofs.OpenLaws.{Powers, splits-test, test-splits, powers-are}
use Rattle.open.proofs.OpenChecksLaws.{RowsPass, whole-known}
use Rattle.open.proofs.FirstColumnLaws.{column-at}
use Rattle.open.proofs.FindLaws.{all_listed}
use Rattle.counts.specs.Counts.{lists, in_y}
use Rattle.counts.proofs.SubsetsLaws.{Member, lists-enumerate}

abbrev pub listed : (p D : ℕ) (f c : List ℕ) → Given
listed p D f c = whole_of p D 1 (f ++ (1 ∷ [])) c

-- the polynomial with the roots that find finds
abbrev pub own : (p D : ℕ) (f : List ℕ) → Given
own p D f = with_roots (in_y p D f)

module _ (p D : ℕ) (f : List ℕ) (long : length f ≡ D) (c : List ℕ) where
  place : (j : ℕ) → given-polynomial (listed p D f c) j zero ≡ word (f ++ (1 ∷ [])) j
  place j = ap (word (f ++ (1 ∷ []))) (let z : 0 + j * 1 + 0 ≡ j = omega arith in z)

  coefficient-low : (j : ℕ) → j < D → given-polynomial (listed p D f c) j zero ≡ word f j
  coefficient-low j l = place j ∙ get_or-append f (1 ∷ []) 0 j (omega arith)

  coefficient-top : given-polynomial (listed p D f c) D zero ≡ 1
  coefficient-top = place D ∙ get_or_at f 1 [] 0 D long

  -- below Y^D, and Y^D
  by-top : (P : ℕ → Type 0) → ((j : ℕ) → j < D → P j) → P D → (j : ℕ) → j ≤ D → P j
  by-top P low top j l = ⊎_elim (λ (e : j ≡ D). subst P (sym e) top) (λ (u : j < D). low j u) (eq-or-lt_of_le l)

module _ {p : ℕ} (prime : Prime p) (D : ℕ) where
  pub own_below : (f : List ℕ) → AllBelow p (own p D f).roots
  own_below f = roots-below prime (first_column (in_y p D f))

  -- roots that are listed are those that are found
  module _ (f : List ℕ) (hf : Member p D f) where
    rows-below : AllBelow p (f ++ (1 ∷ []))
    rows-below = append-below p f (1 ∷ []) hf.below (one_below p prime.two-le)

    coefficient-below : (c : List ℕ) (j : ℕ) → j ≤ D → word (first_column (listed p D f c)) j < p
    coefficient-below c j l =
        subst (λ x. x < p) (sym (column-at (listed p D f c) j l ∙ place p D f hf.long c j)) (rows-below j (omega (arith, length-append f (1 ∷ []), hf.long)))

    -- find's checks before 9 let it pass
    pub find-rows : p ≤ largest_modulus → 1 ≤ D → D ≤ largest_degree → RowsPass (in_y p D f)
    find-rows small low high =
        let long : length (f ++ (1 ∷ [])) ≡ (D + 1) * 1 = omega (arith, length-append f (1 ∷ []), hf.long) in
        let top : (t : ℕ) → t < 1 → rows_at (f ++ (1 ∷ [])) 0 1 D t ≡ unit t = λ t l. ap (λ t. rows_at (f ++ (1 ∷ [])) 0 1 D t) (let z : t ≡ 0 = omega arith in z) ∙ coefficient-top p D f hf.long [] ∙ ap unit (let z : 0 ≡ t = omega arith in z) in
        record {
          polynomial = record {
            modulus = record { prime = prime; two = prime.two-le; small = omega arith };
            small = small;
            degree-low = low;
            degree-high = high;
            width_low = omega arith;
            width-high = omega arith;
            long = long;
            lengths-long = length-tabulate D (λ _. 1);
            rows-below = rows-below;
            roots-below = λ k l. absurd (let z : ⊥ = omega arith in z);
          };
          lengths = whole-known (in_y p D f) (f ++ (1 ∷ [])) long rows-below top (omega arith);
          top = top;
        }

    pub one_way : (r : ℕ) (c m : List ℕ) → Member p r c → Powers r D m → rising c ≡ true → splits_test (listed p D f c) m ≡ true
        → (own p D f ≡ listed p D f c) × (powers_of (own p D f) ≡ some m)
    one_way r c m hc hm up e =
        let g = listed p D f c in
        let up' = rising-are c up in
        let h : Powers (length c) D m = subst (λ n. Powers n D m) (sym hc.long) hm in
        let S = test-splits g up' hc.below m h e in
        let z = all_listed g prime (coefficient-below c) up' hc.below (word m) S in
        (z, ap powers_of z ∙ (powers-are g prime up' hc.below m).1 (h.count, S))

  -- what they give
  module _ (r : ℕ) (c m : List ℕ) (hc : Member p r c) (hm : Powers r D m) where
    abbrev g : ℕ → ℕ
    g = split p (length c) (word c) (word m)

    g-lt : (j : ℕ) → g j < p
    g-lt j = product_lt p (length c) _ prime.two-le j zero

    g-top : g D ≡ 1
    g-top =
        let K = Fp p (p-pos prime) in
        let h : Powers (length c) D m = subst (λ n. Powers n D m) (sym hc.long) hm in
        same-rem p (p-pos prime) (g-lt D) prime.two-le
        (ap (λ x. x D) (split-rem prime (length c) (word c) (word m) hc.below)
        ∙ ap (at_zero K (length c) (roots_of prime (word c)) (word m)) (sym h.sum)
        ∙ at-zero-top K (length c) (roots_of prime (word c)) (word m) h.low ∙ sym (rem-one p (p-pos prime)))

    abbrev f₀ : List ℕ
    f₀ = tabulate D g

    long : length f₀ ≡ D
    long = length-tabulate D g

    given_by : splits_test (listed p D f₀ c) m ≡ true
    given_by = (splits-test (listed p D f₀ c) m).1 (by-top p D f₀ long c (λ j. g j ≡ given-polynomial (listed p D f₀ c) j zero)
        (λ j u. sym (coefficient-low p D f₀ long c j u ∙ word-tabulate D g j u)) (g-top ∙ sym (coefficient-top p D f₀ long c)))

    only-by : (f : List ℕ) → Member p D f → splits_test (listed p D f c) m ≡ true → f ≡ f₀
    only-by f hf e = ext_get_or 0 f f₀ (hf.long ∙ sym long) (λ j l.
        let n = hf.long in
        sym (word-tabulate D g j (omega arith) ∙ (splits-test (listed p D f c) m).0 e j (omega arith) ∙ coefficient-low p D f hf.long c j (omega arith)))

    pub one-polynomial : sum_over (lists p D) (λ f. bit (splits_test (listed p D f c) m)) ≡ 1
    one-polynomial =
        (lists-enumerate p D).single (λ f. bit (splits_test (listed p D f c) m)) f₀ (record { long = long; below = tabulate-below p D g (λ k _. g-lt k) })
        (λ f hf ne. go f hf ne (splits_test (listed p D f c) m) refl)
        ∙ ap bit given_by
      where
        go : (f : List ℕ) → Member p D f → f ≢ f₀ → (b : Bool) → splits_test (listed p D f c) m ≡ b → bit (splits_test (listed p D f c) m) ≡ 0
        go f hf ne true e = absurd (ne (only-by f hf e))
        go f hf ne false e = ap bit e
