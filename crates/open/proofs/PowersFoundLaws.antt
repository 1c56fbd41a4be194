-- The powers that repeated division finds are those of `powers_of`.
--   gives-product, product-gives, gives-splits, splits-gives   powers of listed numbers, or of the roots, give column 0 of the polynomial over F_p exactly where they give it by number
--   found-answer                 so what `find_powers` answers is what refusal 9 asks
-- Assumes nothing.
use Prim.Native.Nat.{ℕ, zero, ◌+◌, ◌≤◌, ◌<◌, Fin}
use native.Mathlib.Nat.{lt_of_not-le}
use native.Mathlib.Bridge.{le_prop}
use native.Mathlib.Decide.{dec_le}
use native.Mathlib.Omega.{arith}
use mathlib.Core.Path.{◌≡◌, sym, ◌∙◌, ap, subst, fun_ext}
use mathlib.Core.Bool.{Bool}
use mathlib.Core.List.{List}
use lib.ListN.{length, get_or-eq_default}
use Rattle.algebra.specs.internal.Ring.{CommRing, prod}
use Rattle.algebra.specs.internal.Series.{Series}
use Rattle.algebra.specs.internal.Poly.{lin_pow}
use Rattle.algebra.proofs.Chain.{at_zero, at-zero-below}
use Rattle.algebra.specs.Prime.{Prime}
use Rattle.algebra.specs.internal.Fp.{Fp, rem}
use Rattle.algebra.proofs.FpLaws.{p-pos}
use Rattle.algebra.proofs.BridgeLaws.{same-rem, rem-zero}
use Rattle.numbers.specs.Words.{word}
use Rattle.numbers.specs.internal.Facts.{AllBelow, Rising}
use Rattle.sheet.specs.Sheet.{Given, given-polynomial}
use Rattle.open.specs.Find.{IsProduct}
use Rattle.open.specs.internal.Opening.{PowersAnswer}
use Rattle.powers.specs.internal.Powers.{over_field, GivesPowers, FoundPowers}
use Rattle.hensel.proofs.FactorsLaws.{product_lt, roots_of}
use Rattle.sheet.proofs.ExistsLaws.{split-rem}
use Rattle.open.proofs.OpenLaws.{GivenSplits, powers-are, powers-none}

-- column 0 of the polynomial is given as a list
module _ (g : Given) (prime : Prime g.p) (e : List ℕ) (long : length e ≡ g.D + 1)
    (column : (j : ℕ) → j ≤ g.D → word e j ≡ given-polynomial g j zero) (reduced : (j : ℕ) → j ≤ g.D → word e j < g.p) where
  abbrev pos : zero < g.p
  pos = p-pos prime

  abbrev K : CommRing (Fin g.p)
  K = Fp g.p pos

  gives-product : (l : List ℕ) (m : ℕ → ℕ) → AllBelow g.p l → GivesPowers g.p l e m → IsProduct g l m
  gives-product l m low G = record {
    reduced = low;
    powers = G.low;
    degree = let s = G.sum in omega arith;
    splits = λ j u.
        same-rem g.p pos (product_lt g.p (length l) _ prime.two-le j zero) (reduced j u) (ap (λ x. x j) (split-rem prime (length l) (word l) m low ∙ sym (G.product pos)))
        ∙ column j u;
  }

  pub product-gives : (l : List ℕ) (m : ℕ → ℕ) → IsProduct g l m → GivesPowers g.p l e m
  product-gives l m P = record {
    low = P.powers;
    sum = let s = P.degree in omega arith;
    product = λ pos'. subst
        (λ (w : zero < g.p). over_field g.p w e ≡ prod (Series (Fp g.p w)) (length l) (λ i. lin_pow (Fp g.p w) (rem g.p w (word l i)) (m i)))
        (le_prop pos pos') (fun_ext (λ j. go j (dec_le j g.D)));
  }
    where
      go : (j : ℕ) → Dec (j ≤ g.D) → over_field g.p pos e j ≡ at_zero K (length l) (roots_of prime (word l)) m j
      go j (yes u) = ap (rem g.p pos) (column j u ∙ sym (P.splits j u)) ∙ ap (λ x. x j) (split-rem prime (length l) (word l) m P.reduced)
      go j (no u) =
          let z = lt_of_not-le u in
          ap (rem g.p pos) (get_or-eq_default e 0 (let y : length e ≤ j = omega arith in y)) ∙ rem-zero g.p pos
          ∙ sym (at-zero-below K (length l) (roots_of prime (word l)) m j (let s = P.degree in omega arith))

  -- and where its own roots rise
  module _ (up : Rising g.roots) (low : AllBelow g.p g.roots) where
    pub gives-splits : (m : ℕ → ℕ) → GivesPowers g.p g.roots e m → GivenSplits g m
    gives-splits m G = let P = gives-product g.roots m low G in record { rising = up; reduced = low; powers = P.powers; degree = P.degree; splits = P.splits }

    pub splits-gives : (m : ℕ → ℕ) → GivenSplits g m → GivesPowers g.p g.roots e m
    splits-gives m S = product-gives g.roots m (record { reduced = low; powers = S.powers; degree = S.degree; splits = S.splits })

    pub found-answer : (found : Bool) (ps : List ℕ) → length ps ≡ length g.roots → FoundPowers g.p g.roots e found ps → PowersAnswer g found ps
    found-answer found ps n f = record {
      yes = λ z. (powers-are g prime up low ps).1 (n, gives-splits (word ps) (f.yes z));
      no = λ z. (powers-none g prime up low).1 (λ l _ S. f.no z (word l) (splits-gives (word l) S));
    }
