-- The split test.
--   frobenius-is     Y^p and Y subtracted modulo p
--   power-first, power-squared    the powers of Y^p − Y that are made by squaring
--   test-fails       where one of them from the degree on is not 0, f does not split
-- Assumes nothing.
use mathlib.Core.Path.{◌≡◌, sym, ap, ap₂, subst, ◌∙◌, fun_ext}
use mathlib.Core.Logic.{⊎_elim}
use mathlib.Core.List.{List, ◌++◌}
use Prim.Native.Nat.{ℕ, zero, suc, ◌+◌, ◌-◌, ◌*◌, ◌%◌, ◌≤◌, ◌<◌}
use native.Mathlib.Nat.{mod-lt, le_refl, mul-one as mulₙ-one}
use native.Mathlib.Omega.{arith}
use lib.ListN.{length, take, drop}
use Rattle.algebra.specs.Prime.{Prime}
use Rattle.algebra.specs.internal.Ring.{zero-add, pow}
use Rattle.algebra.specs.internal.Series.{Series}
use Rattle.algebra.specs.internal.Poly.{lin}
use Rattle.algebra.specs.internal.Fp.{Fp, rem}
use Rattle.algebra.proofs.RingLaws.{neg-zero, pow-first, pow-add}
use Rattle.algebra.proofs.SeriesLaws.{add_at, neg-at, zero-at}
use Rattle.algebra.proofs.PolyLaws.{Below}
use Rattle.algebra.proofs.FpLaws.{p-pos, rem-add, rem-mod}
use Rattle.algebra.proofs.BridgeLaws.{rem-zero, rem-one, neg-rem, same-rem}
use Rattle.algebra.proofs.Modulo.{modulo-refl, modulo-trans, modulo-add, modulo-neg, split-test}
use Rattle.numbers.specs.Words.{word, first_nonzero, tabulate, over}
use Rattle.numbers.specs.internal.Facts.{AllBelow}
use Rattle.numbers.proofs.WordsLaws.{lt-or-ge, length-tabulate, word-tabulate, tabulate-below, over-whole, nonzero-le, zeros-nonzero}
use Rattle.series.specs.Series.{differences}
use Rattle.series.proofs.SeriesLaws.{word_below}
use Rattle.columns.proofs.SolveLaws.{below-pol}
use Rattle.powers.specs.internal.Powers.{over_field, Unsplit}
use Rattle.modulo.specs.internal.Modulo.{ModulusOf, Remainder, words_of, times, power, plus, frobenius}
use Rattle.modulo.proofs.ProductLaws.{room, sums-long, sums-lent, remainder-same, product-same}

module _ (p d : ℕ) (f y a out : List ℕ) (m : ModulusOf p f d) (hy : Remainder p f (plus p 0) y) (ha : Remainder p f (power p (plus p 0) p) a)
    (q : out ≡ differences p d a y) where
  less_at : ℕ → ℕ
  less_at j = (word a j + (p - word y j)) % p

  out-is : out ≡ tabulate d less_at
  unfolding differences less_at
  out-is = q

  a-long : length a ≡ d
  a-long = sums-long m ha.congruent

  y-long : length y ≡ d
  y-long = sums-long m hy.congruent

  out-long : length out ≡ d
  out-long = ap length out-is ∙ length-tabulate d less_at

  out_at : (pos : zero < p) (j : ℕ) → over_field p pos out j ≡ (Fp p pos).add (over_field p pos a j) ((Fp p pos).neg (over_field p pos y j))
  unfolding less_at
  out_at pos j =
      let K = Fp p pos in
      ⊎_elim
      (λ (l : j < d). ap (λ s. rem p pos (word s j)) out-is ∙ ap (rem p pos) (word-tabulate d less_at j l) ∙ rem-mod p pos _
      ∙ sym (rem-add p pos (word a j) (p - word y j)) ∙ ap (K.add (over_field p pos a j)) (sym (neg-rem p pos (word y j) (hy.below j (omega (arith, y-long))))))
      (λ (l : d ≤ j). below-pol p pos out j (omega (arith, out-long))
      ∙ sym (ap₂ (λ u v. K.add u (K.neg v)) (below-pol p pos a j (omega (arith, a-long))) (below-pol p pos y j (omega (arith, y-long))) ∙ zero-add K _ ∙ neg-zero K))
      (lt-or-ge j d)

  frobenius-words : Remainder p f (frobenius p) out
  unfolding less_at
  frobenius-words = record {
    below = subst (AllBelow p) (sym out-is) (tabulate-below p d less_at (λ k l. mod-lt _ m.positive));
    congruent = record {
      long = m.long ∙ ap (λ n. n + 1) (sym out-long);
      same = λ pos.
          let K = Fp p pos in
          let S = Series K in
          let F = over_field p pos f in
          let A = over_field p pos a in
          let Y = over_field p pos y in
          let line : lin K K.𝟘 ≡ plus p 0 pos = ap (lin K) (sym (ap K.neg (rem-zero p pos) ∙ neg-zero K)) in
          modulo-trans K F
          (modulo-add K F (modulo-trans K F (modulo-refl K F (ap (λ x. pow S x p) line)) (ha.congruent.same pos))
          (modulo-neg K F (modulo-trans K F (modulo-refl K F line) (hy.congruent.same pos))))
          (modulo-refl K F (fun_ext (λ j. add_at K A (S.neg Y) j ∙ ap (K.add (A j)) (neg-at K Y j) ∙ sym (out_at pos j))));
    };
  }

-- the words as they are lent
pub frobenius-is : (p d : ℕ) (f y a old out : List ℕ) → ModulusOf p f d → Remainder p f (plus p 0) y → Remainder p f (power p (plus p 0) p) a → length old ≡ d
    → out ≡ over (differences p (length (take d (a ++ drop d room))) (take d (a ++ drop d room)) (take d (y ++ drop d room))) old → Remainder p f (frobenius p) out
unfolding differences
frobenius-is p d f y a old out m hy ha l q =
    frobenius-words p d f y a out m hy ha
    (q ∙ ap₂ (λ (u v : List ℕ). over (differences p (length u) u v) old) (sums-lent m ha.congruent) (sums-lent m hy.congruent)
    ∙ ap (λ n. over (differences p n a y) old) (sums-long m ha.congruent) ∙ over-whole (differences p d a y) old (length-tabulate d _ ∙ sym l))

pub power-first : (p : ℕ) (f w : List ℕ) → Remainder p f (frobenius p) w → Remainder p f (power p (frobenius p) 1) w
power-first p f w =
    remainder-same p f (frobenius p) (power p (frobenius p) 1) w (λ pos. modulo-refl (Fp p pos) (over_field p pos f) (pow-first (Series (Fp p pos)) (frobenius p pos)))

pub power-squared : (p : ℕ) (f : List ℕ) (n : ℕ) (w w' : List ℕ) → Remainder p f (power p (frobenius p) n) w → Remainder p f (times p (words_of p w) (words_of p w)) w'
    → Remainder p f (power p (frobenius p) (n * 2)) w'
power-squared p f n w w' h =
    remainder-same p f (times p (words_of p w) (words_of p w)) (power p (frobenius p) (n * 2)) w' (λ pos.
    let K = Fp p pos in
    let S = Series K in
    let F = over_field p pos f in
    modulo-trans K F (modulo-refl K F (ap (pow S (frobenius p pos)) (let z : n * 2 ≡ n + n = omega arith in z) ∙ pow-add S (frobenius p pos) n n))
    (product-same p f pos _ _ w w (h.congruent.same pos) (h.congruent.same pos)))

pub test-fails : (p : ℕ) (f : List ℕ) (d n : ℕ) (w : List ℕ) → Prime p → ModulusOf p f d → d ≤ n → Remainder p f (power p (frobenius p) n) w
    → (first_nonzero d (λ i. word w (i * 1)) ≡ d → ⊥) → Unsplit p f
test-fails p f d n w prime m big h never l k G = never (omega (arith, all-zero, nonzero-le d (λ i. word w (i * 1))))
  where
    pos : zero < p
    pos = p-pos prime

    none : over_field p pos w ≡ (Series (Fp p pos)).𝟘
    none =
        split-test prime d (length l) n (λ i. rem p pos (word l i)) k (over_field p pos f) (over_field p pos w) (G.product pos) (omega (arith, m.long, G.sum))
        (subst (λ x. Below (Fp p pos) x (over_field p pos f)) (let z : length f ≡ suc d = omega (arith, m.long) in z) (below-pol p pos f))
        (ap (rem p pos) m.top ∙ rem-one p pos)
        (subst (λ x. Below (Fp p pos) x (over_field p pos w)) (sums-long m h.congruent) (below-pol p pos w))
        (h.congruent.same pos)

    all-zero : d ≤ first_nonzero d (λ i. word w (i * 1))
    all-zero = zeros-nonzero d (λ i. word w (i * 1)) d (le_refl d) (λ i g.
        ap (word w) (mulₙ-one i) ∙ same-rem p pos (word_below p w pos h.below i) pos (ap (λ x. x i) none ∙ zero-at (Fp p pos) i ∙ sym (rem-zero p pos)))
