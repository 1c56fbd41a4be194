-- The quotient by a series that may begin with 0.
--   least-before, divisor-first, unit-least   what the least power of X is
--   product-low, product_high   a product with g is 0 below g's least power of X, and from there on the product with g without its first zeros
--   product-least               so no product with g has a lower power of X than g
--   the-quotient                the conditions have one solution, quotient_words
--   unit-words, unit-checks     where g does not begin with 0 these are the words of `quotient`, and 12 is not given
--   part-unit, words-written    how the code gets there
--   short-first                 an example where two refusals apply
--   zero-refused, lower-refused, common-passed, passed-one   refusal 12, and what passes it
--   divided-one                 every call has one outcome
-- Assumes nothing.
use Prim.Native.Nat.{ℕ, ◌+◌, ◌-◌, ◌*◌, ◌%◌, ◌≤◌, ◌<◌}
use native.Mathlib.Nat.{zero-mod, add-zero, mul-zero, sub-zero, pos_of_ne-zero}
use native.Mathlib.Omega.{arith}
use mathlib.Core.Path.{◌≡◌, refl, sym, ap, ap₂, ◌∙◌}
use mathlib.Core.Logic.{⊎_elim}
use mathlib.Core.Bool.{false, not, ◌&&◌}
use mathlib.Core.List.{List, [], ◌∷◌, ◌++◌, append-nil}
use borrow.Author.Tests.{lt-ltb, le-ltb, ltb-true, le-leb, lt-leb, leb-true}
use lib.Dec.{leb, ltb}
use lib.ListN.{length, take, drop, length-append, get_or-append, get_or-eq_default}
use lib.Seq.{ext_get_or, get_or-take, get_or-drop, get_or-append-add, length-take-le}
use Rattle.algebra.specs.Prime.{Prime}
use Rattle.algebra.specs.Sums.{sum_to}
use Rattle.algebra.proofs.SumsLaws.{sum_to-ext, sum_to-zeros, sum_to-append}
use Rattle.algebra.proofs.FpLaws.{p-pos}
use Rattle.numbers.specs.Words.{word, first_where, first_nonzero, first_large, tabulate, over, part}
use Rattle.numbers.specs.Divisor.{least_divisor}
use Rattle.numbers.specs.Refusals.{Check, check, judge, refusal, accepted, refused, Row, Pass, Refuse}
use Rattle.numbers.specs.One.{TheOne, OneOutcome}
use Rattle.numbers.specs.internal.Facts.{AllBelow}
use Rattle.numbers.proofs.WordsLaws.{lt-or-ge, from, from_is, length_from, drop-below, nonzero-is, nonzero-le, nonzero-there, nonzero-before, zeros-nonzero, length-tabulate, word-tabulate}
use Rattle.numbers.proofs.RefusalsLaws.{both, after_same, skip-check, leave-refused, leave-done, operation-pass, pass-parts, pass-check, reduced, below-reduced}
use Rattle.numbers.proofs.OneLaws.{verdict-one}
use Rattle.series.specs.Series.{series_checks, product_column, product, quotient}
use Rattle.series.specs.Quotient.{least_power, quotient_checks, IsQuotient, QuotientDone, Divided, quotient_words}
use Rattle.series.proofs.SeriesLaws.{product_whole, product-ext, length-quotient, quotient-below, zeros-after}
use Rattle.series.proofs.CheckLaws.{last-refused, last-passed}
use Rattle.series.proofs.QuotientLaws.{quotient-product, quotient-unique}

pub least-before : (g : List ℕ) (t : ℕ) → t < least_power g → word g t ≡ 0
least-before g = nonzero-before (length g) (word g)

-- the first word of the divisor without its first zeros
pub divisor-first : (g : List ℕ) → least_power g < length g → word (drop (least_power g) g) 0 ≡ 0 → ⊥
divisor-first g l e = nonzero-there (length g) (word g) l (sym (get_or-drop (least_power g) g 0 0 ∙ ap (word g) (add-zero (least_power g))) ∙ e)

pub unit-least : (g : List ℕ) → (word g 0 ≡ 0 → ⊥) → least_power g ≡ 0
unit-least g ne = sym (nonzero-is (length g) (word g) 0 (omega arith) (λ k l. absurd (let z : ⊥ = omega arith in z)) (λ _. ne))

-- words before e are 0
module _ (p : ℕ) (h g : List ℕ) (e : ℕ) (zeros : (t : ℕ) → t < e → word g t ≡ 0) where
  term : (i t : ℕ) → t < e → word h i * word g t ≡ 0
  term i t l = ap (λ (x : ℕ). word h i * x) (zeros t l) ∙ mul-zero (word h i)

  pub product-low : (t : ℕ) → t < e → product_column p h g t ≡ 0
  unfolding product_column
  product-low t l = ap (λ (x : ℕ). x % p) (sum_to-zeros (t + 1) _ (λ i u. term i (t - i) (omega arith))) ∙ zero-mod p

  pub product_high : (t : ℕ) → product_column p h g (e + t) ≡ product_column p h (drop e g) t
  unfolding product_column
  product_high t =
      let F : ℕ → ℕ = λ i. word h i * word g (e + t - i) in
      let q : e + t + 1 ≡ t + 1 + e = omega arith in
      let low : sum_to (t + 1) F ≡ sum_to (t + 1) (λ i. word h i * word (drop e g) (t - i)) =
      sum_to-ext (t + 1) (λ i l. ap (λ (x : ℕ). word h i * x) (ap (word g) (let z : e + t - i ≡ e + (t - i) = omega arith in z) ∙ sym (get_or-drop e g (t - i) 0))) in
      let high : sum_to e (λ i. F (t + 1 + i)) ≡ 0 = sum_to-zeros e _ (λ i l. term (t + 1 + i) (e + t - (t + 1 + i)) (omega arith)) in
      ap (λ (x : ℕ). x % p) (ap (λ (n : ℕ). sum_to n F) q ∙ sum_to-append (t + 1) e F ∙ ap₂ ◌+◌ low high ∙ add-zero _)

pub product-least : (p N : ℕ) (f g h : List ℕ) → length g ≡ N → product p N h N g N ≡ f → least_power g ≤ least_power f
product-least p N f g h long back =
    let l = nonzero-le (length g) (word g) in
    let is : tabulate N (product_column p h g) ≡ f = sym (product_whole p N h g) ∙ back in
    let q : length f ≡ N = ap length (sym is) ∙ length-tabulate N _ in
    zeros-nonzero (length f) (word f) (least_power g) (omega arith)
    (λ t u. ap (λ s. word s t) (sym is) ∙ word-tabulate N (product_column p h g) t (omega arith) ∙ product-low p h g (least_power g) (least-before g) t u)

-- what passes
module _ {p : ℕ} (prime : Prime p) (N : ℕ) (f g : List ℕ) (f-long : length f ≡ N) (g-long : length g ≡ N) (f-below : AllBelow p f) (g-below : AllBelow p g)
    (there : least_power g < N) (common : least_power g ≤ least_power f) where
  abbrev e : ℕ
  e = least_power g

  abbrev F : List ℕ
  F = drop e f

  abbrev G : List ℕ
  G = drop e g

  abbrev Q : List ℕ
  Q = quotient p (N - e) F G

  words-low : (t : ℕ) → t < N - e → word (quotient_words p N f g) t ≡ word Q t
  unfolding quotient_words
  words-low t l = get_or-append Q _ 0 t (omega (arith, length-quotient p (N - e) F G))

  pub length-words : length (quotient_words p N f g) ≡ N
  unfolding quotient_words
  length-words = length-append Q _ ∙ (let a = length-quotient p (N - e) F G in let b = length-tabulate e (λ _. 0) in omega arith)

  words-high : (t : ℕ) → N - e ≤ t → word (quotient_words p N f g) t ≡ 0
  unfolding quotient_words
  words-high t l =
      ⊎_elim
      (λ (u : t < N).
      let q : length Q + (t - (N - e)) ≡ t = omega (arith, length-quotient p (N - e) F G) in
      ap (word (quotient_words p N f g)) (sym q) ∙ get_or-append-add Q _ (t - (N - e)) 0 ∙ word-tabulate e (λ _. 0) (t - (N - e)) (omega arith))
      (λ (u : N ≤ t). get_or-eq_default (quotient_words p N f g) 0 (omega (arith, length-words)))
      (lt-or-ge t N)

  words-below : AllBelow p (quotient_words p N f g)
  words-below t l =
      ⊎_elim
      (λ (u : t < N - e). rw (words-low t u) (quotient-below p (p-pos prime) (N - e) F G t (omega (arith, length-quotient p (N - e) F G))))
      (λ (u : N - e ≤ t). rw (words-high t u) (p-pos prime))
      (lt-or-ge t (N - e))

  -- the columns of a product with g from e on
  column-down : (h : List ℕ) (t : ℕ) → product_column p h g (e + t) ≡ product_column p h G t
  column-down h t = product_high p h g e (least-before g) t

  pub the-quotient : TheOne (IsQuotient p N f g) (quotient_words p N f g)
  the-quotient = record {
    is = record {
      series = (length-words, below-reduced p _ words-below);
      rest = words-high;
      back = product_whole p N (quotient_words p N f g) g ∙ ext_get_or 0 _ f (length-tabulate N _ ∙ sym f-long) (λ t l.
          let u : t < N = omega (arith, length-tabulate N (product_column p (quotient_words p N f g) g)) in
          word-tabulate N _ t u ∙ column t u);
    };
    only = only;
  }
    where
      column : (t : ℕ) → t < N → product_column p (quotient_words p N f g) g t ≡ word f t
      column t u =
          ⊎_elim
          (λ (l : t < e). product-low p _ g e (least-before g) t l ∙ sym (least-before f t (omega arith)))
          (λ (l : e ≤ t).
          let q : e + (t - e) ≡ t = omega arith in
          ap (product_column p (quotient_words p N f g) g) (sym q) ∙ column-down (quotient_words p N f g) (t - e)
          ∙ product-ext p _ Q G G (t - e) (λ i v. words-low i (omega arith)) (λ i v. refl)
          ∙ quotient-product prime F G (drop-below p e f f-below) (drop-below p e g g-below) (divisor-first g (omega arith)) (N - e) (t - e) (omega arith)
          ∙ get_or-drop e f (t - e) 0 ∙ ap (word f) q)
          (lt-or-ge t e)

      only : (h : List ℕ) → IsQuotient p N f g h → h ≡ quotient_words p N f g
      only h x =
          let k = take (N - e) h in
          let long : length k ≡ N - e = length-take-le (N - e) h (omega (arith, x.series.0)) in
          let same : (i : ℕ) → i < N - e → word k i ≡ word h i = λ i l. get_or-take (N - e) h i 0 l in
          let is : k ≡ Q =
          quotient-unique prime F G (drop-below p e f f-below) (drop-below p e g g-below) (divisor-first g (omega arith)) (N - e) k long
          (λ i l. rw (same i (omega arith)) (reduced p h x.series.1 i (omega (arith, x.series.0))))
          (λ t l. product-ext p k h G G t (λ i v. same i (omega arith)) (λ i v. refl) ∙ sym (column-down h t)
          ∙ sym (word-tabulate N (product_column p h g) (e + t) (omega arith)) ∙ ap (λ s. word s (e + t)) (sym (product_whole p N h g) ∙ x.back) ∙ sym (get_or-drop e f t 0)) in
          ext_get_or 0 h _ (x.series.0 ∙ sym length-words) (λ t l.
          ⊎_elim
          (λ (u : t < N - e). sym (same t u) ∙ ap (λ s. word s t) is ∙ sym (words-low t u))
          (λ (u : N - e ≤ t). x.rest t u ∙ sym (words-high t u))
          (lt-or-ge t (N - e)))

pub unit-words : (p N : ℕ) (f g : List ℕ) → (word g 0 ≡ 0 → ⊥) → quotient_words p N f g ≡ quotient p N f g
unfolding quotient_words tabulate
unit-words p N f g ne = rw (unit-least g ne, sub-zero N) (append-nil (quotient p N f g))

-- what is left of f and g from word e on is divided, and zeros are put after that
module _ (p : ℕ) (f g old : List ℕ) (e : ℕ) (least : e ≡ least_power g) (there : e < length g) where
  pub part-unit : 1 ≤ word (from g e) 0
  part-unit = rw (from_is g e, least) (pos_of_ne-zero (divisor-first g (omega arith)))

  abbrev divided : List ℕ
  divided = quotient p (length (from g e)) (from f e) (from g e)

  words_are : divided ++ tabulate e (λ _. 0) ≡ quotient_words p (length g) f g
  unfolding quotient_words
  words_are = rw (length_from g e, from_is g e, from_is f e, least) refl

  pub words-written : (out ys : List ℕ) → length g ≤ length old → out ≡ over divided old
      → ys ≡ tabulate (length (part out (length g - e) (length g - (length g - e)))) (λ _. 0)
      → take (length g - e) out ++ (ys ++ drop (length g - (length g - e)) (drop (length g - e) out)) ≡ over (quotient_words p (length g) f g) old
  words-written out ys room is zeros =
      let n = length g in
      let l : length divided ≡ n - e = length-quotient p _ (from f e) (from g e) ∙ length_from g e in
      zeros-after divided old out ys (n - e) n l (omega arith) room is zeros
      ∙ ap (λ (s : List ℕ). over s old) (ap (λ (k : ℕ). divided ++ tabulate k (λ _. 0)) (let q : n - (n - e) ≡ e = omega arith in q) ∙ words_are)

-- 1 by 0 modulo 2, into no words: 10 comes before 12
pub short-first : judge (quotient_checks 2 1 (1 ∷ []) (0 ∷ []) 0) ≡ Refuse (refusal 10 1)
unfolding judge least_divisor first_large first_where first_nonzero
short-first = refl

abbrev row : (N : ℕ) (f g : List ℕ) → Check
row N f g = check 12 (not (ltb (least_power g) N && leb (least_power g) (least_power f))) 0

skipped : (N : ℕ) (f g : List ℕ) → least_power g < N → least_power g ≤ least_power f → (row N f g).applies ≡ false
skipped N f g there l = rw (lt-ltb (least_power g) N there, le-leb (least_power g) (least_power f) l)

-- refusal 12, after checks 1 to 10
module _ (p N : ℕ) (f g : List ℕ) (room : ℕ) (e : judge (series_checks p N f g room) ≡ Pass) where
  pub zero-refused : N ≤ least_power g → judge (quotient_checks p N f g room) ≡ Refuse (refusal 12 0)
  zero-refused l = last-refused _ (row N f g) e (rw (le-ltb (least_power g) N l))

  pub lower-refused : least_power g < N → least_power f < least_power g → judge (quotient_checks p N f g room) ≡ Refuse (refusal 12 0)
  lower-refused there l = last-refused _ (row N f g) e (rw (lt-ltb (least_power g) N there, lt-leb (least_power g) (least_power f) l))

  pub common-passed : least_power g < N → least_power g ≤ least_power f → judge (quotient_checks p N f g room) ≡ Pass
  common-passed there l = last-passed _ (row N f g) e (skipped N f g there l)

-- a divisor that does not begin with 0 is never refused by it
pub unit-checks : (p N : ℕ) (f g : List ℕ) (room : ℕ) → 1 ≤ N → (word g 0 ≡ 0 → ⊥) → judge (quotient_checks p N f g room) ≡ judge (series_checks p N f g room)
unit-checks p N f g room one ne =
    let e = unit-least g ne in
    after_same (series_checks p N f g room) (row N f g ∷ []) [] (skip-check (row N f g) [] (skipped N f g (omega arith) (omega arith)))
    ∙ ap judge (append-nil (series_checks p N f g room))

-- what passes has exactly one quotient
pub passed-one : (p N : ℕ) (f g : List ℕ) (room : ℕ) → judge (quotient_checks p N f g room) ≡ Pass → TheOne (IsQuotient p N f g) (quotient_words p N f g)
passed-one p N f g room e =
    let m = pass-parts (series_checks p N f g room) _ e in
    let o = (operation-pass p N f 1 g 1 1 room m.0).inputs in
    let b = both _ _ (pass-check (row N f g) [] m.1).0 in
    the-quotient o.modulus.prime N f g (omega (arith, o.f-long)) (omega (arith, o.g-long)) o.f-below o.g-below (ltb-true _ N b.0) (leb-true _ _ b.1)

pub divided-one : (p N : ℕ) (f g old : List ℕ) → OneOutcome (Divided p N f g old)
divided-one p N f g old =
    verdict-one (Divided p N f g old) (judge (quotient_checks p N f g (length old))) (N - least_power g) (QuotientDone p N f g old) old
    (λ a new. (λ x. (x.answers, x.leaves), λ e. record { answers = e.0; leaves = e.1 }))
    (λ e.
    let one = passed-one p N f g (length old) e in (
      over (quotient_words p N f g) old,
      record {
        is = (quotient_words p N f g, one.is, refl);
        only = λ new x. x.2 ∙ ap (λ h. over h old) (one.only x.0 x.1);
      },
    ))

-- an outcome, after the checks
module _ (p N : ℕ) (f g old : List ℕ) where
  pub divided-refused : (r : Row) → judge (quotient_checks p N f g (length old)) ≡ Refuse r → Divided p N f g old (refused r.number r.detail) old
  divided-refused r e = let x = leave-refused r (N - least_power g) (QuotientDone p N f g old old) old e in record { answers = x.0; leaves = x.1 }

  pub divided-done : (k : ℕ) (new : List ℕ) → judge (quotient_checks p N f g (length old)) ≡ Pass → k ≡ N - least_power g → new ≡ over (quotient_words p N f g) old
      → Divided p N f g old (accepted k) new
  divided-done k new e q w =
      let one = passed-one p N f g (length old) e in
      let x = leave-done k (N - least_power g) (QuotientDone p N f g old new) old new e q (quotient_words p N f g, one.is, w) in
      record { answers = x.0; leaves = x.1 }
