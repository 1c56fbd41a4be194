-- The end theorems, from the laws of the crates.
-- Assumes nothing.
use Prim.Native.Nat.{ℕ, zero, suc, ◌+◌, ◌-◌}
use native.Mathlib.Nat.{sub-zero}
use native.Mathlib.Omega.{arith}
use mathlib.Core.Path.{◌≡◌, refl, sym, ◌∙◌, ap, subst}
use mathlib.Core.List.{List, [], ◌∷◌}
use lib.Seq.{take_all}
use borrow.Author.Tests.{eqb-true, eqb-false, eq-eqb, leb-false}
use Rattle.series.proofs.CheckLaws.{one_below}
use Rattle.algebra.proofs.FpLaws.{p-pos}
use Rattle.numbers.specs.Words.{word, tabulate}
use Rattle.numbers.specs.Refusals.{judge, operation_checks, input_checks, Pass}
use Rattle.numbers.specs.One.{TheOne}
use Rattle.numbers.proofs.WordsLaws.{word-tabulate, tabulate-ext, least_at, least-there}
use Rattle.numbers.proofs.TestsLaws.{rising-are}
use Rattle.numbers.proofs.ListedLaws.{where-listed}
use Rattle.numbers.proofs.RefusalsLaws.{operation-pass, inputs-pass, pass-parts, pass-check, reduced, below-reduced}
use Rattle.series.specs.Series.{IsSeries, inverse_checks, product_column, product, quotient}
use Rattle.series.proofs.SeriesLaws.{sums-whole, product_whole, length-quotient, quotient-below}
use Rattle.series.proofs.KnownLaws.{known-test, sums-known, product-known}
use Rattle.series.proofs.QuotientLaws.{inverse-law, quotient-product, quotient-unique}
use Rattle.series.proofs.DividedLaws.{unit-least, unit-words, unit-checks, product-least, passed-one, divided-one}
use Rattle.rows.specs.Rows.{unit}
use Rattle.rows.proofs.ShiftLaws.{row-shift-back, row-shift-product}
use Rattle.pair.proofs.PairWordsLaws.{pair-test}
use Rattle.pair.proofs.OneLaws.{paired-one, paired-afresh, paired-keeps, paired-goes}
use Rattle.rootfinding.specs.Roots.{value, is_root, all_roots}
use Rattle.rootfinding.proofs.RootsLaws.{all-rising}
use Rattle.sheet.proofs.SoundTestLaws.{sound-test}
use Rattle.simple.specs.internal.Factors.{multiple_verdict}
use Rattle.simple.proofs.RootLaws.{root-series, root-factor}
use Rattle.simple.proofs.SimpleLaws.{multiple-pass, multiple-least, simple-one}
use Rattle.signed.proofs.SignedLaws.{signed-one}
use Rattle.open.specs.Open.{needed}
use Rattle.open.proofs.OpeningLaws.{open-ready, sheet-exists}
use Rattle.open.proofs.OpenTotalLaws.{opened_one}
use Rattle.open.proofs.FindLaws.{nine, found-opened, opened-found, found-one}
use Rattle.extend.proofs.ExtendTotalLaws.{extended-one}
use Rattle.correct.proofs.CorrectTotalLaws.{corrected-one}
use Rattle.calls.specs.Calls.{counting}
use Rattle.calls.proofs.Demand3Laws.{demand3, calls_same}
use Rattle.calls.proofs.CorrectedLaws.{correct-afresh}
use Rattle.calls.proofs.OneLaws.{run-one, count-largest, replayed-one}
use Rattle.calls.proofs.FillingLaws.{filled-opens, filled-same, filled-own, filled_apart}
use Rattle.origin.proofs.TurnLaws.{moved-one}
use Rattle.origin.proofs.OriginLaws.{origin}
use Rattle.counts.proofs.CountsLaws.{counts-formula, counts-total, counts-find}
use Rattle.job.specs.Limits.{job_room}
use Rattle.job.proofs.JobLaws.{narrow-reads}
use Rattle.formula.proofs.FoundLaws.{reading-one}
use Rattle.read.proofs.OutcomeLaws.{read_one}
use Rattle.typed.proofs.OrderLaws.{one-order}
use Rattle.typed.proofs.KeyLaws.{one_key, keyed-only, key-cut}
use Rattle.listing.proofs.ListingLaws.{one-listing, listed-only, listing-cut}
use Rattle.theorems.specs.Theorems.{PairTheorems, SheetTheorems, FindTheorems, RootTheorems, CountTheorems, TypedTheorems, CallTheorems, OriginTheorems, KnownTheorems, RowTheorems, Theorems}

pair-theorems : PairTheorems
pair-theorems = record {
  pair_one = paired-one;
  pair-afresh = paired-afresh;
  pair_keeps = paired-keeps;
  pair_goes = paired-goes;
  pair-test = λ p D N f k s prime bound one. pair-test p D N f prime bound k one s;
}

sheet-theorems : SheetTheorems
sheet-theorems = record {
  sound-test = sound-test;
  sheet-one = λ g e k low high.
      let one = sheet-exists g (open-ready g (needed g) e).0 k low high in
      (one.words, record { is = (one.holds, one.long); only = λ s x. sym (take_all (needed g) s (omega (arith, x.1))) ∙ one.only s x.0 });
  open-one = opened_one;
  extend-one = extended-one;
  correct-one = corrected-one;
  correct-afresh = correct-afresh;
}

find-theorems : FindTheorems
find-theorems = record {
  find-one = found-one;
  find-nine = λ g pass room. nine g room pass;
  find-opens = found-opened;
  open-finds = opened-found;
  roots-rise = all-rising;
  roots-are = λ p e c.
      let h = where-listed (is_root p e) 0 p in (
        λ (i, l, q). (let z = h.high i l in omega arith, subst (λ x. value p x e ≡ 0) q (eqb-true (value p (word (all_roots p e) i) e) 0 (h.holds i l))),
        λ (l, z). h.all c (omega arith) (omega arith) (eq-eqb (value p c e) 0 z),
      );
}

root-theorems : RootTheorems
unfolding multiple_verdict
root-theorems = record {
  roots-multiple = multiple-least;
  root-one = λ s sound e. root-series s sound (multiple-pass s sound e);
  root-factor = λ s sound e. root-factor s sound (multiple-pass s sound e);
  roots-one = simple-one;
  signed-one = signed-one;
}

count-theorems : CountTheorems
count-theorems = record { counts-formula = counts-formula; counts-total = counts-total; counts-find = counts-find }

typed-theorems : TypedTheorems
typed-theorems = record { reading-one = reading-one; read_one = read_one; order-one = one-order; key_one = one_key; keyed-only = keyed-only; key-cut = key-cut }

call-theorems : CallTheorems
call-theorems = record {
  run-one = run-one;
  demand3 = demand3;
  calls_same = calls_same;
  largest = λ T g cs. count-largest T (counting g) cs;
  replay-one = replayed-one;
  listing-one = one-listing;
  listed-only = listed-only;
  narrow-job = narrow-reads;
  listing-cut = λ profile job text h x. listing-cut profile job text job_room (omega arith) h x;
}

origin-theorems : OriginTheorems
origin-theorems = record { moved-one = λ p c roots l up low. moved-one p c l roots (rising-are roots up) (reduced p roots low); origin = origin }

known-theorems : KnownTheorems
known-theorems = record {
  known-test = known-test;
  reach-least = λ g. least_at g.N (word g.lengths) g.D;
  reach-there = λ g. least-there g.N (word g.lengths) g.D;
  filled-opens = filled-opens;
  filled-same = filled-same;
  filled-own = filled-own;
  filled_apart = filled_apart;
  sum-known = sums-known;
  product-known = product-known;
  sum-whole = sums-whole;
  product_whole = product_whole;
}

-- the inverse: the quotient of 1, by a divisor that does not begin with 0
the_inverse : (p N : ℕ) (g : List ℕ) → judge (inverse_checks p N g N) ≡ Pass → TheOne (λ h. IsSeries p N h × (product p N h N g N ≡ tabulate N unit)) (quotient p N (1 ∷ []) g)
the_inverse p N g e =
    let m = pass-parts (operation_checks p N g 1 [] 0 1 N) _ e in
    let o = (operation-pass p N g 1 [] 0 1 N m.0).inputs in
    let prime = o.modulus.prime in
    let one = one_below p o.modulus.two in
    let first = eqb-false (word g 0) 0 (pass-check _ [] m.1).0 in
    record {
      is = (
        (length-quotient p N (1 ∷ []) g, below-reduced p _ (quotient-below p (p-pos prime) N (1 ∷ []) g)),
        product_whole p N (quotient p N (1 ∷ []) g) g ∙ tabulate-ext N _ unit (λ t u. quotient-product prime (1 ∷ []) g one o.f-below first N t u ∙ sym (one_word t)),
      );
      only = λ h x. quotient-unique prime (1 ∷ []) g one o.f-below first N h x.0.0 (reduced p h x.0.1)
          (λ t u. sym (word-tabulate N (product_column p h g) t u) ∙ ap (λ s. word s t) (sym (product_whole p N h g) ∙ x.1) ∙ word-tabulate N unit t u ∙ one_word t);
    }
  where
    one_word : (t : ℕ) → unit t ≡ word (1 ∷ []) t
    one_word zero = refl
    one_word (suc t) = refl

row-theorems : RowTheorems
row-theorems = record {
  inverse-is = λ p a prime low high. inverse-law prime a low high;
  quotient-one = divided-one;
  quotient-words = λ p N f g e. passed-one p N f g N e;
  quotient-whole = λ p N f g room one ne. (unit-checks p N f g room one ne, ap (λ (e : ℕ). N - e) (unit-least g ne) ∙ sub-zero N, unit-words p N f g ne);
  quotient-none = λ p N f g h long low back. let z = product-least p N f g h long back in let y : ⊥ = omega arith in y;
  inverse-one = the_inverse;
  shift_back = λ p D N f c e.
      let m = pass-parts (input_checks p N f (D + 1) [] 0 (D + 1)) _ e in
      let o = inputs-pass p N f (D + 1) [] 0 (D + 1) m.0 in
      row-shift-back p D N f c (leb-false p c (pass-check _ _ m.1).0) o.f-long o.f-below;
  shift-product = row-shift-product;
}

pub theorems : Theorems
theorems = (pair-theorems, sheet-theorems, find-theorems, root-theorems, count-theorems, typed-theorems, call-theorems, origin-theorems, known-theorems, row-theorems)
