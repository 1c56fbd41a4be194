-- Columns of rows that are below a bound: the test that computes, what it says, and how a loop finds it.
-- Assumes nothing.
use mathlib.Core.Path.{◌≡◌, sym, ap, subst, ◌∙◌}
use mathlib.Core.Bool.{Bool, true, false}
use mathlib.Core.List.{List}
use Prim.Native.Nat.{ℕ, ◌+◌, ◌-◌, ◌*◌, ◌≤◌, ◌<◌}
use native.Mathlib.Omega.{arith}
use borrow.Author.Tests.{lt-ltb, le-ltb, ltb-true}
use lib.ListN.{length, take, drop, length-drop}
use lib.Seq.{get_or-take, get_or-drop, length-take-le}
use Rattle.numbers.specs.Words.{word, first_large}
use Rattle.numbers.specs.internal.Facts.{Decides}
use Rattle.numbers.proofs.WordsLaws.{true-false, none-large, large-there, from, word-from}
use Rattle.numbers.proofs.TestsLaws.{all_to-at, at-all_to, all_to-false}
use Rattle.rows.specs.Rows.{rows_below}

module _ (q : ℕ) (s : List ℕ) (N rows from to : ℕ) where
  pub rows_below-at : rows_below q s N rows from to ≡ true → (j : ℕ) → j < rows → (t : ℕ) → from ≤ t → t < to → word s (j * N + t) < q
  unfolding rows_below
  rows_below-at e j l t g h =
      subst (λ x. word s (j * N + x) < q) (let z : from + (t - from) ≡ t = omega arith in z)
      (ltb-true _ q (all_to-at (to - from) _ (all_to-at rows _ e j l) (t - from) (omega arith)))

  pub at-rows_below : ((j : ℕ) → j < rows → (t : ℕ) → from ≤ t → t < to → word s (j * N + t) < q) → rows_below q s N rows from to ≡ true
  unfolding rows_below
  at-rows_below h = at-all_to rows _ (λ j l. at-all_to (to - from) _ (λ t g. lt-ltb _ q (h j l (from + t) (omega arith) (omega arith))))

  pub rows_below-false : (j : ℕ) → j < rows → (t : ℕ) → t < to - from → q ≤ word s (j * N + (from + t)) → rows_below q s N rows from to ≡ false
  unfolding rows_below
  rows_below-false j l t g h = all_to-false rows _ j l (all_to-false (to - from) _ t g (le-ltb _ q h))

  -- the answer of `rows_below` as a decision
  pub rows_below-decides : {b : Bool} → b ≡ rows_below q s N rows from to → Decides b ((j : ℕ) → j < rows → (t : ℕ) → from ≤ t → t < to → word s (j * N + t) < q)
  rows_below-decides e = record { yes = λ t. rows_below-at (sym e ∙ t); no = λ f h. true-false (sym (at-rows_below h) ∙ sym e ∙ f) }

-- .. and where it is lent the words from word o on
pub rows_below-after : (q : ℕ) (s : List ℕ) (o N rows low high : ℕ) {b : Bool} → b ≡ rows_below q (from s o) N rows low high
    → Decides b ((j : ℕ) → j < rows → (t : ℕ) → low ≤ t → t < high → word s (o + j * N + t) < q)
rows_below-after q s o N rows low high e =
    let d = rows_below-decides q (from s o) N rows low high e in
    let at : (j t : ℕ) → word (from s o) (j * N + t) ≡ word s (o + j * N + t) = λ j t.
    word-from s o (j * N + t) ∙ ap (word s) (let z : o + (j * N + t) ≡ o + j * N + t = omega arith in z) in
    record {
      yes = λ y j l t g h. subst (λ x. x < q) (at j t) (d.yes y j l t g h);
      no = λ n all. d.no n (λ j l t g h. subst (λ x. x < q) (sym (at j t)) (all j l t g h));
    }

-- the columns from..to − 1 of row j, as `first_large` is lent them
module _ (q : ℕ) (s : List ℕ) (N j from to : ℕ) (ordered : from ≤ to) (fits : j * N + to ≤ length s) where
  abbrev columns : List ℕ
  columns = take (j * N + to - (j * N + from)) (drop (j * N + from) s)

  length-columns : length columns ≡ to - from
  length-columns =
      let e : j * N + to - (j * N + from) ≡ to - from = omega arith in
      length-take-le (j * N + to - (j * N + from)) (drop (j * N + from) s) (simp length-drop (omega arith)) ∙ e

  column-word : (t : ℕ) → t < to - from → word columns t ≡ word s (j * N + (from + t))
  column-word t l =
      get_or-take (j * N + to - (j * N + from)) (drop (j * N + from) s) t 0 (omega arith) ∙ get_or-drop (j * N + from) s t 0
      ∙ ap (word s) (let e : j * N + from + t ≡ j * N + (from + t) = omega arith in e)

  pub columns-pass : to - from ≤ first_large q columns → (t : ℕ) → from ≤ t → t < to → word s (j * N + t) < q
  columns-pass h t g l =
      subst (λ x. word s (j * N + x) < q) (let z : from + (t - from) ≡ t = omega arith in z)
      (subst (λ x. x < q) (column-word (t - from) (omega arith)) (none-large q columns (omega (arith, length-columns)) (t - from) (omega (arith, length-columns))))

  pub columns-fail : (rows : ℕ) → j < rows → first_large q columns < to - from → false ≡ rows_below q s N rows from to
  columns-fail rows l h =
      sym (rows_below-false q s N rows from to j l (first_large q columns) h
      (subst (λ x. q ≤ x) (column-word (first_large q columns) h) (large-there q columns (omega (arith, length-columns)))))
