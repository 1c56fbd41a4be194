-- The checks of open: their parts, and what each part that passes says.
--   open-rows-split        the checks of open are the three parts, one after the other
--   long_check, words_check, known_check, top_test, roots_check   refusals 5, 6, 21, 7 and 8, by name
--   unit-fails, unit-passes   what the test of the top row finds
--   large-rows, large-roots, large-none   refusal 6, by the first large words
--   PolynomialPass, polynomial-pass, polynomial-passes   what checks 1 to 6 let pass, and that they do
--   row-test               row D of the polynomial is the part of the rows that the test looks at
--   known-first            21 comes before 7 and 8
--   RowsPass, rows_pass, rows-passes   what checks 1 to 7, and 21, let pass, and that they do
--   other-roots            and so they do with other roots
--   ListPass, list-pass, list-passes   what checks 1 to 8, and 21, let pass, and that they do
--   other-rows, other-list  and so they do with other rows and known lengths, if these fit, the top row is right and all are below p
--   whole-known, whole-rows, whole-list  which rows do that are all known
-- Assumes nothing.
use Prim.Native.Nat.{ℕ, ◌+◌, ◌-◌, ◌*◌, ◌≤◌, ◌<◌}
use native.Mathlib.Nat.{mod-eq_of_lt}
use native.Mathlib.Omega.{arith}
use mathlib.Core.Path.{◌≡◌, refl, sym, ◌∙◌, ap, subst}
use mathlib.Core.Logic.{◌≢◌}
use mathlib.Core.Bool.{Bool, true, false, not, ◌||◌}
use mathlib.Core.List.{List, [], ◌∷◌, ◌++◌}
use borrow.Author.Tests.{lt-ltb, le-ltb, eq-eqb, ne_eqb, not-false, eqb-true}
use lib.Dec.{eqb}
use lib.ListN.{length, take, drop, length-append}
use lib.Seq.{get_or-take, get_or-drop}
use Rattle.numbers.specs.Words.{word, tabulate, all_to, all, first_large, outside, low_word, rising}
use Rattle.numbers.specs.internal.Facts.{AllBelow, Rising}
use Rattle.numbers.specs.Refusals.{Check, check, judge, refusal, modulus_checks, unreduced, degree_check, width_check, Pass, Refuse}
use Rattle.numbers.proofs.WordsLaws.{length-tabulate, word-tabulate, below-append, large-first, large-second, large-le, append-below}
use Rattle.numbers.proofs.TestsLaws.{eqs, all_to-false, all_to-ext, rising-passes, rising-are}
use Rattle.numbers.proofs.RefusalsLaws.{Modulus, modulus-pass, modulus-fine, after-pass, pass-parts, pass-check, take-check, skip-check, none-judged, neither, reduced, below-reduced, inside, within}
use Rattle.numbers.specs.Limits.{largest_modulus, largest_degree, largest_width}
use Rattle.series.specs.Known.{KnownTo, known_to, rows_known, unknown_check}
use Rattle.series.proofs.KnownLaws.{rows-known-test}
use Rattle.rows.proofs.RowsLaws.{length_part, row_fits}
use Rattle.rows.specs.Rows.{unit}
use Rattle.layout.specs.Layout.{rows_at}
use Rattle.sheet.specs.Sheet.{Given, given_of, whole_of, given-polynomial}
use Rattle.open.specs.Open.{open_verdict, size_checks, polynomial_checks, top_checks, list_checks, split_checks}
use Rattle.open.specs.internal.Opening.{is_unit}

-- the rows that only open has: 5, 6, 21, 7 and 8
abbrev pub long_check : Given → Check
long_check g = check 5 (not (eqb (length g.rows) ((g.D + 1) * g.N)) || not (eqb (length g.lengths) g.D)) 0

abbrev pub words_check : Given → Check
words_check g = check 6 (unreduced g.p (g.rows ++ g.roots)) (low_word (first_large g.p (g.rows ++ g.roots)))

abbrev pub known_check : Given → Check
known_check g = unknown_check (rows_known g.N g.D (word g.lengths) (given-polynomial g))

abbrev pub top_test : Given → Bool
top_test g = all_to g.N (λ t. eqb (given-polynomial g g.D t) (unit t))

abbrev pub roots_check : Given → Check
roots_check g = check 8 (outside 1 g.D (length g.roots) || not (rising g.roots)) 0

pub open-rows-split : (g : Given) (room : ℕ) → open_verdict g room ≡ judge ((polynomial_checks g ++ list_checks g) ++ split_checks g room)
unfolding open_verdict
open-rows-split g room = refl

pub unit-fails : (s : List ℕ) (t : ℕ) → t < length s → word s t ≢ unit t → false ≡ is_unit s
unit-fails s t l ne = sym (all_to-false (length s) (λ t. eqb (word s t) (unit t)) t l (ne_eqb (word s t) (unit t) ne))

pub unit-passes : (s : List ℕ) (n : ℕ) → length s ≤ n → ((k : ℕ) → k < n → word s k ≡ unit k) → true ≡ is_unit s
unit-passes s n l h = sym ((eqs (length s) (word s) unit).1 (λ k g. h k (omega arith)))

-- refusal 6, by the first large word of the rows and by that of the roots
module _ (g : Given) (at : ℕ) (is : at ≡ first_large g.p g.rows) where
  pub large-rows : at < length g.rows → length g.rows ≤ 8448 → judge (words_check g ∷ []) ≡ Refuse (refusal 6 at)
  large-rows l small =
      let q : first_large g.p (g.rows ++ g.roots) ≡ at = large-first g.p g.rows g.roots (omega arith) ∙ sym is in
      take-check (words_check g) [] (lt-ltb (first_large g.p (g.rows ++ g.roots)) (length (g.rows ++ g.roots)) (omega (arith, length-append g.rows g.roots)))
      ∙ ap (λ (n : ℕ). Refuse (refusal 6 n)) (ap low_word q ∙ mod-eq_of_lt (omega arith))

  module _ (none : length g.rows ≤ at) (more : ℕ) (more-is : more ≡ first_large g.p g.roots) where
    large-on : first_large g.p (g.rows ++ g.roots) ≡ more + at
    large-on =
        let l = large-le g.p g.rows in
        large-second g.p g.rows g.roots (omega arith) ∙ (let z : length g.rows + first_large g.p g.roots ≡ more + at = omega arith in z)

    pub large-roots : more < length g.roots → judge (words_check g ∷ []) ≡ Refuse (refusal 6 (low_word (more + at)))
    large-roots l =
        take-check (words_check g) [] (let q = large-on in let e = large-le g.p g.rows in lt-ltb (first_large g.p (g.rows ++ g.roots)) (length (g.rows ++ g.roots)) (omega (arith, length-append g.rows g.roots)))
        ∙ ap (λ (n : ℕ). Refuse (refusal 6 (low_word n))) large-on

    pub large-none : length g.roots ≤ more → judge (words_check g ∷ []) ≡ Pass
    large-none l = skip-check (words_check g) [] (let q = large-on in le-ltb (first_large g.p (g.rows ++ g.roots)) (length (g.rows ++ g.roots)) (omega (arith, length-append g.rows g.roots))) ∙ none-judged

-- what checks 1 to 6 let pass
pub record PolynomialPass (g : Given) : Type 0 where
  pub modulus : Modulus g.p
  pub small : g.p ≤ largest_modulus
  pub degree-low : 1 ≤ g.D
  pub degree-high : g.D ≤ largest_degree
  pub width_low : 1 ≤ g.N
  pub width-high : g.N ≤ largest_width
  pub long : length g.rows ≡ (g.D + 1) * g.N
  pub lengths-long : length g.lengths ≡ g.D
  pub rows-below : AllBelow g.p g.rows
  pub roots-below : AllBelow g.p g.roots

pub polynomial-pass : (g : Given) → judge (polynomial_checks g) ≡ Pass → PolynomialPass g
polynomial-pass g pass =
    let m = pass-parts (modulus_checks g.p) (size_checks g) pass in
    let c₃ = pass-check (degree_check g.D) _ m.1 in
    let d = inside 1 largest_degree g.D c₃.0 in
    let c₄ = pass-check (width_check g.N) _ c₃.1 in
    let n = inside 1 largest_width g.N c₄.0 in
    let c₅ = pass-check (long_check g) _ c₄.1 in
    let l = neither (not (eqb (length g.rows) ((g.D + 1) * g.N))) (not (eqb (length g.lengths) g.D)) c₅.0 in
    let c₆ = pass-check (words_check g) _ c₅.1 in
    let low = below-append g.p g.rows g.roots (reduced g.p (g.rows ++ g.roots) c₆.0) in
    record {
      modulus = modulus-pass g.p m.0;
      small = (inside 2 largest_modulus g.p (pass-check (check 1 (outside 2 largest_modulus g.p) 0) _ m.0).0).1;
      degree-low = d.0;
      degree-high = d.1;
      width_low = n.0;
      width-high = n.1;
      long = eqb-true _ _ (not-false _ l.0);
      lengths-long = eqb-true _ _ (not-false _ l.1);
      rows-below = low.0;
      roots-below = low.1;
    }

pub polynomial-passes : (g : Given) → PolynomialPass g → judge (polynomial_checks g) ≡ Pass
polynomial-passes g h =
    after-pass (modulus_checks g.p) (size_checks g) (modulus-fine g.p h.modulus.prime h.small)
    ∙ skip-check (degree_check g.D) _ (within 1 largest_degree g.D h.degree-low h.degree-high)
    ∙ skip-check (width_check g.N) _ (within 1 largest_width g.N h.width_low h.width-high)
    ∙ skip-check (long_check g) _ (rw (eq-eqb _ _ h.long, eq-eqb _ _ h.lengths-long) refl)
    ∙ skip-check (words_check g) [] (below-reduced g.p (g.rows ++ g.roots) (append-below g.p g.rows g.roots h.rows-below h.roots-below))
    ∙ none-judged

zero-plus : (n : ℕ) → 0 + n ≡ n
zero-plus n = omega arith

-- row D of N words
module _ (s : List ℕ) (D N : ℕ) (long : length s ≡ (D + 1) * N) where
  pub top-fits : D * N + N ≤ length s
  top-fits = omega (arith, row_fits D (D + 1) N (omega arith))

  pub top-long : length (take (D * N + N - D * N) (drop (D * N) s)) ≡ N
  top-long = length_part s (D * N) N top-fits

  pub row-test : is_unit (take (D * N + N - D * N) (drop (D * N) s)) ≡ all_to N (λ t. eqb (word s (0 + D * N + t)) (unit t))
  row-test =
      let x = take (D * N + N - D * N) (drop (D * N) s) in
      ap (λ n. all_to n (λ t. eqb (word x t) (unit t))) top-long
      ∙ all_to-ext N _ _ (λ t l. ap (λ w. eqb w (unit t)) (let z : t < D * N + N - D * N = omega arith in rw (get_or-take, get_or-drop, zero-plus (D * N))))

-- Y^1 with a top row of 0, a known length of 0 and no root
known-first : judge (list_checks (given_of 2 1 1 (0 ∷ 0 ∷ []) (0 ∷ []) [])) ≡ Refuse (refusal 21 0)
unfolding judge rows_known known_to all_to all
known-first = refl

-- what checks 1 to 7, and 21, let pass
pub record RowsPass (g : Given) : Type 0 where
  pub polynomial : PolynomialPass g
  pub lengths : (j : ℕ) → j < g.D → KnownTo g.N (word g.lengths j) (given-polynomial g j)
  pub top : (t : ℕ) → t < g.N → given-polynomial g g.D t ≡ unit t

pub rows_pass : (g : Given) → judge (polynomial_checks g ++ top_checks g) ≡ Pass → RowsPass g
rows_pass g pass =
    let m = pass-parts (polynomial_checks g) (top_checks g) pass in
    let k = pass-check (known_check g) _ m.1 in
    record {
      polynomial = polynomial-pass g m.0;
      lengths = (rows-known-test g.N g.D (word g.lengths) (given-polynomial g)).0 (not-false _ k.0);
      top = (eqs g.N _ _).0 (not-false (top_test g) (pass-check (check 7 (not (top_test g)) 0) [] k.1).0);
    }

pub rows-passes : (g : Given) → RowsPass g → judge (polynomial_checks g ++ top_checks g) ≡ Pass
rows-passes g h =
    after-pass (polynomial_checks g) (top_checks g) (polynomial-passes g h.polynomial)
    ∙ skip-check (known_check g) _ (ap not ((rows-known-test g.N g.D (word g.lengths) (given-polynomial g)).1 h.lengths))
    ∙ skip-check (check 7 (not (top_test g)) 0) [] (ap not ((eqs g.N _ _).1 h.top))
    ∙ none-judged

-- other roots do not matter to these, if they are below p
pub other-roots : (g : Given) → RowsPass g → (roots : List ℕ) → AllBelow g.p roots → RowsPass (given_of g.p g.D g.N g.rows g.lengths roots)
other-roots g h roots low =
    let s = h.polynomial in
    record {
      polynomial = record {
        modulus = s.modulus;
        small = s.small;
        degree-low = s.degree-low;
        degree-high = s.degree-high;
        width_low = s.width_low;
        width-high = s.width-high;
        long = s.long;
        lengths-long = s.lengths-long;
        rows-below = s.rows-below;
        roots-below = low;
      };
      lengths = h.lengths;
      top = h.top;
    }

-- what checks 1 to 8, and 21, let pass
pub record ListPass (g : Given) : Type 0 where
  pub rows : RowsPass g
  pub count_low : 1 ≤ length g.roots
  pub count-high : length g.roots ≤ g.D
  pub up : Rising g.roots

-- refusal 8 comes after these
pub list-split : (g : Given) → judge (polynomial_checks g ++ list_checks g) ≡ judge ((polynomial_checks g ++ top_checks g) ++ (roots_check g ∷ []))
list-split g = refl

pub list-pass : (g : Given) → judge (polynomial_checks g ++ list_checks g) ≡ Pass → ListPass g
list-pass g pass =
    let m = pass-parts (polynomial_checks g ++ top_checks g) (roots_check g ∷ []) (sym (list-split g) ∙ pass) in
    let c₈ = pass-check (roots_check g) [] m.1 in
    let n = neither (outside 1 g.D (length g.roots)) (not (rising g.roots)) c₈.0 in
    let r = inside 1 g.D (length g.roots) n.0 in
    record { rows = rows_pass g m.0; count_low = r.0; count-high = r.1; up = rising-are g.roots (not-false (rising g.roots) n.1) }

pub list-passes : (g : Given) → ListPass g → judge (polynomial_checks g ++ list_checks g) ≡ Pass
list-passes g h =
    list-split g ∙ after-pass (polynomial_checks g ++ top_checks g) (roots_check g ∷ []) (rows-passes g h.rows)
    ∙ skip-check (roots_check g) [] (rw (within 1 g.D (length g.roots) h.count_low h.count-high) (ap not (sym (rising-passes g.roots (length g.roots) (omega arith) h.up))))
    ∙ none-judged

-- other rows, and other known lengths
module _ (g : Given) (rows lengths : List ℕ) (long : length rows ≡ (g.D + 1) * g.N) (lengths-long : length lengths ≡ g.D) (below : AllBelow g.p rows)
    (known : (j : ℕ) → j < g.D → KnownTo g.N (word lengths j) (rows_at rows 0 g.N j)) (top : (t : ℕ) → t < g.N → rows_at rows 0 g.N g.D t ≡ unit t) where
  abbrev f : Given
  f = given_of g.p g.D g.N rows lengths g.roots

  pub other-rows : RowsPass g → RowsPass f
  other-rows h = record {
    polynomial = record {
      modulus = h.polynomial.modulus;
      small = h.polynomial.small;
      degree-low = h.polynomial.degree-low;
      degree-high = h.polynomial.degree-high;
      width_low = h.polynomial.width_low;
      width-high = h.polynomial.width-high;
      long = long;
      lengths-long = lengths-long;
      rows-below = below;
      roots-below = h.polynomial.roots-below;
    };
    lengths = known;
    top = top;
  }

  pub other-list : ListPass g → ListPass f
  other-list h = record { rows = other-rows h.rows; count_low = h.count_low; count-high = h.count-high; up = h.up }

-- other rows, all of them known
module _ (g : Given) (rows : List ℕ) (long : length rows ≡ (g.D + 1) * g.N) (below : AllBelow g.p rows) (top : (t : ℕ) → t < g.N → rows_at rows 0 g.N g.D t ≡ unit t) where
  abbrev whole : List ℕ
  whole = tabulate g.D (λ _. g.N)

  whole_long : length whole ≡ g.D
  whole_long = length-tabulate g.D (λ _. g.N)

  pub whole-known : 1 ≤ g.N → (j : ℕ) → j < g.D → KnownTo g.N (word whole j) (rows_at rows 0 g.N j)
  whole-known one j l =
      subst (λ n. KnownTo g.N n (rows_at rows 0 g.N j)) (sym (word-tabulate g.D (λ _. g.N) j l))
      (record { low = one; high = omega arith; rest = λ t u v. absurd (let z : ⊥ = omega arith in z) })

  pub whole-rows : RowsPass g → RowsPass (whole_of g.p g.D g.N rows g.roots)
  whole-rows h = other-rows g rows whole long whole_long below (whole-known h.polynomial.width_low) top h

  pub whole-list : ListPass g → ListPass (whole_of g.p g.D g.N rows g.roots)
  whole-list h = other-list g rows whole long whole_long below (whole-known h.rows.polynomial.width_low) top h

pub list-small : (g : Given) → ListPass g → (g.D ≤ largest_degree) × (g.N ≤ largest_width) × (length g.roots ≤ largest_degree)
list-small g h = let d = h.rows.polynomial.degree-high in let r = h.count-high in (d, h.rows.polynomial.width-high, omega arith)
