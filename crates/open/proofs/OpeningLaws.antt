-- What an accepted open was given, what it writes, and that there is a sheet of it for every k.
--   SplitPassed, split-passed   what checks 9 and 10 find, after others
--   Passed, open-passed   what the checks of open find
--   column-opens    other rows are accepted that pass checks 1 to 8, and 21, and are the same at X = 0
--   list-ready, open-ready   what the checks of open leave: all that open needs
--   sheet-exists    for what an accepted open was given there is exactly one sound sheet with k terms, for every k from 1 to the least known length
--   open_words g     what open writes: with one term factor i is (Y − c_i)^(m_i)
--   open_done       open's conditions hold of these words over the old ones ..
--   open-only       .. and of no others
-- Assumes nothing.
use Prim.Native.Nat.{ℕ, ◌+◌, ◌*◌, ◌≤◌, ◌<◌}
use native.Mathlib.Omega.{arith}
use mathlib.Core.Path.{◌≡◌, refl, sym, ◌∙◌, ap, ap₂, subst, fun_ext}
use mathlib.Core.Option.{Option, none, some}
use mathlib.Core.List.{List, [], ◌++◌}
use borrow.Author.Tests.{ltb-false}
use lib.Dec.{eqb}
use lib.ListN.{length, take, drop, take-append-drop, get_or-append}
use lib.Seq.{take-length, drop_at}
use Rattle.numbers.specs.Words.{word, over}
use Rattle.numbers.specs.Refusals.{Check, check, judge, room_check, Pass}
use Rattle.numbers.proofs.WordsLaws.{length_over}
use Rattle.numbers.proofs.TestsLaws.{all_to-ext}
use Rattle.numbers.proofs.RefusalsLaws.{pass-parts, pass-check}
use Rattle.hensel.specs.Factors.{split}
use Rattle.sheet.specs.Sheet.{Given, given_of, given-reach, given-polynomial, Holds}
use Rattle.open.specs.Open.{choices, find, splits_test, powers_of, is_none, needed, open_verdict, OpenDone, polynomial_checks, list_checks, split_checks}
use Rattle.layout.proofs.RegionsLaws.{in_rows}
use Rattle.sheet.specs.internal.Content.{Content, size, sheet_words, built, start, Ready}
use Rattle.sheet.proofs.ContentLaws.{length-sheet}
use Rattle.sheet.proofs.SheetsLaws.{Good, words-content, words-end, words-sound}
use Rattle.sheet.proofs.UniqueLaws.{holds-unique}
use Rattle.sheet.proofs.BuildLaws.{solved, solved-good, start-good}
use Rattle.open.proofs.OpenChecksLaws.{ListPass, list-pass, list-passes, open-rows-split}
use Rattle.open.proofs.OpenSplitLaws.{split-some, room-pass}
use Rattle.open.proofs.OpenLaws.{some_of, powers-are, needed-is}

-- the powers found, or none
abbrev pub or_nil : Option (List ℕ) → List ℕ
or_nil none = []
or_nil (some l) = l

abbrev pub powers : Given → ℕ → ℕ
powers g = word (or_nil (powers_of g))

abbrev pub GivenReady : Given → Type 0
GivenReady g = Ready g.p g.D g.N (length g.roots) (word g.lengths) (word g.roots) (powers g) (given-polynomial g)

-- what they find
pub record Passed (g : Given) (room : ℕ) : Type 0 where
  pub list : ListPass g
  pub found : List ℕ
  pub found-is : powers_of g ≡ some found
  pub fits : needed g ≤ room

-- checks before 9 and 10, and what these let pass
pub record SplitPassed (before : List Check) (g : Given) (room : ℕ) : Type 0 where
  pub passed : judge before ≡ Pass
  pub found : List ℕ
  pub found-is : powers_of g ≡ some found
  pub fits : needed g ≤ room

pub split-passed : (before : List Check) (g : Given) (room : ℕ) → judge (before ++ split_checks g room) ≡ Pass → SplitPassed before g room
split-passed before g room pass =
    let parts = pass-parts before (split_checks g room) pass in
    let c₉ = pass-check (check 9 (is_none (powers_of g)) 0) _ parts.1 in
    let (l, e) = some_of (powers_of g) c₉.0 in
    record { passed = parts.0; found = l; found-is = e; fits = ltb-false room (needed g) (pass-check (room_check room (needed g)) [] c₉.1).0 }

pub open-passed : (g : Given) (room : ℕ) → open_verdict g room ≡ Pass → Passed g room
open-passed g room pass =
    let s = split-passed (polynomial_checks g ++ list_checks g) g room (sym (open-rows-split g room) ∙ pass) in
    record { list = list-pass g s.passed; found = s.found; found-is = s.found-is; fits = s.fits }

-- checks 9 and 10 look at column 0 of the rows, the roots, and the sizes
module _ (g : Given) (rows lengths : List ℕ) where
  abbrev other : Given
  other = given_of g.p g.D g.N rows lengths g.roots

  module _ (same : (j : ℕ) → j ≤ g.D → given-polynomial other j 0 ≡ given-polynomial g j 0) where
    tests_same : (l : List ℕ) → splits_test other l ≡ splits_test g l
    unfolding splits_test
    tests_same l = all_to-ext _ _ _ (λ j u. ap (eqb (split g.p (length g.roots) (word g.roots) (word l) j)) (same j (omega arith)))

    powers-same : powers_of other ≡ powers_of g
    unfolding powers_of
    powers-same = ap (λ test. find test (choices (length g.roots) g.D)) (fun_ext tests_same)

    pub column-opens : open_verdict g (needed g) ≡ Pass → ListPass other → open_verdict other (needed other) ≡ Pass
    column-opens pass list =
        let a = open-passed g (needed g) pass in
        open-rows-split other (needed other)
        ∙ split-some (polynomial_checks other ++ list_checks other) (list-passes other list) other (needed other) a.found (powers-same ∙ a.found-is)
        ∙ room-pass (needed other) (needed other) (omega arith)

-- with powers found
pub list-ready : (g : Given) → ListPass g → (l : List ℕ) → powers_of g ≡ some l → GivenReady g
list-ready g h l e =
    let s = h.rows.polynomial in
    record {
      prime = s.modulus.prime;
      small = s.small;
      degree-low = s.degree-low;
      degree-high = s.degree-high;
      width_low = s.width_low;
      width-high = s.width-high;
      reduced = λ j u t v. s.rows-below (0 + j * g.N + t) (let n = s.long in omega (arith, in_rows (g.D + 1) g.N j t (omega arith) v));
      top = h.rows.top;
      lengths = h.rows.lengths;
      splits = rw e ((powers-are g s.modulus.prime h.up s.roots-below l).0 e).1;
    }

pub open-ready : (g : Given) (room : ℕ) → open_verdict g room ≡ Pass → GivenReady g × (needed g ≤ room)
open-ready g room pass = let a = open-passed g room pass in (list-ready g a.list a.found a.found-is, a.fits)

-- a slice that begins with the words of good content built on what open was given
holds-built : (g : Given) (k : ℕ) (a : ℕ → ℕ → ℕ → ℕ) (s : List ℕ)
    → let c = built g.p g.D g.N k (length g.roots) (word g.lengths) (word g.roots) (powers g) (given-polynomial g) a in
    Good c → size c ≤ length s → ((i : ℕ) → i < size c → word s i ≡ word (sheet_words c) i) → Holds g k s
holds-built g k a s good fits agree =
    let c = built g.p g.D g.N k (length g.roots) (word g.lengths) (word g.roots) (powers g) (given-polynomial g) a in
    let e = words-content s c agree in
    let eD = e.degree in let eN = e.width in let er = e.count in
    record {
      sound = words-sound s c agree good fits;
      same-modulus = sym e.modulus;
      same-degree = sym eD;
      same_width = sym eN;
      same-lengths = λ j l. sym (e.lengths j (omega arith));
      same_count = sym er;
      same-roots = λ i l. sym (e.roots i (omega arith));
      same-polynomial = λ j l t v. sym (e.polynomial j t (omega arith) (omega arith));
      same-terms = sym e.terms;
    }

-- the one sheet with k terms
pub record OneSheet (g : Given) (k : ℕ) : Type 0 where
  pub words : List ℕ
  pub holds : Holds g k words
  pub long : length words ≡ needed g
  pub only : (s : List ℕ) → Holds g k s → take (needed g) s ≡ words

pub sheet-exists : (g : Given) → GivenReady g → (k : ℕ) → 1 ≤ k → k ≤ given-reach g → OneSheet g k
unfolding needed solved
sheet-exists g h k low high =
    let c = solved g.p g.D g.N (length g.roots) (word g.lengths) (word g.roots) (powers g) (given-polynomial g) h k in
    let n = length-sheet c in
    let holds = holds-built g k _ (sheet_words c)
    (solved-good g.p g.D g.N (length g.roots) (word g.lengths) (word g.roots) (powers g) (given-polynomial g) h k low high) (omega arith) (λ i l. refl) in
    let e = needed-is g k (sheet_words c) holds in
    record {
      words = sheet_words c;
      holds = holds;
      long = n;
      only = λ s hs.
          ap (λ m. take m s) e ∙ sym (holds-unique g k (sheet_words c) s holds hs) ∙ ap (λ m. take m (sheet_words c)) (sym (n ∙ e)) ∙ take-length (sheet_words c);
    }

abbrev pub start_content : Given → Content
start_content g = built g.p g.D g.N 1 (length g.roots) (word g.lengths) (word g.roots) (powers g) (given-polynomial g) (start g.p (word g.roots) (powers g))

unfoldable pub open_words : Given → List ℕ
open_words g = sheet_words (start_content g)

module _ (g : Given) (old : List ℕ) (h : GivenReady g) (fits : needed g ≤ length old) where
  pub length-open : length (open_words g) ≡ needed g
  unfolding needed open_words
  length-open = length-sheet (start_content g)

  open-agrees : (i : ℕ) → i < needed g → word (over (open_words g) old) i ≡ word (open_words g) i
  open-agrees i l = get_or-append (open_words g) (drop (length (open_words g)) old) 0 i (omega (arith, length-open))

  pub open_done : OpenDone g old (over (open_words g) old) (needed g)
  unfolding needed open_words
  open_done =
      let n = length-open in
      let same = length_over (open_words g) old (omega arith) in
      record {
        same_length = same;
        holds = holds-built g 1 _ (over (open_words g) old) (start-good g.p g.D g.N (length g.roots) (word g.lengths) (word g.roots) (powers g) (given-polynomial g) h) (omega arith) open-agrees;
        fills = words-end (over (open_words g) old) (start_content g) open-agrees;
        rest = drop_at (open_words g) (drop (length (open_words g)) old) (needed g) n ∙ ap (λ m. drop m old) n;
      }

  pub open-only : (new : List ℕ) → OpenDone g old new (needed g) → new ≡ over (open_words g) old
  open-only new d =
      let d' = open_done in
      let same : take (needed g) new ≡ take (needed g) (over (open_words g) old)
      = subst (λ n. take n new ≡ take n (over (open_words g) old)) d.fills (holds-unique g 1 new _ d.holds d'.holds) in
      sym (take-append-drop (needed g) new) ∙ ap₂ ◌++◌ same (d.rest ∙ sym d'.rest) ∙ take-append-drop (needed g) (over (open_words g) old)
