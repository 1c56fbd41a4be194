-- What `read` answers: its checks, and the outcome that follows.
-- Assumes nothing.
use mathlib.Core.Path.{◌≡◌, refl, sym, ap, ap₂, ◌∙◌, subst}
use mathlib.Core.Bool.{Bool, true, false, ◌||◌}
use mathlib.Core.List.{List, [], ◌∷◌}
use Prim.Native.Nat.{ℕ, ◌+◌, ◌-◌, ◌*◌, ◌≤◌, ◌<◌}
use native.Mathlib.Omega.{arith}
use borrow.Author.Tests.{lt-ltb, le-ltb, ltb-false}
use lib.Dec.{ltb}
use lib.ListN.{length}
use Rattle.std.specs.Prelude.{Some, None}
use Rattle.numbers.specs.Limits.{largest_width}
use Rattle.numbers.specs.One.{OneOutcome}
use Rattle.numbers.specs.Words.{word, over, outside, tabulate, choose}
use Rattle.numbers.specs.Refusals.{Check, check, judge, refusal, Outcome, accepted, refused, outcome_after, written, modulus_checks, width_check, room_check, Row, Verdict, Pass, Refuse}
use Rattle.numbers.proofs.WordsLaws.{true-false, length-tabulate, word-tabulate}
use Rattle.numbers.proofs.RefusalsLaws.{after-pass, after-refuse, take-check, skip-check, pass-check, pass-parts, none-judged, neither, inside, answer-refused, answer-done, Modulus, modulus-pass}
use Rattle.rows.specs.Rows.{table, rows_of}
use Rattle.rows.proofs.RowsLaws.{table-rows, table-ext, rows-below, row_fits}
use Rattle.formula.specs.Formula.{Sum, Reading, reads, unreadable}
use Rattle.formula.specs.Limits.{longest_text, deepest_brackets}
use Rattle.read.specs.Value.{sum_value, degree, sum_high}
use Rattle.formula.specs.internal.Scan.{bottom, lead, scan}
use Rattle.formula.specs.internal.Survey.{is_read, deepest, survey_of, survey_at, not_read, too_deep}
use Rattle.formula.proofs.CompleteLaws.{one-reading}
use Rattle.formula.proofs.FoundLaws.{scan-derives}
use Rattle.formula.proofs.SoundLaws.{scan-sound}
use Rattle.formula.proofs.DepthLaws.{depth_is}
use Rattle.read.specs.Read.{no_reading, reading_depth, read_degree, read_words, reading_checks, text_checks, read_checks, ReadOf}
use Rattle.read.specs.declared.Part.{Part}
use Rattle.read.specs.internal.Values.{Stored}
use Rattle.read.specs.internal.Parts.{SumPart}
use Rattle.read.proofs.ByteLaws.{whole_sum}
use Rattle.read.proofs.ElementLaws.{no_sign}
use Rattle.read.proofs.HighLaws.{or_left, or_right}
use Rattle.read.proofs.ValueLaws.{both_false, stored_some}

-- the reading that the scan finds
abbrev found : List ℕ → Reading
found s = scan (lead bottom) s

no-reading : (r : Reading) → is_read r ≡ false → no_reading r ≡ true
no-reading (reads f) e = true-false e
no-reading unreadable e = refl

a-reading : (r : Reading) → is_read r ≡ true → no_reading r ≡ false
a-reading (reads f) e = refl
a-reading unreadable e = true-false (sym e)

record Formula (r : Reading) : Type 0 where
  pub sum : Sum
  pub is : r ≡ reads sum

reading-is : (r : Reading) → no_reading r ≡ false → Formula r
reading-is (reads f) e = record { sum = f; is = refl }
reading-is unreadable e = true-false e

depth-of : (s : List ℕ) → is_read (found s) ≡ true → reading_depth (found s) ≡ deepest 0 0 s
depth-of s e =
    let f = reading-is (found s) (a-reading (found s) e) in
    ap reading_depth f.is ∙ sym (depth_is f.sum s (scan-sound f.sum s f.is))

-- what the survey says is what checks 17 and 18 come to
survey-judged : (s : List ℕ) → judge (reading_checks (length s) (found s)) ≡ survey_at s 0
unfolding survey_at survey_of
survey-judged s = go (ltb longest_text (length s)) refl (is_read (found s)) refl (ltb deepest_brackets (deepest 0 0 s)) refl ∙ sym whole
  where
    whole : survey_at s 0 ≡ survey_of s
    whole = ap (λ (b : Bool). choose b not_read (survey_of s)) (le-ltb (length s) 0 (omega arith))

    go : (a : Bool) → ltb longest_text (length s) ≡ a → (b : Bool) → is_read (found s) ≡ b → (c : Bool) → ltb deepest_brackets (deepest 0 0 s) ≡ c
        → judge (reading_checks (length s) (found s)) ≡ choose a not_read (choose b (choose c too_deep Pass) not_read)
    go true x b y c z = take-check (check 17 (ltb longest_text (length s) || no_reading (found s)) 0) (check 18 (ltb deepest_brackets (reading_depth (found s))) 0 ∷ []) (or_left (ltb longest_text (length s)) (no_reading (found s)) x)
    go false x false y c z = take-check (check 17 (ltb longest_text (length s) || no_reading (found s)) 0) (check 18 (ltb deepest_brackets (reading_depth (found s))) 0 ∷ []) (or_right (ltb longest_text (length s)) (no_reading (found s)) (no-reading (found s) y))
    go false x true y true z =
        skip-check (check 17 (ltb longest_text (length s) || no_reading (found s)) 0) (check 18 (ltb deepest_brackets (reading_depth (found s))) 0 ∷ []) (both_false (ltb longest_text (length s)) (no_reading (found s)) x (a-reading (found s) y))
        ∙ take-check (check 18 (ltb deepest_brackets (reading_depth (found s))) 0) [] (ap (ltb deepest_brackets) (depth-of s y) ∙ z)
    go false x true y false z =
        skip-check (check 17 (ltb longest_text (length s) || no_reading (found s)) 0) (check 18 (ltb deepest_brackets (reading_depth (found s))) 0 ∷ []) (both_false (ltb longest_text (length s)) (no_reading (found s)) x (a-reading (found s) y))
        ∙ skip-check (check 18 (ltb deepest_brackets (reading_depth (found s))) 0) [] (ap (ltb deepest_brackets) (depth-of s y) ∙ z) ∙ none-judged

module _ (p N : ℕ) (s : List ℕ) where
  pub modulus-refused : (r : Row) → judge (modulus_checks p) ≡ Refuse r → judge (text_checks p N (length s) (found s)) ≡ Refuse r
  modulus-refused r e = after-refuse (modulus_checks p) (width_check N ∷ reading_checks (length s) (found s)) r e

  pub width-refused : judge (modulus_checks p) ≡ Pass → outside 1 largest_width N ≡ true → judge (text_checks p N (length s) (found s)) ≡ Refuse (refusal 4 0)
  width-refused m o = after-pass (modulus_checks p) (width_check N ∷ reading_checks (length s) (found s)) m ∙ take-check (width_check N) _ o

  pub text-judged : judge (modulus_checks p) ≡ Pass → outside 1 largest_width N ≡ false → judge (text_checks p N (length s) (found s)) ≡ survey_at s 0
  text-judged m o = after-pass (modulus_checks p) (width_check N ∷ reading_checks (length s) (found s)) m ∙ skip-check (width_check N) _ o ∙ survey-judged s

  -- what a pass says
  pub record Passed : Type 0 where
    pub modulus : Modulus p
    pub low : 1 ≤ N
    pub high : N ≤ largest_width
    pub short : length s ≤ longest_text
    pub sum : Sum
    pub is : found s ≡ reads sum

  pub text-passed : judge (text_checks p N (length s) (found s)) ≡ Pass → Passed
  text-passed e =
      let m = pass-parts (modulus_checks p) (width_check N ∷ reading_checks (length s) (found s)) e in
      let a = pass-check (width_check N) _ m.1 in
      let b = neither (ltb longest_text (length s)) (no_reading (found s)) (pass-check (check 17 (ltb longest_text (length s) || no_reading (found s)) 0) _ a.1).0 in
      let n = inside 1 largest_width N a.0 in
      let f = reading-is (found s) b.1 in
      record { modulus = modulus-pass p m.0; low = n.0; high = n.1; short = ltb-false longest_text (length s) b.0; sum = f.sum; is = f.is }

  module _ (old : List ℕ) where
    pub read-refused : (r : Row) → judge (text_checks p N (length s) (found s)) ≡ Refuse r → ReadOf p N s old (refused r.number r.detail) old
    read-refused r e =
        let v : judge (read_checks p N (length s) (found s) (length old)) ≡ Refuse r = after-refuse (text_checks p N (length s) (found s)) _ r e in
        let a = answer-refused r (read_degree p N (found s)) (over (read_words p N (found s)) old) old v in
        record { reading = found s; derived = scan-derives s; answers = a.answer; leaves = a.words }

    module _ (pass : judge (text_checks p N (length s) (found s)) ≡ Pass) (f : Sum) (e : found s ≡ reads f) where
      nineteen : Check
      nineteen = check 19 (sum_high p N f) 0

      goes_on : judge (read_checks p N (length s) (reads f) (length old)) ≡ judge (nineteen ∷ room_check (length old) ((degree N (sum_value p f) + 1) * N) ∷ [])
      unfolding nineteen
      goes_on = after-pass (text_checks p N (length s) (reads f)) _ (subst (λ (r : Reading). judge (text_checks p N (length s) r) ≡ Pass) e pass)

      high_read : sum_high p N f ≡ true → ReadOf p N s old (refused 19 0) old
      unfolding nineteen
      high_read h =
          let a = answer-refused (refusal 19 0) (read_degree p N (reads f)) (over (read_words p N (reads f)) old) old (goes_on ∙ take-check nineteen _ h) in
          record { reading = reads f; derived = scan-sound f s e; answers = a.answer; leaves = a.words }

      low-judged : sum_high p N f ≡ false → judge (read_checks p N (length s) (reads f) (length old)) ≡ judge (room_check (length old) ((degree N (sum_value p f) + 1) * N) ∷ [])
      unfolding nineteen
      low-judged h = goes_on ∙ skip-check nineteen _ h

-- the words of the first rows of what is stored
stored-table : (p n : ℕ) (f : Sum) (w : List ℕ) (rows : ℕ) → Stored p n (sum_value p f) w rows → tabulate (rows * n) (word w) ≡ table (degree n (sum_value p f) + 1) n (sum_value p f).row
stored-table p n f w rows k =
    let S = tabulate (rows * n) (word w) in
    let l = k.low in
    sym (table-rows S rows n (length-tabulate (rows * n) (word w)))
    ∙ table-ext rows n (rows_of S n rows) (sum_value p f).row (λ j t h g.
    let z = row_fits j rows n h in
    rows-below S n rows j t h ∙ word-tabulate (rows * n) (word w) (j * n + t) (omega arith) ∙ k.words j t (omega arith) g)
    ∙ ap (λ (x : ℕ). table x n (sum_value p f).row) k.rows_are

-- 10, or the words
module _ (words answer : ℕ) (w old : List ℕ) where
  pub handed-none : length old < words → record {
    answer : ◌≡◌ {A = Outcome ℕ} (refused 10 words) (outcome_after (judge (room_check (length old) words ∷ [])) answer);
    words : old ≡ written (judge (room_check (length old) words ∷ [])) (over (tabulate words (word w)) old) old;
  }
  handed-none l = answer-refused (refusal 10 words) answer (over (tabulate words (word w)) old) old (take-check (room_check (length old) words) [] (lt-ltb (length old) words l))

  pub handed-all : words ≤ length old → (new : List ℕ) → new ≡ over (tabulate words (word w)) old
      → record {
        answer : ◌≡◌ {A = Outcome ℕ} (accepted answer) (outcome_after (judge (room_check (length old) words ∷ [])) answer);
        words : new ≡ written (judge (room_check (length old) words ∷ [])) (over (tabulate words (word w)) old) old;
      }
  handed-all l new e =
      answer-done (λ m. tabulate m (word w)) words words answer old new (skip-check (room_check (length old) words) [] (le-ltb (length old) words l) ∙ none-judged) e refl

-- what the reader of sums answered for the whole text
pub record Known (p N : ℕ) (s w : List ℕ) (rows : ℕ) : Type 0 where
  pub sum : Sum
  pub is : found s ≡ reads sum
  pub stored : Stored p N (sum_value p sum) w rows
  pub low : sum_high p N sum ≡ false
  pub some : 1 ≤ rows

module _ (p N : ℕ) (s : List ℕ) (pass : judge (text_checks p N (length s) (found s)) ≡ Pass) where
  pub read-nothing : (old w : List ℕ) → SumPart p N s lead 0 None w → ReadOf p N s old (refused 19 0) old
  read-nothing old w h =
      let g = text-passed p N s pass in
      high_read p N s old pass g.sum g.is (h bottom g.sum g.is)

  pub read_known : (w : List ℕ) (r : Part) → SumPart p N s lead 0 (Some r) w → Known p N s w r.rows
  read_known w r (k, ended) =
      let g = text-passed p N s pass in
      let q : k.tree ≡ g.sum = whole_sum s r.at k.tree g.sum k.went.fits k.solid k.ends (no_sign s r.at ended) (sym (k.passes bottom) ∙ g.is) in
      record {
        sum = g.sum;
        is = g.is;
        stored = subst (λ (f : Sum). Stored p N (sum_value p f) w r.rows) q k.stored;
        low = subst (λ (f : Sum). sum_high p N f ≡ false) q k.low;
        some = stored_some k.stored;
      }

  -- its rows are handed over
  pub read_done : (old w new : List ℕ) (rows : ℕ) (a : Outcome ℕ) → Known p N s w rows → a ≡ outcome_after (judge (room_check (length old) (rows * N) ∷ [])) (rows - 1)
      → new ≡ written (judge (room_check (length old) (rows * N) ∷ [])) (over (tabulate (rows * N) (word w)) old) old → ReadOf p N s old a new
  read_done old w new rows a k e l =
      let r = k.stored.rows_are in
      let v : judge (room_check (length old) (rows * N) ∷ []) ≡ judge (read_checks p N (length s) (reads k.sum) (length old)) =
      ap (λ (x : ℕ). judge (room_check (length old) (x * N) ∷ [])) r ∙ sym (low-judged p N s old pass k.sum k.is k.low) in
      let d : rows - 1 ≡ degree N (sum_value p k.sum) = omega arith in
      record {
        reading = reads k.sum;
        derived = scan-sound k.sum s k.is;
        answers = e ∙ ap (λ (x : Verdict). outcome_after x (rows - 1)) v ∙ ap (outcome_after (judge (read_checks p N (length s) (reads k.sum) (length old)))) d;
        leaves = l ∙ ap (λ (x : Verdict). written x (over (tabulate (rows * N) (word w)) old) old) v
            ∙ ap (λ (x : List ℕ). written (judge (read_checks p N (length s) (reads k.sum) (length old))) (over x old) old) (stored-table p N k.sum w rows k.stored);
      }

-- every call has exactly one answer and one content of the slice
pub read_one : (p N : ℕ) (s old : List ℕ) → OneOutcome (ReadOf p N s old)
read_one p N s old =
    let v = judge (read_checks p N (length s) (found s) (length old)) in (
      (outcome_after v (read_degree p N (found s)), written v (over (read_words p N (found s)) old) old),
      record {
        is = record { reading = found s; derived = scan-derives s; answers = refl; leaves = refl };
        only = λ y h.
            let q = one-reading h.reading (found s) s h.derived (scan-derives s) in
            ap₂ (λ a w. (a, w))
            (h.answers ∙ ap (λ (r : Reading). outcome_after (judge (read_checks p N (length s) r (length old))) (read_degree p N r)) q)
            (h.leaves ∙ ap (λ (r : Reading). written (judge (read_checks p N (length s) r (length old))) (over (read_words p N r) old) old) q);
      },
    )
