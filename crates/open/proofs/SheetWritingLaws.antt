-- A fresh sheet, part after part.
--   open-fresh, ready-fresh                 with the powers found these are the words that open writes, with what it knows
--   count_small                             the number of the roots is small
--   front-written                           the header and the lengths
--   Begun                                   what is known before the first part is written
--   roots-part, factors-part                the length of the part that a call is lent
--   sheet-written                           what stands there after the last one
--   total-small                             T fits a word
--   finished-short, finished-done           the answer and the words, by the room that there is
-- Assumes nothing.
use Prim.Native.Nat.{ℕ, zero, suc, ◌+◌, ◌-◌, ◌*◌, ◌≤◌, ◌<◌}
use native.Mathlib.Nat.{add-mul}
use native.Mathlib.Omega.{arith}
use mathlib.Core.Path.{◌≡◌, refl, sym, ◌∙◌, ap, ap₂, subst}
use mathlib.Core.Option.{some}
use mathlib.Core.List.{List, [], ◌++◌, append_assoc}
use borrow.Author.Tests.{lt-ltb}
use lib.ListN.{length, take, drop, length-append, length-drop}
use lib.Seq.{length-take-le}
use Rattle.algebra.specs.Sums.{sum_to}
use Rattle.algebra.proofs.SumsLaws.{sum_to-count}
use Rattle.numbers.specs.Words.{word, tabulate, over, least}
use Rattle.numbers.proofs.WordsLaws.{Writing, writing-part, length_over, over-whole}
use Rattle.numbers.specs.Limits.{largest_degree, largest_width}
use Rattle.numbers.specs.Refusals.{refusal, Outcome, accepted, refused, outcome_after, written, room_check, Pass}
use Rattle.numbers.proofs.RefusalsLaws.{take-check, answer-refused}
use Rattle.rows.specs.Rows.{rows_of, table}
use Rattle.rows.proofs.RowsLaws.{rows-below, length-table, table-ext, table-rows}
use Rattle.columns.proofs.ColumnLaws.{tabulate-words}
use Rattle.layout.specs.Layout.{lengths_from, roots_from, polynomial_from, factors_from, total, header_of}
use Rattle.layout.specs.internal.Places.{root_table}
use Rattle.layout.proofs.PlacesLaws.{all-rows-small}
use Rattle.sheet.specs.Sheet.{Given, given-polynomial}
use Rattle.sheet.specs.internal.Content.{size, entry, sheet_words}
use Rattle.open.specs.Open.{powers_of, needed}
use Rattle.open.specs.internal.Writing.{front_words, degree_of, factor_table, fresh_content, fresh_words, FreshReady, room_verdict, Finished}
use Rattle.open.proofs.OpenSplitLaws.{room-pass}
use Rattle.open.proofs.OpeningLaws.{or_nil, GivenReady, open_words}

-- with the powers found
pub open-fresh : (g : Given) (l : List ℕ) → powers_of g ≡ some l → open_words g ≡ fresh_words g l
unfolding open_words fresh_words
open-fresh g l e = ap (λ o. sheet_words (fresh_content g (or_nil o))) e

pub ready-fresh : (g : Given) (l : List ℕ) → powers_of g ≡ some l → GivenReady g → FreshReady g l
ready-fresh g l e h = subst (λ o. FreshReady g (or_nil o)) e h

pub count_small : (g : Given) (powers : List ℕ) → FreshReady g powers → length g.roots ≤ largest_degree
count_small g powers h =
    let a = h.splits.degree in
    let b = h.degree-high in
    omega (arith, sum_to-count (length g.roots) (word powers) h.splits.powers)

-- `&mut s[a..b]`
lent : (s : List ℕ) (a b : ℕ) → a ≤ b → b ≤ length s → length (take (b - a) (drop a s)) ≡ b - a
lent s a b l g = length-take-le (b - a) (drop a s) (omega (arith, length-drop a s))

-- the header, and the lengths after it
pub front-written : (p D N r : ℕ) (lengths old e y : List ℕ) (o m : ℕ) → length lengths ≡ D → roots_from D ≤ length old → o ≡ roots_from D → m ≡ least N (length lengths) (word lengths)
    → e ≡ over (header_of p D N 1 r m) old → y ≡ over lengths (take (o - lengths_from) (drop lengths_from e))
    → take lengths_from e ++ (y ++ drop (o - lengths_from) (drop lengths_from e)) ≡ over (front_words p D N r lengths) old
front-written p D N r lengths old e y o m n fits is em q w =
    let H = header_of p D N 1 r m in
    let z : Writing H old e = record { is = q; long = ap length q ∙ length_over H old (omega arith) } in
    let l = z.long in
    let long : length lengths ≡ o - lengths_from = omega arith in
    ap (λ (x : List ℕ). take lengths_from e ++ (x ++ drop (o - lengths_from) (drop lengths_from e))) (w ∙ over-whole lengths _ (long ∙ sym (lent e lengths_from o (omega arith) (omega arith))))
    ∙ (writing-part H lengths old e lengths_from (o - lengths_from) z refl long (omega arith)).is
    ∙ ap (λ k. over (header_of p D N 1 r k ++ lengths) old) (em ∙ ap (λ k. least N k (word lengths)) n)

-- three of its four parts; the rows given are the other one
abbrev fresh_front : Given → List ℕ
fresh_front g = front_words g.p g.D g.N (length g.roots) g.lengths

abbrev fresh_roots : Given → List ℕ → List ℕ
fresh_roots g powers = table (length g.roots) 2 (root_table g.roots powers)

abbrev fresh_factors : Given → List ℕ → List ℕ
fresh_factors g powers = table (degree_of powers) g.N (factor_table g.p g.roots powers)

-- what is known before the first part is written over old: the roots begin at o, the polynomial at a, the factors at b
pub record Begun (g : Given) (powers old : List ℕ) (T o a b : ℕ) : Type 0 where
  pub ready : FreshReady g powers
  pub long-rows : length g.rows ≡ (g.D + 1) * g.N
  pub long-lengths : length g.lengths ≡ g.D
  pub same : length powers ≡ length g.roots
  pub total : T ≡ size (fresh_content g powers)
  pub fits : T ≤ length old
  pub roots : o ≡ roots_from g.D
  pub polynomial : a ≡ polynomial_from g.D (length g.roots)
  pub factors : b ≡ factors_from g.D g.N (length g.roots)

module _ {g : Given} {powers old : List ℕ} {T o a b : ℕ} (h : Begun g powers old T o a b) where
  degree-is : degree_of powers ≡ g.D
  degree-is = ap (λ n. sum_to n (word powers)) h.same ∙ h.ready.splits.degree

  pub degree-small : degree_of powers ≤ largest_degree
  degree-small = let d = h.ready.degree-high in omega (arith, degree-is)

  entries-same : (i t : ℕ) → entry (fresh_content g powers) i t ≡ root_table g.roots powers i t
  entries-same i zero = refl
  entries-same i (suc t) = refl

  rows_same : table (g.D + 1) g.N (given-polynomial g) ≡ g.rows
  rows_same =
      table-ext (g.D + 1) g.N (given-polynomial g) (rows_of g.rows g.N (g.D + 1)) (λ j t l _.
      ap (word g.rows) (let z : 0 + j * g.N + t ≡ j * g.N + t = omega arith in z) ∙ sym (rows-below g.rows g.N (g.D + 1) j t l))
      ∙ table-rows g.rows (g.D + 1) g.N h.long-rows

  abbrev header : List ℕ
  header = header_of g.p g.D g.N 1 (length g.roots) (least g.N g.D (word g.lengths))

  abbrev others : List ℕ
  others = table (length g.roots) 2 (entry (fresh_content g powers)) ++ (table (g.D + 1) g.N (given-polynomial g) ++ table g.D g.N (factor_table g.p g.roots powers))

  lengths-same : tabulate g.D (word g.lengths) ≡ g.lengths
  lengths-same = ap (λ n. tabulate n (word g.lengths)) (sym h.long-lengths) ∙ tabulate-words g.lengths

  fresh-is : fresh_words g powers ≡ fresh_front g ++ (fresh_roots g powers ++ (g.rows ++ fresh_factors g powers))
  unfolding fresh_words sheet_words
  fresh-is =
      ap (λ (x : List ℕ). header ++ (x ++ others)) lengths-same ∙ sym (append_assoc header g.lengths others)
      ∙ ap₂ (λ (x y : List ℕ). fresh_front g ++ (x ++ y))
      (table-ext (length g.roots) 2 (entry (fresh_content g powers)) (root_table g.roots powers) (λ i t _ _. entries-same i t))
      (ap₂ ◌++◌ rows_same (ap (λ D. table D g.N (factor_table g.p g.roots powers)) (sym degree-is)))

  -- the factors' rows end the sheet
  sheet-end : T ≡ b + g.D * g.N
  sheet-end =
      let z : (2 * g.D + 1) * g.N ≡ (g.D + 1) * g.N + g.D * g.N
      = ap (λ x. x * g.N) (let y : 2 * g.D + 1 ≡ g.D + 1 + g.D = omega arith in y) ∙ add-mul (g.D + 1) g.D g.N in
      let t = h.total in let e = h.factors in
      omega arith

  factors-long : length (fresh_factors g powers) ≡ T - b
  factors-long =
      let x = sheet-end in let v : degree_of powers * g.N ≡ g.D * g.N = ap (λ x. x * g.N) degree-is in
      length-table (degree_of powers) g.N (factor_table g.p g.roots powers) ∙ (let w : degree_of powers * g.N ≡ T - b = omega arith in w)

  -- where the parts begin
  starts : (length (fresh_front g) ≡ o) × (a ≡ o + length g.roots * 2) × (b ≡ a + length g.rows) × (b ≤ T) × (T ≤ length old)
  starts =
      let x = sheet-end in let p = h.polynomial in let e = h.factors in let l = h.long-rows in let f = h.roots in let n = h.long-lengths in
      (length-append header g.lengths ∙ (let w : lengths_from + length g.lengths ≡ o = omega arith in w), omega arith, omega arith, omega arith, h.fits)

  front₂ : length (fresh_front g ++ fresh_roots g powers) ≡ a
  front₂ =
      let s = starts in let y = length-table (length g.roots) 2 (root_table g.roots powers) in
      length-append (fresh_front g) (fresh_roots g powers) ∙ (let w : length (fresh_front g) + length (fresh_roots g powers) ≡ a = omega arith in w)

  front₃ : length ((fresh_front g ++ fresh_roots g powers) ++ g.rows) ≡ b
  front₃ =
      let s = starts in let x = front₂ in
      length-append (fresh_front g ++ fresh_roots g powers) g.rows ∙ (let w : length (fresh_front g ++ fresh_roots g powers) + length g.rows ≡ b = omega arith in w)

  module _ (e₁ : List ℕ) (q₁ : e₁ ≡ over (fresh_front g) old) where
    written₁ : Writing (fresh_front g) old e₁
    written₁ = let s = starts in record { is = q₁; long = ap length q₁ ∙ length_over (fresh_front g) old (omega arith) }

    pub roots-part : length (take (a - o) (drop o e₁)) ≡ length g.roots * 2
    roots-part = let s = starts in let z = written₁.long in lent e₁ o a (omega arith) (omega arith) ∙ (let w : a - o ≡ length g.roots * 2 = omega arith in w)

    module _ (y₂ : List ℕ) (q₂ : y₂ ≡ fresh_roots g powers) where
      abbrev e₂ : List ℕ
      e₂ = take o e₁ ++ (y₂ ++ drop (a - o) (drop o e₁))

      written₂ : Writing (fresh_front g ++ fresh_roots g powers) old e₂
      written₂ =
          let s = starts in
          subst (λ (l : List ℕ). Writing (fresh_front g ++ fresh_roots g powers) old (take o e₁ ++ (l ++ drop (a - o) (drop o e₁)))) (sym q₂)
          (writing-part (fresh_front g) (fresh_roots g powers) old e₁ o (a - o) written₁ starts.0
          (length-table (length g.roots) 2 (root_table g.roots powers) ∙ (let w : length g.roots * 2 ≡ a - o = omega arith in w)) (omega arith))

      rows-part : length (take (b - a) (drop a e₂)) ≡ length g.rows
      rows-part = let s = starts in let z = written₂.long in lent e₂ a b (omega arith) (omega arith) ∙ (let w : b - a ≡ length g.rows = omega arith in w)

      module _ (y₃ : List ℕ) (q₃ : y₃ ≡ over g.rows (take (b - a) (drop a e₂))) where
        abbrev e₃ : List ℕ
        e₃ = take a e₂ ++ (y₃ ++ drop (b - a) (drop a e₂))

        written₃ : Writing ((fresh_front g ++ fresh_roots g powers) ++ g.rows) old e₃
        written₃ =
            let s = starts in
            subst (λ (l : List ℕ). Writing ((fresh_front g ++ fresh_roots g powers) ++ g.rows) old (take a e₂ ++ (l ++ drop (b - a) (drop a e₂))))
            (sym (q₃ ∙ over-whole g.rows (take (b - a) (drop a e₂)) (sym rows-part)))
            (writing-part (fresh_front g ++ fresh_roots g powers) g.rows old e₂ a (b - a) written₂ front₂ (let w : length g.rows ≡ b - a = omega arith in w) (omega arith))

        pub factors-part : length (take (T - b) (drop b e₃)) ≡ degree_of powers * g.N
        factors-part =
            let s = starts in let z = written₃.long in
            lent e₃ b T (omega arith) (omega arith) ∙ sym factors-long ∙ length-table (degree_of powers) g.N (factor_table g.p g.roots powers)

        pub sheet-written : (y₄ : List ℕ) → y₄ ≡ fresh_factors g powers → take b e₃ ++ (y₄ ++ drop (T - b) (drop b e₃)) ≡ over (fresh_words g powers) old
        sheet-written y₄ q₄ =
            let s = starts in
            ap (λ (l : List ℕ). take b e₃ ++ (l ++ drop (T - b) (drop b e₃))) q₄
            ∙ (writing-part ((fresh_front g ++ fresh_roots g powers) ++ g.rows) (fresh_factors g powers) old e₃ b (T - b) written₃ front₃ factors-long (omega arith)).is
            ∙ ap (λ (l : List ℕ). over l old) (append_assoc (fresh_front g ++ fresh_roots g powers) g.rows (fresh_factors g powers)
            ∙ append_assoc (fresh_front g) (fresh_roots g powers) (g.rows ++ fresh_factors g powers) ∙ sym fresh-is)

-- T fits a word
pub total-small : (D N r : ℕ) → D ≤ largest_degree → N ≤ largest_width → r ≤ largest_degree → total D N r < 4294967296
total-small D N r d n k = omega (arith, all-rows-small (2 * D + 1) N (omega arith) n)

-- the end: no room, and room
module _ (g : Given) (powers old : List ℕ) (T : ℕ) (is : T ≡ needed g) where
  pub finished-short : (a : Outcome ℕ) → a ≡ refused 10 T → length old < T → Finished g powers old a old
  finished-short a q l =
      let z = answer-refused {v = room_verdict g old} (refusal 10 (needed g)) (needed g) (over (fresh_words g powers) old) old
      (take-check (room_check (length old) (needed g)) [] (lt-ltb (length old) (needed g) (omega arith))) in
      record { answers = q ∙ ap (refused 10) is ∙ z.answer; leaves = z.words }

  pub finished-done : (new : List ℕ) → new ≡ over (fresh_words g powers) old → T ≤ length old → Finished g powers old (accepted T) new
  finished-done new q l =
      let v : room_verdict g old ≡ Pass = room-pass (length old) (needed g) (omega arith) in
      record { answers = ap accepted is ∙ sym (ap (λ v. outcome_after v (needed g)) v); leaves = q ∙ sym (ap (λ v. written v (over (fresh_words g powers) old) old) v) }
