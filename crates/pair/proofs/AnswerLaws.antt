-- What `pair` answers and leaves.
--   pair-pass, pass-pair        the checks pass exactly where the input is one to be worked
--   given-of                    what the lift wants, from the checks
--   lifted-done                 the pair's words over the first of the output are what an accepted call leaves
--   done-unique, done-keeps     continuing and starting agree; only columns h..w − 1 change
-- Assumes nothing.
use Prim.Native.Nat.{ℕ, zero, ◌+◌, ◌*◌, ◌≤◌, ◌<◌}
use native.Mathlib.Omega.{arith}
use mathlib.Core.Path.{◌≡◌, sym, ap, ◌∙◌}
use mathlib.Core.Bool.{Bool, not}
use mathlib.Core.List.{List, [], ◌∷◌, ◌++◌}
use mathlib.Core.Logic.{◌⊎◌, ⊎_elim}
use borrow.Author.Tests.{ltb-false, le-ltb, not-false}
use lib.Dec.{ltb}
use lib.ListN.{length, take, drop, length-append, length-drop, get_or-append}
use lib.Seq.{drop_at, get_or-take, length-take-le}
use Rattle.algebra.specs.Prime.{Prime}
use Rattle.numbers.specs.Words.{word}
use Rattle.numbers.specs.internal.Facts.{Decides}
use Rattle.numbers.specs.Refusals.{Check, check, judge, operation_checks, beyond_check, behind_check, Pass}
use Rattle.numbers.proofs.TestsLaws.{decided-test}
use Rattle.numbers.proofs.RefusalsLaws.{pass-parts, pass-check, after-pass, skip-check, none-judged, inside, within, Operation, operation-pass}
use Rattle.rows.proofs.RowsLaws.{row_fits, by_row}
use Rattle.pair.specs.Pair.{order, PairWords}
use Rattle.pair.specs.Paired.{held, pair_checks, PairDone}
use Rattle.pair.specs.Test.{pair_test}
use Rattle.pair.specs.internal.Lifting.{PairGiven}
use Rattle.pair.proofs.TestLaws.{held-words, words-held}
use Rattle.pair.proofs.PairWordsLaws.{pair-test, test-pair, pair-passes, words-ext, words_same, words-unique, words-agree}

-- the checks after refusals 1 to 10
abbrev pub flat_check : (D N : ℕ) (f : List ℕ) → Check
flat_check D N f = check 11 (ltb D (order D N f)) 0

abbrev pub held_check : (p D N : ℕ) (f : List ℕ) (h : ℕ) (old : List ℕ) → Check
held_check p D N f h old = check 13 (not (held p D N f h old)) 0

pub record PairInput (p D N : ℕ) (f : List ℕ) (h w : ℕ) (old : List ℕ) : Type 0 where
  pub operates : judge (operation_checks p N f (D + 1) [] 0 (D + 1) (length old)) ≡ Pass
  pub bound : order D N f ≤ D
  pub words : 1 ≤ h → PairWords p D N f h old
  pub low : 1 ≤ w
  pub high : w ≤ N
  pub upto : h ≤ w

pub operation-of : {p D N : ℕ} {f : List ℕ} {h w : ℕ} {old : List ℕ} → PairInput p D N f h w old → Operation p N f (D + 1) [] 0 (D + 1) (length old)
operation-of {p} {D} {N} {f} {h} {w} {old} i = operation-pass p N f (D + 1) [] 0 (D + 1) (length old) i.operates

module _ (p D N : ℕ) (f : List ℕ) (h w : ℕ) (old : List ℕ) where
  abbrev c₁₁ : Check
  c₁₁ = flat_check D N f

  abbrev c₁₃ : Check
  c₁₃ = held_check p D N f h old

  abbrev c₁₄ : Check
  c₁₄ = beyond_check N w

  abbrev c₁₅ : Check
  c₁₅ = behind_check h w

  -- the checks that are left, where those before have passed
  pub past-10 : judge (operation_checks p N f (D + 1) [] 0 (D + 1) (length old)) ≡ Pass → judge (pair_checks p D N f h w old) ≡ judge (c₁₁ ∷ c₁₃ ∷ c₁₄ ∷ c₁₅ ∷ [])
  past-10 e = after-pass (operation_checks p N f (D + 1) [] 0 (D + 1) (length old)) (c₁₁ ∷ c₁₃ ∷ c₁₄ ∷ c₁₅ ∷ []) e

  pub past-11 : judge (operation_checks p N f (D + 1) [] 0 (D + 1) (length old)) ≡ Pass → order D N f ≤ D → judge (pair_checks p D N f h w old) ≡ judge (c₁₃ ∷ c₁₄ ∷ c₁₅ ∷ [])
  past-11 e b = past-10 e ∙ skip-check c₁₁ (c₁₃ ∷ c₁₄ ∷ c₁₅ ∷ []) (le-ltb D (order D N f) b)

  pub pair-pass : judge (pair_checks p D N f h w old) ≡ Pass → PairInput p D N f h w old
  pair-pass e =
      let m = pass-parts (operation_checks p N f (D + 1) [] 0 (D + 1) (length old)) (c₁₁ ∷ c₁₃ ∷ c₁₄ ∷ c₁₅ ∷ []) e in
      let a = pass-check c₁₁ (c₁₃ ∷ c₁₄ ∷ c₁₅ ∷ []) m.1 in
      let b = pass-check c₁₃ (c₁₄ ∷ c₁₅ ∷ []) a.1 in
      let c = pass-check c₁₄ (c₁₅ ∷ []) b.1 in
      let d = pass-check c₁₅ [] c.1 in
      let ws = inside 1 N w c.0 in
      let bound = ltb-false D (order D N f) a.0 in
      let prime = (operation-pass p N f (D + 1) [] 0 (D + 1) (length old) m.0).inputs.modulus.prime in
      record {
        operates = m.0;
        bound = bound;
        words = λ one. test-pair p D N f prime bound h one old (held-words p D N f h old (not-false _ b.0) one).1;
        low = ws.0;
        high = ws.1;
        upto = ltb-false w h d.0;
      }

  pub pass-pair : PairInput p D N f h w old → judge (pair_checks p D N f h w old) ≡ Pass
  pass-pair i =
      let prime = (operation-of i).inputs.modulus.prime in
      let high = i.high in
      let upto = i.upto in
      past-11 i.operates i.bound
      ∙ skip-check c₁₃ (c₁₄ ∷ c₁₅ ∷ []) (ap not (words-held p D N f h old (λ one. (omega arith, pair-passes p D N f prime i.bound h one old (i.words one)))))
      ∙ skip-check c₁₄ (c₁₅ ∷ []) (within 1 N w i.low high) ∙ skip-check c₁₅ [] (le-ltb w h upto) ∙ none-judged

pub given-of : {p D N : ℕ} {f : List ℕ} {d : ℕ} {room : ℕ} → Operation p N f (D + 1) [] 0 (D + 1) room → d ≡ order D N f → d ≤ D → PairGiven p D N f d
given-of o e b = record {
  prime = o.inputs.modulus.prime;
  small = o.inputs.modulus.small;
  degree-high = let h = o.inputs.high in omega arith;
  width_low = o.inputs.width_low;
  width-high = o.inputs.width-high;
  f-long = o.inputs.f-long;
  f-below = o.inputs.f-below;
  ordered = e;
  bound = b;
}

-- the first words of the output are lent to the lift
module _ (p D N : ℕ) (f : List ℕ) (h w : ℕ) (old : List ℕ) (i : PairInput p D N f h w old) where
  abbrev M : ℕ
  M = (D + 1) * N

  pub lent-long : length (take M old) ≡ M
  lent-long = length-take-le M old (operation-of i).roomy

  pub lent-held : 1 ≤ h → PairWords p D N f h (take M old)
  lent-held one =
      let high = i.high in let upto = i.upto in
      words-ext p D N f h old (take M old) one (omega arith) (λ j l t g. get_or-take M old (j * N + t) 0 (omega (arith, row_fits j (D + 1) N l))) (i.words one)

  pub lifted-done : (y : List ℕ) → length y ≡ M → PairWords p D N f w y → PairDone p D N f w old (y ++ drop M old)
  lifted-done y n g =
      let room = (operation-of i).roomy in
      record {
        long = length-append y (drop M old) ∙ omega (arith, length-drop M old);
        words = words-ext p D N f w y (y ++ drop M old) i.low i.high (λ j l t u. get_or-append y (drop M old) 0 (j * N + t) (omega (arith, row_fits j (D + 1) N l))) g;
        rest = drop_at y (drop M old) M n;
      }

-- words that are those of a pair worked out anew
pub worked-decides : (p D N : ℕ) (f : List ℕ) (h : ℕ) (s y : List ℕ) {b : Bool} → Prime p → 1 ≤ h → h ≤ N → length y ≡ (D + 1) * N → PairWords p D N f h y
    → Decides b ((i : ℕ) → i < length y → word y i ≡ word s i) → Decides b (PairWords p D N f h s)
worked-decides p D N f h s y prime one top n g d =
    record {
      yes = λ q. words-ext p D N f h y s one top (λ j l t u. sym (d.yes q (j * N + t) (omega (arith, row_fits j (D + 1) N l)))) g;
      no = λ q g''. d.no q (λ i l. by_row (D + 1) N (λ i. word y i ≡ word s i) (omega arith) (words_same p D N f prime h y s g g'') i (omega arith));
    }

-- the test, from the first words of s
pub pair-decided : (p D N : ℕ) (f : List ℕ) (h : ℕ) (s : List ℕ) {b : Bool} → Prime p → order D N f ≤ D → 1 ≤ h → h ≤ N → (D + 1) * N ≤ length s
    → Decides b (PairWords p D N f h (take ((D + 1) * N) s)) → b ≡ pair_test p D N f h s
pair-decided p D N f h s {b} prime bound one top room d =
    let at : (j : ℕ) → j < D + 1 → (t : ℕ) → t < N → word (take ((D + 1) * N) s) (j * N + t) ≡ word s (j * N + t) = λ j l t u. get_or-take ((D + 1) * N) s (j * N + t) 0 (omega (arith, row_fits j (D + 1) N l)) in
    decided-test b (pair_test p D N f h s) (pair-test p D N f prime bound h one s)
    (record {
      yes = λ q. words-ext p D N f h (take ((D + 1) * N) s) s one top (λ j l t u. sym (at j l t u)) (d.yes q);
      no = λ q g. d.no q (words-ext p D N f h s (take ((D + 1) * N) s) one top at g);
    })

-- Continuing to w gives word for word what starting to w gives: the pair's words are one.
pub done-unique : (p D N : ℕ) (f : List ℕ) (w : ℕ) (old new old' new' : List ℕ) → Prime p → zero < N → (D + 1) * N ≤ length old → (D + 1) * N ≤ length old'
    → PairDone p D N f w old new → PairDone p D N f w old' new' → take ((D + 1) * N) new ≡ take ((D + 1) * N) new'
done-unique p D N f w old new old' new' prime width l l' h h' =
    let e = h.long in
    let e' = h'.long in
    words-unique p D N f prime w new new' width h.words h'.words (omega arith) (omega arith)

-- Where h terms were there, only the columns h..w − 1 change.
pub done-keeps : (p D N : ℕ) (f : List ℕ) (h w : ℕ) (old new : List ℕ) → Prime p → h ≤ w → PairWords p D N f h old → PairDone p D N f w old new
    → (j : ℕ) → j < D + 1 → (t : ℕ) → t < N → (t < h) ⊎ (w ≤ t) → word new (j * N + t) ≡ word old (j * N + t)
done-keeps p D N f h w old new prime l before done j g t u =
    ⊎_elim (λ v. words-agree p D N f prime w h new old done.words before j g t (omega arith) v)
    (λ v. done.words.rest j g t v u ∙ sym (before.rest j g t (omega arith) u))
