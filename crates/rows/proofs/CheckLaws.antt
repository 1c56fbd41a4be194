-- What a pass says of two row polynomials, refusals 6 and 10 of the shift, whose number stands after the coefficients, and the answers that follow.
-- Assumes nothing.
use mathlib.Core.Path.{◌≡◌, ◌∙◌}
use mathlib.Core.List.{List, [], ◌∷◌}
use Prim.Native.Nat.{ℕ, ◌+◌, ◌*◌, ◌<◌, ◌≤◌}
use native.Mathlib.Omega.{arith}
use borrow.Author.Tests.{le-leb, lt-leb, lt-ltb, le-ltb}
use lib.Dec.{leb}
use lib.ListN.{length}
use Rattle.numbers.specs.internal.Limits.{modulus_bound}
use Rattle.numbers.specs.Limits.{most_rows, largest_degree, largest_width}
use Rattle.numbers.specs.Words.{over}
use Rattle.numbers.specs.internal.Facts.{AllBelow}
use Rattle.numbers.specs.Refusals.{Check, check, judge, refusal, input_checks, room_check, Outcome, accepted, outcome_after, written, Pass, Refuse}
use Rattle.numbers.proofs.RefusalsLaws.{Modulus, after-pass, take-check, skip-check, none-judged, operation-pass, inputs-fine, few_words, answer-done}
use Rattle.rows.specs.Rows.{rows_checks, shift_checks}

-- what a pass says of two polynomials with the same number of rows
module _ (p D N : ℕ) (f g : List ℕ) (room : ℕ) (e : judge (rows_checks p D N f g room) ≡ Pass) where
  pub rows-ready : (1 ≤ p) × (p < modulus_bound) × (length g ≡ length f) × (length f ≤ room) × AllBelow p f × AllBelow p g
  rows-ready =
      let o = operation-pass p N f (D + 1) g (D + 1) (D + 1) room e in
      (omega arith, omega arith, omega arith, omega arith, o.inputs.f-below, o.inputs.g-below)

  pub rows-small : (D + 1 ≤ most_rows) × ((D + 1) * N ≤ 8448)
  rows-small =
      let o = operation-pass p N f (D + 1) g (D + 1) (D + 1) room e in
      (o.inputs.high, few_words (D + 1) N o.inputs.high o.inputs.width-high)

  -- the answer, where a kernel wrote as many words as f has
  pub rows-done : (F : ℕ → List ℕ) (old out : List ℕ) → out ≡ over (F (length f)) old
      → record {
        answer : ◌≡◌ {A = Outcome ℕ} (accepted ((D + 1) * N)) (outcome_after (judge (rows_checks p D N f g room)) ((D + 1) * N));
        words : out ≡ written (judge (rows_checks p D N f g room)) (over (F ((D + 1) * N)) old) old;
      }
  rows-done F old out w = answer-done F (length f) ((D + 1) * N) ((D + 1) * N) old out e w (operation-pass p N f (D + 1) g (D + 1) (D + 1) room e).inputs.f-long

-- the shift, where checks 1 to 6 pass for its coefficients
module _ (p D N : ℕ) (f : List ℕ) (c room : ℕ) (e : judge (input_checks p N f (D + 1) [] 0 (D + 1)) ≡ Pass) where
  abbrev number : Check
  number = check 6 (leb p c) ((D + 1) * N)

  abbrev space : Check
  space = room_check room ((D + 1) * N)

  pub number-refused : p ≤ c → judge (shift_checks p D N f c room) ≡ Refuse (refusal 6 ((D + 1) * N))
  number-refused h = after-pass (input_checks p N f (D + 1) [] 0 (D + 1)) (number ∷ space ∷ []) e ∙ take-check number (space ∷ []) (le-leb p c h)

  past-number : c < p → judge (shift_checks p D N f c room) ≡ judge (space ∷ [])
  past-number h = after-pass (input_checks p N f (D + 1) [] 0 (D + 1)) (number ∷ space ∷ []) e ∙ skip-check number (space ∷ []) (lt-leb p c h)

  pub space-refused : c < p → room < (D + 1) * N → judge (shift_checks p D N f c room) ≡ Refuse (refusal 10 ((D + 1) * N))
  space-refused h l = past-number h ∙ take-check space [] (lt-ltb room ((D + 1) * N) l)

  pub shift-passed : c < p → (D + 1) * N ≤ room → judge (shift_checks p D N f c room) ≡ Pass
  shift-passed h l = past-number h ∙ skip-check space [] (le-ltb room ((D + 1) * N) l) ∙ none-judged

-- so the shift accepts a polynomial of the right size, below p, in just its own room
pub shift-fine : (p D N : ℕ) (f : List ℕ) (c : ℕ) → Modulus p → D ≤ largest_degree → 1 ≤ N → N ≤ largest_width → length f ≡ (D + 1) * N → AllBelow p f → c < p
    → judge (shift_checks p D N f c ((D + 1) * N)) ≡ Pass
shift-fine p D N f c modulus degree low high long below l =
    shift-passed p D N f c ((D + 1) * N) (inputs-fine p N f (D + 1) [] 0 (D + 1) (record {
      modulus = modulus;
      f-high = omega arith;
      g-high = omega arith;
      high = omega arith;
      width_low = low;
      width-high = high;
      f-long = long;
      g-long = omega arith;
      f-below = below;
      g-below = λ k u. absurd (let z : ⊥ = omega arith in z);
    })) l (omega arith)
