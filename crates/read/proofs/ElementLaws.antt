-- Elements: what a reader answers where a number, a letter or a bracket stands, or none of these.
-- Assumes nothing.
use mathlib.Core.Path.{◌≡◌, refl, sym, ap, ◌∙◌, subst}
use mathlib.Core.Bool.{Bool, true, false}
use mathlib.Core.List.{List}
use Prim.Native.Nat.{ℕ, ◌+◌, ◌≤◌, ◌<◌}
use native.Mathlib.Omega.{arith}
use lib.ListN.{length, drop}
use Rattle.std.specs.Prelude.{Option, Some, None, option_map}
use Rattle.read.specs.declared.Sign.{Sign as Mark}
use Rattle.numbers.specs.Words.{choose}
use Rattle.numbers.proofs.WordsLaws.{true-false}
use Rattle.formula.specs.Formula.{number, letter_x, letter_y, bracket}
use Rattle.read.specs.Value.{the_x, the_y, element_value, element_high, sum_high}
use Rattle.formula.specs.internal.Scan.{kind_of, kind_at, by_kind, TermSoFar, SumSoFar, Stack, within, State, lead, operand, dead, sum_done, step, finish, scan}
use Rattle.formula.specs.declared.Kind.{Kind}
use Rattle.formula.specs.declared.Kind.TheVariants.{Blank, Digit, LetterX, LetterY, Plus, Minus, Star, Caret, Open, Close, Other}
use Rattle.formula.proofs.PlaceLaws.{is-inside, scan-kind, scan-other, scan-fails, is_other, not-other, other-is}
use Rattle.read.specs.declared.Part.{Part}
use Rattle.read.specs.internal.Places.{has_byte, sign_of, digit_of, Looked}
use Rattle.read.specs.internal.Values.{Stored}
use Rattle.read.specs.internal.Parts.{AllHigh, ElementRead, ElementPart, NumberPart, SumPart, then_at, past_sign, closed_part}
use Rattle.read.proofs.ByteLaws.{byte-there, no-close, close-sum, unclosed, never, none-some}
use Rattle.read.proofs.ValueLaws.{stored_low}

-- no sign follows
pub no_sign : (s : List ℕ) (next : ℕ) → past_sign s next ≡ None → sign_of (kind_at s next) ≡ None
no_sign s next e = go (sign_of (kind_at s next)) refl e
  where
    go : (o : Option Mark) → sign_of (kind_at s next) ≡ o → option_map (then_at next) o ≡ None → o ≡ None
    go (Some σ) b e = none-some (sym e)
    go None b e = refl

-- no element begins with it
abbrev no_element : Kind → Bool
no_element k = by_kind k false (λ d. false) false false true true true true false true true

none-steps : (k : Kind) → no_element k ≡ true → (u : TermSoFar) (c : SumSoFar) (κ : Stack) → step (operand u c κ) k ≡ dead
unfolding step
none-steps Blank e u c κ = true-false (sym e)
none-steps (Digit d) e u c κ = true-false (sym e)
none-steps LetterX e u c κ = true-false (sym e)
none-steps LetterY e u c κ = true-false (sym e)
none-steps Plus e u c κ = refl
none-steps Minus e u c κ = refl
none-steps Star e u c κ = refl
none-steps Caret e u c κ = refl
none-steps Open e u c κ = true-false (sym e)
none-steps Close e u c κ = refl
none-steps Other e u c κ = refl

no-element : (k : Kind) → (k ≡ LetterX → ⊥) → (k ≡ LetterY → ⊥) → digit_of k ≡ None → (k ≡ Blank → ⊥) → (k ≡ Open → ⊥) → no_element k ≡ true
no-element Blank x y d b o = absurd (b refl)
no-element (Digit i) x y d b o = none-some (sym d)
no-element LetterX x y d b o = absurd (x refl)
no-element LetterY x y d b o = absurd (y refl)
no-element Plus x y d b o = refl
no-element Minus x y d b o = refl
no-element Star x y d b o = refl
no-element Caret x y d b o = refl
no-element Open x y d b o = absurd (o refl)
no-element Close x y d b o = refl
no-element Other x y d b o = refl

begins-inside : (s : List ℕ) (at : ℕ) (k : Kind) → kind_at s at ≡ k → is_other k ≡ false → at < length s
begins-inside s at k e o = is-inside s at (λ z. not-other k o (sym e ∙ z))

module _ (p n : ℕ) (s : List ℕ) (at : ℕ) where
  -- the scan takes the first byte of an element
  starts : (k : Kind) → kind_at s at ≡ k → is_other k ≡ false → (u : TermSoFar) (c : SumSoFar) (κ : Stack) → scan (operand u c κ) (drop at s) ≡ scan (step (operand u c κ) k) (drop (at + 1) s)
  starts k e o u c κ = scan-kind s at (operand u c κ) k e (not-other k o)

  pub element-number : (d : ℕ) (r : Option Part) (w : List ℕ) → kind_at s at ≡ Digit d → NumberPart p n s (at + 1) d r w → ElementPart p n s at r w
  unfolding step element_value element_high
  element-number d (Some r) w e h = record {
    tree = number h.value;
    passes = λ u c κ. starts (Digit d) e refl u c κ ∙ h.passes u c κ;
    went = (let a = h.later in record { later = omega arith; fits = h.fits });
    stored = h.stored;
    low = stored_low h.stored;
  }
  element-number d None w e h = λ u c κ f r. h u c κ f (sym (starts (Digit d) e refl u c κ) ∙ r)

  pub element-x : (w : List ℕ) → kind_at s at ≡ LetterX → Stored p n (the_x p) w 1 → ElementRead p n s at (record { at = at + 1; rows = 1 }) w
  unfolding step element_value element_high
  element-x w e h =
      let l = begins-inside s at LetterX e refl in
      record { tree = letter_x; passes = λ u c κ. starts LetterX e refl u c κ; went = record { later = omega arith; fits = omega arith }; stored = h; low = stored_low h }

  pub element-y : (w : List ℕ) → kind_at s at ≡ LetterY → Stored p n (the_y p) w 2 → ElementRead p n s at (record { at = at + 1; rows = 2 }) w
  unfolding step element_value element_high
  element-y w e h =
      let l = begins-inside s at LetterY e refl in
      record { tree = letter_y; passes = λ u c κ. starts LetterY e refl u c κ; went = record { later = omega arith; fits = omega arith }; stored = h; low = stored_low h }

  pub element-none : at ≤ length s → (kind_at s at ≡ LetterX → ⊥) → (kind_at s at ≡ LetterY → ⊥) → digit_of (kind_at s at) ≡ None → (kind_at s at ≡ Blank → ⊥) → (kind_at s at ≡ Open → ⊥)
      → (u : TermSoFar) (c : SumSoFar) (κ : Stack) → AllHigh p n (operand u c κ) (drop at s)
  unfolding finish
  element-none l x y d b o u c κ f r = go (is_other (kind_at s at)) refl
    where
      stuck : step (operand u c κ) (kind_at s at) ≡ dead
      stuck = none-steps (kind_at s at) (no-element (kind_at s at) x y d b o) u c κ

      go : (t : Bool) → is_other (kind_at s at) ≡ t → sum_high p n f ≡ true
      go true e = let z = other-is (kind_at s at) e in never f (scan-other s at (operand u c κ) f z (subst (λ (k : Kind). step (operand u c κ) k ≡ dead) z stuck) l r).0
      go false e = absurd (scan-fails s at (operand u c κ) (kind_at s at) f refl (not-other (kind_at s at) e) stuck r)

  -- a bracketed sum
  module _ (e : kind_at s at ≡ Open) where
    opens : (u : TermSoFar) (c : SumSoFar) (κ : Stack) → scan (operand u c κ) (drop at s) ≡ scan (lead (within u c κ)) (drop (at + 1) s)
    unfolding step
    opens u c κ = starts Open e refl u c κ

    pub element-unclosed : ((κ : Stack) → AllHigh p n (lead κ) (drop (at + 1) s)) → (u : TermSoFar) (c : SumSoFar) (κ : Stack) → AllHigh p n (operand u c κ) (drop at s)
    element-unclosed h u c κ f r = h (within u c κ) f (sym (opens u c κ) ∙ r)

    pub element-closed : (r : Part) (w : List ℕ) → SumPart p n s lead (at + 1) (Some r) w → ElementPart p n s at (closed_part s r) w
    unfolding element_value element_high kind_of
    element-closed r w (h, ended) = go (has_byte s r.at 41) refl
      where
        go : (t : Bool) → has_byte s r.at 41 ≡ t → ElementPart p n s at (choose t (Some (record { at = r.at + 1; rows = r.rows })) None) w
        go true b =
            let k : kind_at s r.at ≡ Close = byte-there s r.at 41 b in
            let l = is-inside s r.at (λ z. not-other Close refl (sym k ∙ z)) in
            let m = h.went in
            record {
              tree = bracket h.tree;
              passes = λ u c κ. opens u c κ ∙ h.passes (within u c κ) ∙ scan-kind s r.at (sum_done h.tree (within u c κ)) Close k (not-other Close refl)
                  ∙ ap (λ (x : State). scan x (drop (r.at + 1) s)) (close-sum h.tree u c κ);
              went = record { later = omega arith; fits = omega arith };
              stored = h.stored;
              low = h.low;
            }
        go false b = λ u c κ f q.
            absurd (unclosed s r.at h.tree u c κ f h.went.fits h.solid h.ends (no_sign s r.at ended) (no-close s r.at b)
            (sym (h.passes (within u c κ)) ∙ sym (opens u c κ) ∙ q))

module _ (p n : ℕ) (s : List ℕ) (at : ℕ) where
  -- blanks before an element
  pub element-waits : (t : ℕ) → Looked s at t → (r : Option Part) (w : List ℕ) → ElementPart p n s t r w → ElementPart p n s at r w
  unfolding step
  element-waits t look (Some r) w h =
      let a = look.later in
      let b = h.went in
      record {
        tree = h.tree;
        passes = λ u c κ. look.waits (operand u c κ) refl ∙ h.passes u c κ;
        went = record { later = omega arith; fits = b.fits };
        stored = h.stored;
        low = h.low;
      }
  element-waits t look None w h = λ u c κ f r. h u c κ f (sym (look.waits (operand u c κ) refl) ∙ r)

  module _ (t : ℕ) (look : Looked s at t) (b : has_byte s t 40 ≡ true) (w : List ℕ) where
    pub bracket-lost : SumPart p n s lead (t + 1) None w → ElementPart p n s at None w
    unfolding kind_of
    bracket-lost h = element-waits t look None w (element-unclosed p n s t (byte-there s t 40 b) h)

    pub element-bracket : (inside : Part) → SumPart p n s lead (t + 1) (Some inside) w → (r : Option Part) → r ≡ closed_part s inside → ElementPart p n s at r w
    unfolding kind_of
    element-bracket inside h r e =
        element-waits t look r w (subst (λ (x : Option Part). ElementPart p n s t x w) (sym e) (element-closed p n s t (byte-there s t 40 b) inside w h))
