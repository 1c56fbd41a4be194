-- For every input extend's contract allows exactly one answer and one content of the slice.
--   extend-total   so
--   extend-able    what an accepted extend was lent
--   extend-spoiled, extend-judged, extend-outside, extend-behind, extend-reached   extend's verdict, case by case
--   extend-passes, extended-done   from the terms there to the least known length of what a sheet holds extend accepts every number, and leaves what its conditions say
--   extended-holds   so the sheet holds the same with these terms
-- Assumes nothing.
use Prim.Native.Nat.{ℕ, ◌≤◌, ◌<◌}
use native.Mathlib.Omega.{arith}
use mathlib.Core.Path.{◌≡◌, ◌∙◌, ap₂, subst}
use mathlib.Core.Bool.{true, ◌||◌}
use mathlib.Core.List.{List, [], ◌∷◌}
use borrow.Author.Tests.{ltb-false, lt-ltb, le-ltb}
use Rattle.numbers.specs.Words.{outside}
use Rattle.numbers.specs.Refusals.{beyond_check, behind_check, judge, refusal, Outcome, Leaves, Verdict, Pass, Refuse}
use Rattle.numbers.specs.One.{OneOutcome}
use Rattle.numbers.proofs.OneLaws.{verdict-one}
use Rattle.numbers.proofs.RefusalsLaws.{none-judged, inside, pass-check, take-check, skip-check}
use Rattle.layout.specs.Layout.{terms, reach}
use Rattle.sheet.specs.Sheet.{Sound, Given, given-reach, Holds}
use Rattle.sheet.proofs.HoldsLaws.{holds-reach}
use Rattle.sheet.proofs.SoundTestLaws.{spoiled-first, sound-first, passed_first}
use Rattle.extend.specs.Extend.{extend_verdict, ExtendDone, Extended}
use Rattle.extend.proofs.ExtendingLaws.{extend-only, extend-exists, extend-holds}

module _ (old : List ℕ) (w : ℕ) where
  pub record Able : Type 0 where
    pub sound : Sound old
    pub low : terms old ≤ w
    pub high : w ≤ reach old

  pub extend-able : extend_verdict old w ≡ Pass → Able
  unfolding extend_verdict
  extend-able e =
      let (sound, rest) = passed_first old _ e in
      let b = pass-check (beyond_check (reach old) w) _ rest in
      let c = pass-check (behind_check (terms old) w) _ b.1 in
      record { sound = sound; low = ltb-false w (terms old) c.0; high = (inside 1 (reach old) w b.0).1 }

  pub extended-one : OneOutcome (Extended old w)
  extended-one =
      verdict-one (Extended old w) (extend_verdict old w) w (λ new. ExtendDone old w new) old (λ a new. (λ x. (x.answers, x.leaves), λ e. record { answers = e.0; leaves = e.1 }))
      (λ e.
      let h = extend-able e in
      let (new, d) = extend-exists old h.sound w h.low h.high in
      (new, record { is = d; only = λ other x. extend-only old h.sound w other new x d }))

  -- extend's verdict, case by case
  pub extend-spoiled : ¬ Sound old → extend_verdict old w ≡ Refuse (refusal 13 0)
  unfolding extend_verdict
  extend-spoiled = spoiled-first old _

  module _ (h : Sound old) where
    pub extend-judged : extend_verdict old w ≡ judge (beyond_check (reach old) w ∷ behind_check (terms old) w ∷ [])
    unfolding extend_verdict
    extend-judged = sound-first old _ h

    pub extend-outside : outside 1 (reach old) w ≡ true → extend_verdict old w ≡ Refuse (refusal 14 0)
    extend-outside e = extend-judged ∙ take-check (beyond_check (reach old) w) _ e

    module _ (low : 1 ≤ w) (high : w ≤ reach old) where
      past-range : extend_verdict old w ≡ judge (behind_check (terms old) w ∷ [])
      past-range = extend-judged ∙ skip-check (beyond_check (reach old) w) _ (ap₂ ◌||◌ (le-ltb w 1 low) (le-ltb (reach old) w high))

      pub extend-behind : w < terms old → extend_verdict old w ≡ Refuse (refusal 15 0)
      extend-behind l = past-range ∙ take-check (behind_check (terms old) w) [] (lt-ltb w (terms old) l)

      pub extend-reached : terms old ≤ w → extend_verdict old w ≡ Pass
      extend-reached l = past-range ∙ skip-check (behind_check (terms old) w) [] (le-ltb w (terms old) l) ∙ none-judged

-- of a sheet that holds what open was given
module _ (g : Given) (k w : ℕ) (old : List ℕ) (h : Holds g k old) (low : k ≤ w) (high : w ≤ given-reach g) where
  pub extend-passes : extend_verdict old w ≡ Pass
  extend-passes =
      let e = h.same-terms in
      extend-reached old w h.sound (omega (arith, h.sound.terms-low)) (omega (arith, holds-reach g k old h)) (omega arith)

  module _ (a : Outcome ℕ) (new : List ℕ) (x : Extended old w a new) where
    pub extended-done : ExtendDone old w new
    extended-done = subst (λ (v : Verdict). Leaves v (ExtendDone old w new) old new) extend-passes x.leaves

    pub extended-holds : Holds g w new
    extended-holds = extend-holds old h.sound w new extended-done g k h
