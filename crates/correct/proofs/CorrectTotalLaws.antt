-- For every input correct's contract allows exactly one answer and one content of the slice.
--   corrected-one   so
--   entry-is, no_row, no-column, by_length   the test behind refusal 20
--   entry-ext       it looks at the lengths of the rows that there are
--   worked          factors that exist are found
--   correct-able    what an accepted correct was lent ..
--   enter-ready, again-ready, entered-done   .. and what setting the entry, working again and storing then need and come to
--   correct-spoiled, correct-judged, correct-nowhere, correct-large, correct-passes   correct's verdict, case by case
-- Assumes nothing.
use Prim.Native.Nat.{ℕ, ◌*◌, ◌≤◌, ◌<◌}
use native.Mathlib.Omega.{arith}
use mathlib.Core.Path.{◌≡◌, refl, sym, ◌∙◌, ap, ap₂, subst}
use mathlib.Core.Logic.{⊎_elim}
use mathlib.Core.Bool.{Bool, true, false, not}
use mathlib.Core.List.{List, [], ◌∷◌}
use lib.Dec.{ltb, leb}
use lib.ListN.{length, set}
use borrow.Author.Tests.{lt-ltb, le-ltb, ltb-true, le-leb, lt-leb, leb-true, leb-false, not-false}
use Rattle.numbers.specs.Words.{choose, all}
use Rattle.numbers.specs.Refusals.{judge, refusal, Pass, Refuse}
use Rattle.numbers.specs.One.{OneOutcome}
use Rattle.numbers.proofs.OneLaws.{verdict-one}
use Rattle.numbers.proofs.WordsLaws.{lt-or-ge}
use Rattle.numbers.proofs.TestsLaws.{all-at}
use Rattle.numbers.proofs.RefusalsLaws.{none-judged, pass-check, take-check, skip-check}
use Rattle.layout.specs.Layout.{modulus, degree, width, terms, known, entry_at}
use Rattle.layout.specs.internal.Places.{Placed}
use Rattle.front.specs.internal.Front.{Front}
use Rattle.front.proofs.FrontLaws.{shape-placed, set-degree, set-width}
use Rattle.sheet.specs.Sheet.{Sound}
use Rattle.sheet.specs.internal.Stages.{SplitFits, Computed, WorkedOut}
use Rattle.sheet.specs.internal.Stored.{Stored}
use Rattle.sheet.proofs.SoundTestLaws.{spoiled-first, sound-first, passed_first}
use Rattle.sheet.proofs.SoundStagesLaws.{sound-front}
use Rattle.sheet.proofs.StoredLaws.{computed-set}
use Rattle.correct.specs.Correct.{is_entry, entry_check, number_check, correct_verdict, CorrectDone, Corrected}
use Rattle.correct.proofs.CorrectingLaws.{correct-only, set_front, set-terms, set_split, stored-done, correct-exists}

-- the test behind refusal 20
module _ (D : ℕ) (known : ℕ → ℕ) (j t : ℕ) where
  pub record Entry : Type 0 where
    pub row : j < D
    pub later : 1 ≤ t
    pub inside : t < known j

  pub entry-is : is_entry D known j t ≡ true → Entry
  unfolding is_entry
  entry-is e = record { row = ltb-true j D (all-at _ e 0); later = leb-true 1 t (all-at _ e 1); inside = ltb-true t (known j) (all-at _ e 2) }

  -- test by test
  pub no_row : D ≤ j → is_entry D known j t ≡ false
  unfolding is_entry all
  no_row l = rw (le-ltb j D l) refl

  pub no-column : t < 1 → is_entry D known j t ≡ false
  unfolding is_entry all
  no-column l = rw (lt-leb 1 t l) (go (ltb j D))
    where
      go : (b : Bool) → choose b false false ≡ false
      go true = refl
      go false = refl

  pub by_length : j < D → 1 ≤ t → is_entry D known j t ≡ ltb t (known j)
  unfolding is_entry all
  by_length l one = rw (lt-ltb j D l, le-leb 1 t one) (go (ltb t (known j)))
    where
      go : (b : Bool) → choose b true false ≡ b
      go true = refl
      go false = refl

-- known lengths that agree where there are rows
pub entry-ext : (D D' : ℕ) (known known' : ℕ → ℕ) (j t : ℕ) → D ≡ D' → ((i : ℕ) → i < D → known i ≡ known' i) → is_entry D known j t ≡ is_entry D' known' j t
unfolding is_entry
entry-ext D D' known known' j t e h =
    ⊎_elim (λ (l : j < D). go l) (λ (l : D ≤ j). no_row D known j t l ∙ sym (no_row D' known' j t (omega arith))) (lt-or-ge j D)
  where
    go : j < D → is_entry D known j t ≡ is_entry D' known' j t
    go l = ap₂ (λ d n. all (ltb j d ∷ leb 1 t ∷ ltb t n ∷ [])) e (h j l)

-- the factors were found, since there are factors
pub worked : (s : List ℕ) (k : ℕ) → k ≡ terms s → SplitFits s → (found : Bool) (rows : List ℕ) → WorkedOut s k found rows → Computed s (terms s) rows
worked s k q f true rows w = subst (λ k. Computed s k rows) q (w.yes refl)
worked s k q f false rows w = absurd (w.no refl f)

module _ (old : List ℕ) (j t e : ℕ) where
  pub record Able : Type 0 where
    pub sound : Sound old
    pub entry : Entry (degree old) (known old) j t
    pub small : e < modulus old

  pub correct-able : correct_verdict old j t e ≡ Pass → Able
  unfolding correct_verdict
  correct-able q =
      let (sound, rest) = passed_first old _ q in
      let b = pass-check (entry_check (degree old) (known old) j t) _ rest in
      let c = pass-check (number_check (modulus old) e) _ b.1 in
      record { sound = sound; entry = entry-is (degree old) (known old) j t (not-false _ b.0); small = leb-false (modulus old) e c.0 }

  -- set the entry, work again, store
  module _ (a : Able) where
    abbrev low : j < degree old
    low = a.entry.row

    abbrev inside : t < known old j
    inside = a.entry.inside

    front : Front old
    front = sound-front old a.sound

    pub enter-ready : Placed old × (j < degree old) × (t < width old)
    enter-ready = (shape-placed old front.shape, low, omega (arith, inside, (front.lengths.each j low).high))

    module _ (u : List ℕ) (q : u ≡ set old (entry_at old j t) e) where
      again-front : Front u
      again-front = subst Front (sym q) (set_front old a.sound j t e low inside a.small)

      pub again-ready : (rows : List ℕ) → Computed old (terms old) rows → Front u × SplitFits u × (length rows ≡ degree u * width u) × (terms u ≤ t → Computed u (terms u) rows)
      again-ready rows g = (
        again-front,
        subst SplitFits (sym q) (set_split old a.sound j t e low inside a.small a.entry.later),
        g.long ∙ subst (λ x. degree old * width old ≡ degree x * width x) (sym q)
            (sym (ap₂ (λ (x y : ℕ). x * y) (set-degree old front j t e low inside a.small) (set-width old front j t e low inside a.small))),
        subst (λ x. terms x ≤ t → Computed x (terms x) rows) (sym q) again,
      )
        where
          again : terms (set old (entry_at old j t) e) ≤ t → Computed (set old (entry_at old j t) e) (terms (set old (entry_at old j t) e)) rows
          again l =
              let k = set-terms old a.sound j t e low inside a.small in
              subst (λ n. Computed (set old (entry_at old j t) e) n rows) (sym k) (computed-set old front j t e low inside a.small (terms old) a.sound.terms-low (omega arith) rows g)

      pub entered-done : (k : ℕ) → k ≡ terms old → (rows : List ℕ) → Computed u (terms u) rows → (new : List ℕ) → Stored u k rows new → CorrectDone old j t e new
      entered-done k ek rows g new st =
          let v = set old (entry_at old j t) e in
          let kv = set-terms old a.sound j t e low inside a.small in
          stored-done old a.sound j t e low inside a.small a.entry.later rows (subst (λ x. Computed x (terms x) rows) q g) new
          (subst (λ n. Stored v n rows new) (ek ∙ sym kv) (subst (λ x. Stored x k rows new) q st))

  pub corrected-one : OneOutcome (Corrected old j t e)
  corrected-one =
      verdict-one (Corrected old j t e) (correct_verdict old j t e) (terms old) (λ new. CorrectDone old j t e new) old (λ a new. (λ x. (x.answers, x.leaves), λ x. record { answers = x.0; leaves = x.1 }))
      (λ q.
      let h = correct-able q in
      let n = h.entry in
      let (new, d) = correct-exists old h.sound j t e n.row n.inside h.small n.later in
      (new, record { is = d; only = λ other x. correct-only old h.sound j t e n.row n.inside h.small other new x d }))

  -- correct's verdict, case by case
  pub correct-spoiled : ¬ Sound old → correct_verdict old j t e ≡ Refuse (refusal 13 0)
  unfolding correct_verdict
  correct-spoiled = spoiled-first old _

  module _ (h : Sound old) where
    pub correct-judged : correct_verdict old j t e ≡ judge (entry_check (degree old) (known old) j t ∷ number_check (modulus old) e ∷ [])
    unfolding correct_verdict
    correct-judged = sound-first old _ h

    pub correct-nowhere : is_entry (degree old) (known old) j t ≡ false → correct_verdict old j t e ≡ Refuse (refusal 20 0)
    correct-nowhere q = correct-judged ∙ take-check (entry_check (degree old) (known old) j t) _ (ap not q)

    module _ (there : is_entry (degree old) (known old) j t ≡ true) where
      past-entry : correct_verdict old j t e ≡ judge (number_check (modulus old) e ∷ [])
      past-entry = correct-judged ∙ skip-check (entry_check (degree old) (known old) j t) _ (ap not there)

      pub correct-large : modulus old ≤ e → correct_verdict old j t e ≡ Refuse (refusal 6 0)
      correct-large l = past-entry ∙ take-check (number_check (modulus old) e) [] (le-leb (modulus old) e l)

      pub correct-passes : e < modulus old → correct_verdict old j t e ≡ Pass
      correct-passes l = past-entry ∙ skip-check (number_check (modulus old) e) [] (lt-leb (modulus old) e l) ∙ none-judged
