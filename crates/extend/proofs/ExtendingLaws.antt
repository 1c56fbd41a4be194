-- Extend's conditions have exactly one solution.
--   extend-end, extend-past   extend leaves the end where it is, and the words past it
--   extend-holds    what extend leaves holds what was there, with w terms
--   extend-only     two slices that satisfy extend's conditions are equal
--   stored-done     the factors worked out to w terms, stored over those of a sound sheet, are what extend leaves ..
--   extend-exists   .. so there is a solution, for every w from the terms there to the least known length
-- Assumes nothing.
use Prim.Native.Nat.{ℕ, ◌+◌, ◌≤◌, ◌<◌}
use native.Mathlib.Omega.{arith}
use mathlib.Core.Path.{◌≡◌, sym, ◌∙◌}
use mathlib.Core.Logic.{◌≢◌, inl, inr, ⊎_elim}
use mathlib.Core.List.{List}
use Rattle.numbers.specs.Words.{word}
use Rattle.numbers.proofs.WordsLaws.{lt-or-ge}
use Rattle.layout.specs.Layout.{degree, width, terms_at, terms, count, reach, lengths_from, roots_from, factors_from, end, polynomial, entry_at, InColumns}
use Rattle.sheet.specs.Sheet.{Sound, Given, Holds}
use Rattle.extend.specs.Extend.{ExtendDone}
use Rattle.layout.proofs.RegionsLaws.{in_rows, entry_read}
use Rattle.front.specs.internal.Front.{Front}
use Rattle.sheet.specs.internal.Stages.{Computed}
use Rattle.sheet.specs.internal.Stored.{Stored}
use Rattle.sheet.proofs.SheetsLaws.{sound-terms}
use Rattle.sheet.proofs.UniqueLaws.{columns-kept, slice-unique}
use Rattle.sheet.proofs.HoldsLaws.{holds_by}
use Rattle.sheet.proofs.SoundStagesLaws.{sound-front, sound-split}
use Rattle.sheet.proofs.StoredLaws.{stored-sound, computed-exists, stored-exists}

module _ (old : List ℕ) (h : Sound old) (w : ℕ) where
  abbrev first : ℕ
  first = factors_from (degree old) (width old) (count old)

  -- the words before the factors' rows, but for the terms
  abbrev Before : List ℕ → Type 0
  Before new = (i : ℕ) → i < first → i ≢ terms_at → word new i ≡ word old i

  polynomial-same : (new : List ℕ) → Before new → (j t : ℕ) → j ≤ degree old → t < width old → polynomial new j t ≡ polynomial old j t
  polynomial-same new same j t l g =
      entry_read old new (same 1 (omega arith) (omega arith)) (same 2 (omega arith) (omega arith)) (same 4 (omega arith) (omega arith)) j t
      ∙ same (entry_at old j t) (omega (arith, in_rows (degree old + 1) (width old) j t (omega arith) g)) (omega arith)

  module _ (new : List ℕ) (d : ExtendDone old w new) where
    before : Before new
    before i l ne = d.rest i ne (λ c. let z = c.0 in let y : ⊥ = omega arith in y)

    pub extend-end : end new ≡ end old
    extend-end = sym (d.sound.header 9 (omega arith)) ∙ before 9 (omega arith) (omega arith) ∙ h.header 9 (omega arith)

    pub extend-past : (i : ℕ) → end old ≤ i → word new i ≡ word old i
    extend-past i l = d.rest i (omega arith) (λ c. let z = c.1 in let y : ⊥ = omega arith in y)

    pub extend-holds : (g : Given) (k : ℕ) → Holds g k old → Holds g w new
    extend-holds g k holds = holds_by g k w old new holds d.sound d.reached before

  pub extend-only : (a b : List ℕ) → ExtendDone old w a → ExtendDone old w b → a ≡ b
  extend-only a b d e =
      let p : (i : ℕ) → i < roots_from (degree old) → i ≢ terms_at → word a i ≡ word b i = λ i l ne. before a d i (omega arith) ne ∙ sym (before b e i (omega arith) ne) in
      let eD : degree a ≡ degree old = before a d 1 (omega arith) (omega arith) in
      let eN : width a ≡ width old = before a d 2 (omega arith) (omega arith) in
      let ea = extend-end a d in
      slice-unique a b d.sound e.sound (p 0 (omega arith) (omega arith)) (p 1 (omega arith) (omega arith)) (p 2 (omega arith) (omega arith)) (d.reached ∙ sym e.reached)
      (λ j l. p (lengths_from + j) (omega arith) (omega arith))
      (λ j t l g. polynomial-same a (before a d) j t (omega arith) (omega arith) ∙ sym (polynomial-same b (before b e) j t (omega arith) (omega arith)))
      (d.same_length ∙ sym e.same_length)
      (λ i l. extend-past a d i (omega arith) ∙ sym (extend-past b e i (omega arith)))

  module _ (low : terms old ≤ w) (high : w ≤ reach old) where
    front : Front old
    front = sound-front old h

    module _ (rows : List ℕ) (g : Computed old w rows) (new : List ℕ) (st : Stored old w rows new) where
      sound : Sound new
      sound = stored-sound old front w (omega (arith, h.terms-low)) high rows g new st

      kept : Before new
      kept i l ne = st.others i ne (inl l)

      rest : (i : ℕ) → i ≢ terms_at → ¬ InColumns old (terms old) w i → word new i ≡ word old i
      rest i ne nc =
          ⊎_elim (λ (l : i < first). kept i l ne)
          (λ (l : first ≤ i). ⊎_elim
          (λ (v : i < end old).
          let k : (i : ℕ) → i < first → i ≢ terms_at → word old i ≡ word new i = λ i l ne. sym (kept i l ne) in
          let e = st.reached in
          columns-kept old new h sound (k 0 (omega arith) (omega arith)) (k 1 (omega arith) (omega arith)) (k 2 (omega arith) (omega arith)) (k 4 (omega arith) (omega arith)) (terms old) w
          (λ t. ⊎_elim (λ (u : t < terms old). inl (u, omega arith, λ j g q v. sym (polynomial-same new kept j q g (let z = sound-terms old h in omega arith)))) (λ (u : w ≤ t). inr (omega arith, omega arith)))
          i l v nc)
          (λ (v : end old ≤ i). st.others i ne (inr v)) (lt-or-ge i (end old)))
          (lt-or-ge i first)

      pub stored-done : ExtendDone old w new
      stored-done = record { same_length = st.long; sound = sound; reached = st.reached; rest = rest }

    pub extend-exists : (new : List ℕ) × ExtendDone old w new
    extend-exists =
        let (rows, g) = computed-exists old front (sound-split old h) w (omega (arith, h.terms-low)) (omega (arith, front.shape.header.reach-high)) in
        let (new, st) = stored-exists old front w rows g.long in
        (new, stored-done rows g new st)
