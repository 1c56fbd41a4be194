-- Correct's conditions have exactly one solution.
--   correct-end, correct-past   correct leaves the end where it is, and the words past it
--   correct-holds    what correct leaves holds what was there with the new entry, with as many terms
--   correct-only     two slices that satisfy correct's conditions are equal
--   set_front, set-terms, set_split   with the new entry what stands before the factors' rows fits, and the polynomial splits at X = 0 as before
--   stored-done      the factors then, worked out to k terms and stored, are what correct leaves ..
--   correct-exists   .. so there is a solution
-- Assumes nothing.
use Prim.Native.Nat.{ℕ, ◌+◌, ◌*◌, ◌≤◌, ◌<◌}
use native.Mathlib.Nat.{zero-add}
use native.Mathlib.Decide.{ℕ_discrete}
use native.Mathlib.Omega.{arith}
use mathlib.Core.Path.{◌≡◌, refl, sym, ◌∙◌, ap, ap₂, subst}
use mathlib.Core.Logic.{◌≢◌, inl, inr, ⊎_elim}
use mathlib.Core.List.{List}
use lib.ListN.{length, set, length-set}
use lib.Seq.{get_or-set_same}
use Rattle.numbers.specs.Words.{word}
use Rattle.numbers.proofs.WordsLaws.{lt-or-ge}
use Rattle.hensel.specs.Factors.{split}
use Rattle.hensel.proofs.FactorsLaws.{split-ext}
use Rattle.layout.specs.Layout.{rows_at, modulus, degree, width, terms_at, terms, count, known, lengths_from, polynomial_from, factors_from, root, power, end, polynomial, entry_at, InColumns}
use Rattle.layout.proofs.RegionsLaws.{in_rows, entry-there, entry_other, entry-by, entry_read}
use Rattle.front.specs.internal.Front.{Front}
use Rattle.front.proofs.FrontLaws.{set_same, set-degree, set-width, set-count, set-root, set-power, set-polynomial, front-set}
use Rattle.sheet.specs.Sheet.{Sound, Given, given_of, Holds}
use Rattle.sheet.specs.internal.Stages.{SplitFits, Computed}
use Rattle.sheet.specs.internal.Stored.{Stored}
use Rattle.sheet.proofs.UniqueLaws.{columns-kept, slice-unique}
use Rattle.sheet.proofs.HoldsLaws.{holds_rows}
use Rattle.sheet.proofs.SoundStagesLaws.{sound-front, sound-split}
use Rattle.sheet.proofs.StoredLaws.{stored-sound, computed-exists, stored-exists}
use Rattle.correct.specs.Correct.{CorrectDone, corrected}

module _ (old : List ℕ) (h : Sound old) (j t e : ℕ) (row_low : j < degree old) (inside : t < known old j) (small : e < modulus old) where
  abbrev first : ℕ
  first = factors_from (degree old) (width old) (count old)

  abbrev at : ℕ
  at = entry_at old j t

  -- the sheet with the entry, and its factors' rows as they were
  abbrev u : List ℕ
  u = set old at e

  front : Front old
  front = sound-front old h

  wide : t < width old
  wide = omega (arith, inside, (h.lengths j row_low).high)

  at_low : at < first
  at_low = omega (arith, in_rows (degree old + 1) (width old) j t (omega arith) wide)

  fits : at < length old
  fits = omega (arith, at_low, h.long)

  set_other : (i : ℕ) → i ≢ at → word u i ≡ word old i
  set_other = set_same old front j t e row_low inside small

  module _ (new : List ℕ) (d : CorrectDone old j t e new) where
    before : (i : ℕ) → i < first → i ≢ at → word new i ≡ word old i
    before i l ne = d.rest i ne (λ c. let z = c.0 in let y : ⊥ = omega arith in y)

    header : (i : ℕ) → i < polynomial_from (degree old) (count old) → word new i ≡ word old i
    header i l = before i (omega arith) (omega arith)

    -- before the factors' rows it is that sheet
    with-entry : (i : ℕ) → i < first → word new i ≡ word u i
    with-entry i l = go (ℕ_discrete i at)
      where
        go : Dec (i ≡ at) → word new i ≡ word u i
        go (yes q) = ap (word new) q ∙ d.entered ∙ sym (get_or-set_same old at e 0 fits) ∙ ap (word u) (sym q)
        go (no ne) = before i l ne ∙ sym (set_other i ne)

    pub correct-end : end new ≡ end old
    correct-end = sym (d.sound.header 9 (omega arith)) ∙ header 9 (omega arith) ∙ h.header 9 (omega arith)

    pub correct-past : (i : ℕ) → end old ≤ i → word new i ≡ word old i
    correct-past i l = d.rest i (omega (arith, at_low)) (λ c. let z = c.1 in let y : ⊥ = omega arith in y)

    pub correct-holds : (g : Given) (k : ℕ) → length g.rows ≡ (g.D + 1) * g.N → Holds g k old → Holds (corrected g j t e) k new
    correct-holds g k long holds =
        let N = g.N in
        let rows = g.rows in
        let eN = holds.same_width in
        let low : t < N = omega (arith, wide) in
        let eD = holds.same-degree in
        let room : 0 + j * N + t < length rows = omega (arith, in_rows (g.D + 1) N j t (omega arith) low) in
        subst (λ i. Holds (given_of g.p g.D N (set rows i e) g.lengths g.roots) k new) (ap (λ x. x + t) (zero-add (j * N)))
        (holds_rows g (set rows (0 + j * N + t) e) k k old new holds d.sound (header 3 (omega arith) ∙ holds.same-terms) (λ i l _. header i l)
        (λ i l c v.
        with-entry (entry_at old i c) (omega (arith, in_rows (degree old + 1) (width old) i c (omega arith) v))
        ∙ entry-by old (polynomial_from (degree old) (count old)) (width old) j t e wide fits (λ i c x. i ≤ degree old → x ≡ rows_at (set rows (0 + j * N + t) e) 0 N i c)
        (λ _. sym (entry-there rows 0 N j t e low room))
        (λ i c v ne l. holds.same-polynomial i l c v ∙ sym (entry_other rows 0 N j t e low i c (omega arith) ne)) i c v l))

  pub correct-only : (a b : List ℕ) → CorrectDone old j t e a → CorrectDone old j t e b → a ≡ b
  correct-only a b d f =
      let p : (i : ℕ) → i < polynomial_from (degree old) (count old) → word a i ≡ word b i = λ i l. header a d i l ∙ sym (header b f i l) in
      let eD : degree a ≡ degree old = header a d 1 (omega arith) in
      let eN : width a ≡ width old = header a d 2 (omega arith) in
      let ea = correct-end a d in
      slice-unique a b d.sound f.sound (p 0 (omega arith)) (p 1 (omega arith)) (p 2 (omega arith)) (p 3 (omega arith)) (λ i l. p (lengths_from + i) (omega arith))
      (λ i c l v.
      let m = in_rows (degree old + 1) (width old) i c (omega arith) (omega arith) in
      entry_read old a eD eN (header a d 4 (omega arith)) i c ∙ with-entry a d (entry_at old i c) (omega arith)
      ∙ sym (entry_read old b (header b f 1 (omega arith)) (header b f 2 (omega arith)) (header b f 4 (omega arith)) i c ∙ with-entry b f (entry_at old i c) (omega arith)))
      (d.same_length ∙ sym f.same_length)
      (λ i l. correct-past a d i (omega arith) ∙ sym (correct-past b f i (omega arith)))

  pub set_front : Front u
  set_front = front-set old front j t e row_low inside small

  pub set-terms : terms u ≡ terms old
  set-terms = set_other 3 (omega arith)

  module _ (one : 1 ≤ t) where
    -- column 0 is as it was
    pub set_split : SplitFits u
    set_split i l =
        ap₂ (λ p r. split p r (root u) (power u) i) (set_other 0 (omega arith)) (set-count old front j t e row_low inside small)
        ∙ split-ext (modulus old) (count old) (root u) (root old) (power u) (power old) (set-root old front j t e row_low inside small) (set-power old front j t e row_low inside small) i
        ∙ sound-split old h i (let z = set-degree old front j t e row_low inside small in omega arith)
        ∙ set-polynomial old front j t e row_low inside small (λ i c x. c ≡ 0 → polynomial old i 0 ≡ x) (λ z. absurd (let y : ⊥ = omega arith in y)) (λ i c _ _ z. ap (polynomial old i) (sym z)) i 0 (omega (arith, wide)) refl

    module _ (rows : List ℕ) (g : Computed u (terms u) rows) (new : List ℕ) (st : Stored u (terms u) rows new) where
      sound : Sound new
      sound = stored-sound u set_front (terms u) set_front.shape.header.terms-low set_front.shape.header.terms-high rows g new st

      first-same : factors_from (degree u) (width u) (count u) ≡ first
      first-same = rw (set-degree old front j t e row_low inside small, set-width old front j t e row_low inside small, set-count old front j t e row_low inside small) refl

      end_same : end u ≡ end old
      end_same = rw (set-degree old front j t e row_low inside small, set-width old front j t e row_low inside small, set-count old front j t e row_low inside small) refl

      -- storing the rows leaves the words before them
      kept : (i : ℕ) → i < first → word new i ≡ word u i
      kept i l = go (ℕ_discrete i terms_at)
        where
          go : Dec (i ≡ terms_at) → word new i ≡ word u i
          go (yes q) = ap (word new) q ∙ st.reached ∙ ap (word u) (sym q)
          go (no ne) = st.others i ne (inl (omega (arith, first-same)))

      header-kept : (i : ℕ) → i < polynomial_from (degree old) (count old) → word old i ≡ word new i
      header-kept i l = sym (kept i (omega arith) ∙ set_other i (omega arith))

      -- up to a column before t the polynomial is as it was
      alike : (c : ℕ) → c < t → (i : ℕ) → i ≤ degree old → (q : ℕ) → q ≤ c → polynomial old i q ≡ polynomial new i q
      alike c l i g q v =
          set-polynomial old front j t e row_low inside small (λ i q x. q < t → polynomial old i q ≡ x) (λ z. absurd (let y : ⊥ = omega arith in y)) (λ i q _ _ _. refl) i q (omega (arith, wide)) (omega arith)
          ∙ entry_read old u (set-degree old front j t e row_low inside small) (set-width old front j t e row_low inside small) (set-count old front j t e row_low inside small) i q
          ∙ sym (kept (entry_at old i q) (omega (arith, in_rows (degree old + 1) (width old) i q (omega arith) (omega (arith, wide)))))
          ∙ sym (entry_read old new (sym (header-kept 1 (omega arith))) (sym (header-kept 2 (omega arith))) (sym (header-kept 4 (omega arith))) i q)

      rest : (i : ℕ) → i ≢ at → ¬ InColumns old t (terms old) i → word new i ≡ word old i
      rest i ne nc =
          ⊎_elim (λ (l : i < first). kept i l ∙ set_other i ne)
          (λ (l : first ≤ i). ⊎_elim
          (λ (v : i < end old).
          let k = header-kept 3 (omega arith) in
          columns-kept old new h sound (header-kept 0 (omega arith)) (header-kept 1 (omega arith)) (header-kept 2 (omega arith)) (header-kept 4 (omega arith)) t (terms old)
          (λ c. ⊎_elim
          (λ (x : c < t). ⊎_elim (λ (y : c < terms old). inl (y, omega arith, alike c x)) (λ (y : terms old ≤ c). inr (y, omega arith)) (lt-or-ge c (terms old)))
          (λ (x : terms old ≤ c). inr (x, omega arith)))
          i l v nc)
          (λ (v : end old ≤ i). st.others i (omega arith) (inr (omega (arith, end_same))) ∙ set_other i ne) (lt-or-ge i (end old)))
          (lt-or-ge i first)

      pub stored-done : CorrectDone old j t e new
      stored-done = record { same_length = st.long ∙ length-set old at e; sound = sound; entered = kept at at_low ∙ get_or-set_same old at e 0 fits; rest = rest }

    pub correct-exists : (new : List ℕ) × CorrectDone old j t e new
    correct-exists =
        let low : 1 ≤ terms u = omega (arith, set_front.shape.header.terms-low) in
        let (rows, g) = computed-exists u set_front set_split (terms u) low (omega (arith, set_front.shape.header.terms-high, set_front.shape.header.reach-high)) in
        let (new, st) = stored-exists u set_front (terms u) rows g.long in
        (new, stored-done rows g new st)
