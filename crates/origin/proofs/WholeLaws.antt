-- The factors of a sheet, each with its leading 1.
--   factor-low, factor-rest   the words of a factor's rows are below p, and 0 past the sheet's terms
--   whole-table     the rows of a factor with its leading 1, as a table of words
--   whole-accepted  the shift accepts them
--   whole-shift     and writes these words
-- Assumes nothing.
use Prim.Native.Nat.{ℕ, suc, ◌+◌, ◌-◌, ◌*◌, ◌≤◌, ◌<◌}
use native.Mathlib.Nat.{eq-or-lt_of_le, add-mul}
use native.Mathlib.Omega.{arith}
use mathlib.Core.Path.{◌≡◌, sym, ◌∙◌, ap, ap₂, subst}
use mathlib.Core.Logic.{⊎_elim}
use mathlib.Core.List.{List}
use lib.ListN.{length, drop, length-append, length-drop, get_or-append}
use lib.Seq.{get_or-append-add, length-take-le}
use Rattle.algebra.specs.Sums.{sum_to}
use Rattle.algebra.proofs.FpLaws.{p-pos}
use Rattle.numbers.specs.Words.{word}
use Rattle.numbers.specs.internal.Facts.{AllBelow}
use Rattle.numbers.specs.Refusals.{judge, Pass}
use Rattle.numbers.proofs.WordsLaws.{lt-or-ge, length-tabulate, word-tabulate, word-part}
use Rattle.rows.specs.Rows.{table, shift_checks, shifted, row_shift, monic}
use Rattle.rows.proofs.RowsLaws.{rows-below, table-ext, table-rows, table_below}
use Rattle.rows.proofs.MonicLaws.{unit-lt, monic-low, monic-top, monic-later, by_place}
use Rattle.rows.proofs.ShiftLaws.{shifted-ext}
use Rattle.rows.proofs.CheckLaws.{shift-fine}
use Rattle.layout.specs.Layout.{modulus, degree, width, terms, count, power, factor, factors_from, factor_from, factor_size, factor_part}
use Rattle.layout.proofs.PlacesLaws.{factor-within, each-power}
use Rattle.layout.proofs.RegionsLaws.{in_rows}
use Rattle.sheet.specs.Sheet.{Sound}
use Rattle.sheet.specs.internal.Content.{content_of}
use Rattle.sheet.proofs.SheetsLaws.{factor-row, sound-good, sound-terms}
use Rattle.sheet.proofs.ReadingLaws.{sound-placed}
use Rattle.origin.specs.Origin.{whole_factor}

module _ (s : List ℕ) (h : Sound s) (i : ℕ) (l : i < count s) where
  abbrev m : ℕ
  m = power s i

  abbrev N : ℕ
  N = width s

  pub factor-low : (j : ℕ) → j < m → (t : ℕ) → t < terms s → factor s i j t < modulus s
  factor-low j u t v = h.factors-reduced _ (factor-row (content_of s) (sound-good s h) i j l u) t v

  -- a factor and its leading 1, past the terms
  pub factor-rest : (j t : ℕ) → terms s ≤ t → t < N → monic m (factor s i) j t ≡ 0
  factor-rest j t v w =
      let e : t ≡ suc (t - 1) = omega (arith, h.terms-low) in
      ⊎_elim
      (λ (u : j < m). monic-low m (factor s i) j t u ∙ h.factors-rest _ (factor-row (content_of s) (sound-good s h) i j l u) t v w)
      (λ (u : m ≤ j). ap (monic m (factor s i) j) e ∙ monic-later m (factor s i) j (t - 1) u)
      (lt-or-ge j m)

  part-long : length (factor_part s i) ≡ m * N
  part-long = length-take-le (factor_size s i) (drop (factor_from s i) s) (omega (arith, length-drop (factor_from s i) s, factor-within s (sound-placed s h) i l))

  part-word : (j t : ℕ) → j < m → t < N → word (factor_part s i) (j * N + t) ≡ factor s i j t
  part-word j t u v =
      word-part s (factor_from s i) (factor_size s i) (j * N + t) (in_rows m N j t u v)
      ∙ ap (word s) (let d = add-mul (sum_to i (power s)) j N in let z : factor_from s i + (j * N + t) ≡ factors_from (degree s) N (count s) + (sum_to i (power s) + j) * N + t = omega arith in z)

  whole_long : length (whole_factor s i) ≡ (m + 1) * N
  whole_long = length-append (factor_part s i) _ ∙ ap₂ ◌+◌ part-long (length-tabulate N _) ∙ (let z : m * N + N ≡ (m + 1) * N = omega arith in z)

  whole_word : (j t : ℕ) → j < m + 1 → t < N → word (whole_factor s i) (j * N + t) ≡ monic m (factor s i) j t
  whole_word j t u v =
      ⊎_elim
      (λ (e : j ≡ m).
      ap (word (whole_factor s i)) (let q = ap (λ x. x * N) e in let z : j * N + t ≡ length (factor_part s i) + t = omega (arith, part-long) in z)
      ∙ get_or-append-add (factor_part s i) _ t 0 ∙ word-tabulate N _ t v ∙ sym (ap (λ x. monic m (factor s i) x t) e ∙ monic-top m (factor s i) t))
      (λ (g : j < m).
      get_or-append (factor_part s i) _ 0 (j * N + t) (omega (arith, part-long, in_rows m N j t g v)) ∙ part-word j t g v ∙ sym (monic-low m (factor s i) j t g))
      (eq-or-lt_of_le {n = j} {m = m} (omega arith))

  pub whole-table : whole_factor s i ≡ table (m + 1) N (monic m (factor s i))
  whole-table =
      sym (table-rows (whole_factor s i) (m + 1) N whole_long)
      ∙ table-ext (m + 1) N _ _ (λ j t u v. rows-below (whole_factor s i) N (m + 1) j t u ∙ whole_word j t u v)

  monic-lt : (j t : ℕ) → j < m + 1 → t < N → monic m (factor s i) j t < modulus s
  monic-lt j t u v =
      ⊎_elim
      (λ (g : t < terms s).
      by_place (λ j. j < m + 1 → monic m (factor s i) j t < modulus s) m
      (λ j w _. subst (λ x. x < modulus s) (sym (monic-low m (factor s i) j t w)) (factor-low j w t g))
      (λ _. subst (λ x. x < modulus s) (sym (monic-top m (factor s i) t)) (unit-lt (modulus s) t h.prime.two-le))
      (λ j w o. absurd (let z : ⊥ = omega arith in z)) j u)
      (λ (g : terms s ≤ t). subst (λ x. x < modulus s) (sym (factor-rest j t g v)) (p-pos h.prime))
      (lt-or-ge t (terms s))

  module _ (c : ℕ) (cp : c < modulus s) where
    pub whole-accepted : judge (shift_checks (modulus s) m N (whole_factor s i) c ((m + 1) * N)) ≡ Pass
    whole-accepted =
        shift-fine (modulus s) m N (whole_factor s i) c (record { prime = h.prime; two = h.prime.two-le; small = omega (arith, h.small) })
        (each-power s (sound-placed s h) i l) (omega (arith, h.terms-low, sound-terms s h)) h.width-high whole_long
        (subst (AllBelow (modulus s)) (sym whole-table) (table_below (modulus s) (m + 1) N (monic m (factor s i)) monic-lt)) cp

  pub whole-shift : (c : ℕ) → row_shift (modulus s) m N (whole_factor s i) c ≡ table (m + 1) N (shifted (modulus s) (m + 1) c (monic m (factor s i)))
  unfolding row_shift
  whole-shift c = table-ext (m + 1) N _ _ (λ j t u v. shifted-ext (modulus s) (m + 1) c _ _ j t (λ a w. rows-below (whole_factor s i) N (m + 1) a t w ∙ whole_word a t w v))
