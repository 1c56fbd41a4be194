-- A corrected sheet is that of the corrected polynomial, as if this had been given from the first.
--   corrected-opens   a polynomial that open accepts is accepted with an entry corrected
--   correct-afresh    the sheet that correct leaves is the one of it, with as many terms, and there is no other
-- Assumes nothing.
use Prim.Native.Nat.{ℕ, ◌+◌, ◌*◌, ◌≤◌, ◌<◌}
use native.Mathlib.Nat.{zero-add}
use native.Mathlib.Omega.{arith}
use mathlib.Core.Path.{◌≡◌, sym, ◌∙◌, ap, subst}
use mathlib.Core.List.{List}
use lib.ListN.{length, set, length-set}
use Rattle.numbers.specs.Words.{word}
use Rattle.numbers.specs.Refusals.{accepted, Leaves, Pass}
use Rattle.numbers.proofs.RefusalsLaws.{accepted-pass}
use Rattle.tiles.proofs.TileLaws.{set_below}
use Rattle.layout.specs.Layout.{rows_at, terms}
use Rattle.layout.proofs.RegionsLaws.{in_rows, entry_other, entry-by}
use Rattle.sheet.specs.Sheet.{Given, given_of, Holds}
use Rattle.sheet.proofs.UniqueLaws.{holds-unique}
use Rattle.open.specs.Open.{needed, open_verdict}
use Rattle.open.proofs.OpenChecksLaws.{ListPass, other-list}
use Rattle.open.proofs.OpeningLaws.{open-passed, column-opens}
use Rattle.correct.specs.Correct.{correct_verdict, CorrectDone, Corrected, corrected}
use Rattle.correct.proofs.CorrectingLaws.{correct-holds}
use Rattle.correct.proofs.CorrectTotalLaws.{Entry, correct-able}
use Rattle.calls.specs.Afresh.{Afresh}

module _ (g : Given) (h : ListPass g) (j t e : ℕ) (entry : Entry g.D (word g.lengths) j t) (small : e < g.p) where
  abbrev N : ℕ
  N = g.N

  abbrev rows : List ℕ
  rows = set g.rows (0 + j * N + t) e

  low : t < N
  low = omega (arith, entry.inside, (h.rows.lengths j entry.row).high)

  fits : 0 + j * N + t < length g.rows
  fits = omega (arith, h.rows.polynomial.long, in_rows (g.D + 1) N j t (omega (arith, entry.row)) low)

  known-still : (i c : ℕ) → c < N → i < g.D → word g.lengths i ≤ c → rows_at rows 0 N i c ≡ 0
  known-still = entry-by g.rows 0 N j t e low fits (λ i c x. i < g.D → word g.lengths i ≤ c → x ≡ 0) (λ _ l. absurd (let z : ⊥ = omega (arith, entry.inside) in z)) (λ i c v _ l m. (h.rows.lengths i l).rest c m v)

  list : ListPass (given_of g.p g.D N rows g.lengths g.roots)
  list = other-list g rows g.lengths (length-set g.rows (0 + j * N + t) e ∙ h.rows.polynomial.long) h.rows.polynomial.lengths-long
      (set_below g.p g.rows (0 + j * N + t) e small h.rows.polynomial.rows-below)
      (λ i l. let k = h.rows.lengths i l in record { low = k.low; high = k.high; rest = λ c m v. known-still i c v l m })
      (λ c l. entry_other g.rows 0 N j t e low g.D c l (λ (x, y). let z : ⊥ = omega (arith, entry.row) in z) ∙ h.rows.top c l)
      h

  pub corrected-opens : open_verdict g (needed g) ≡ Pass → open_verdict (corrected g j t e) (needed (corrected g j t e)) ≡ Pass
  corrected-opens pass =
      subst (λ i. let f = given_of g.p g.D N (set g.rows i e) g.lengths g.roots in open_verdict f (needed f) ≡ Pass) (ap (λ x. x + t) (zero-add (j * N)))
      (column-opens g rows g.lengths (λ i l. entry_other g.rows 0 N j t e low i 0 (omega (arith, low)) (λ (x, y). let z : ⊥ = omega (arith, entry.later) in z)) pass list)

pub correct-afresh : (g : Given) → open_verdict g (needed g) ≡ Pass → (k : ℕ) (old : List ℕ) → Holds g k old → (j t e d : ℕ) (new : List ℕ) → Corrected old j t e (accepted d) new → (d ≡ k) × Afresh (corrected g j t e) k new
correct-afresh g pass k old holds j t e d new x =
    let (v, q) = accepted-pass (correct_verdict old j t e) (terms old) d x.answers in
    let a = correct-able old j t e v in
    let h = (open-passed g (needed g) pass).list in
    let done : CorrectDone old j t e new = subst (λ v. Leaves v (CorrectDone old j t e new) old new) v x.leaves in
    let there = correct-holds old a.sound j t e a.entry.row a.entry.inside a.small new done g k h.rows.polynomial.long holds in
    let low : j < g.D = let z = holds.same-degree in omega (arith, a.entry.row) in (
      q ∙ holds.same-terms,
      record {
        opens = corrected-opens g h j t e (record { row = low; later = a.entry.later; inside = omega (arith, a.entry.inside, holds.same-lengths j a.entry.row) }) (let z = holds.same-modulus in omega (arith, a.small)) pass;
        holds = there;
        only = λ s y. sym (holds-unique (corrected g j t e) k new s there y);
      },
    )
