-- From the verdict of the checks to the answer of a call that opens a sheet.
--   powers-first, powers-fit   the powers found, at the front of an array
--   finish-ready      what finishing needs
--   opened-refused    a refusal leaves the slice as it was
--   opened-finished   powers found: what is left by the room that there is, refusal 10 or the sheet
-- Assumes nothing.
use Prim.Native.Nat.{ℕ, ◌+◌, ◌*◌, ◌≤◌}
use native.Mathlib.Omega.{arith}
use mathlib.Core.Path.{◌≡◌, refl, sym, ◌∙◌, ap, subst}
use mathlib.Core.Option.{some}
use mathlib.Core.Bool.{Bool, true}
use mathlib.Core.List.{List, [], ◌++◌}
use borrow.Author.Tests.{ltb-false}
use lib.ListN.{length, take, length-append}
use lib.Seq.{take_at}
use Rattle.numbers.specs.Words.{over}
use Rattle.numbers.specs.Refusals.{Outcome, refused, outcome_after, written, room_check, Leaves, Row, Verdict, Pass, Refuse}
use Rattle.numbers.proofs.RefusalsLaws.{pass-check}
use Rattle.sheet.specs.Sheet.{Given, whole_of}
use Rattle.open.specs.Open.{powers_of, needed, OpenDone, OpenedBy}
use Rattle.open.specs.internal.Opening.{PowersAnswer}
use Rattle.open.specs.internal.Writing.{fresh_words, FreshReady, room_verdict, Finished}
use Rattle.open.proofs.OpenChecksLaws.{ListPass}
use Rattle.open.proofs.OpenLaws.{found-count, powers-whole}
use Rattle.open.proofs.OpeningLaws.{list-ready, open_words, open_done}
use Rattle.open.proofs.SheetWritingLaws.{open-fresh, ready-fresh}

-- the powers found, at the front of an array
module _ (g : Given) (found : Bool) (l rest : List ℕ) (a : PowersAnswer (whole_of g.p g.D g.N g.rows g.roots) found l) (is : found ≡ true) where
  listed : powers_of g ≡ some l
  listed = sym (powers-whole g) ∙ a.yes is

  pub powers-first : powers_of g ≡ some (take (length g.roots) (l ++ rest))
  powers-first = listed ∙ ap some (sym (take_at l rest (length g.roots) (found-count g l listed)))

  pub powers-fit : length g.roots ≤ length (l ++ rest)
  powers-fit = omega (arith, length-append l rest, found-count g l listed)

pub finish-ready : (g : Given) → ListPass g → (l : List ℕ) → powers_of g ≡ some l
    → FreshReady g l × (length g.rows ≡ (g.D + 1) * g.N) × (length g.lengths ≡ g.D) × (length l ≡ length g.roots)
finish-ready g h l e = (ready-fresh g l e (list-ready g h l e), h.rows.polynomial.long, h.rows.polynomial.lengths-long, found-count g l e)

pub opened-refused : (v : Verdict) (g : Given) (old : List ℕ) (r : Row) (a : Outcome ℕ) → a ≡ refused r.number r.detail → v ≡ Refuse r → OpenedBy v g old a old
opened-refused v g old r a is e = record {
  answers = is ∙ sym (ap (λ v. outcome_after v (needed g)) e);
  leaves = subst (λ v. Leaves v (OpenDone g old old (needed g)) old old) (sym e) refl;
}

pub opened-finished : (v : Verdict) (g : Given) → ListPass g → (l : List ℕ) → powers_of g ≡ some l → (old : List ℕ) → v ≡ room_verdict g old
    → (a : Outcome ℕ) (new : List ℕ) → Finished g l old a new → OpenedBy v g old a new
opened-finished v g h l e old q a new f = record {
  answers = f.answers ∙ sym (ap (λ v. outcome_after v (needed g)) q);
  leaves = subst (λ v. Leaves v (OpenDone g old new (needed g)) old new) (sym q) (go (room_verdict g old) refl);
}
  where
    go : (w : Verdict) → room_verdict g old ≡ w → Leaves w (OpenDone g old new (needed g)) old new
    go Pass z =
        let fits = ltb-false (length old) (needed g) (pass-check (room_check (length old) (needed g)) [] z).0 in
        let words : new ≡ over (open_words g) old = f.leaves ∙ ap (λ w. written w (over (fresh_words g l) old) old) z ∙ ap (λ x. over x old) (sym (open-fresh g l e)) in
        subst (λ x. OpenDone g old x (needed g)) (sym words) (open_done g old (list-ready g h l e) fits)
    go (Refuse r) z = f.leaves ∙ ap (λ w. written w (over (fresh_words g l) old) old) z
