-- For every input the contract of a call that opens a sheet allows exactly one answer and one content of the slice.
--   opened-by-one   whatever the checks are that let only what is ready pass
--   opened_one      so open
-- Assumes nothing.
use Prim.Native.Nat.{ℕ, ◌≤◌}
use mathlib.Core.Path.{◌≡◌, refl, sym, subst, ap₂}
use mathlib.Core.Logic.{◌↔◌}
use mathlib.Core.List.{List}
use lib.ListN.{length}
use Rattle.numbers.specs.Words.{over}
use Rattle.numbers.specs.Refusals.{Outcome, outcome_after, written, Leaves, Verdict, Pass, Refuse}
use Rattle.numbers.specs.One.{OneOutcome}
use Rattle.sheet.specs.Sheet.{Given}
use Rattle.open.specs.Open.{needed, open_verdict, OpenDone, OpenedBy, Opened}
use Rattle.open.proofs.OpeningLaws.{GivenReady, open-ready, open_words, open_done, open-only}

module _ (verdict : Verdict) (g : Given) (old : List ℕ) (ready : verdict ≡ Pass → GivenReady g × (needed g ≤ length old)) where
  -- the contract as two equations
  opened-is : (a : Outcome ℕ) (new : List ℕ) → OpenedBy verdict g old a new ↔ ((a ≡ outcome_after verdict (needed g)) × (new ≡ written verdict (over (open_words g) old) old))
  opened-is a new = (λ x. (x.answers, (go verdict refl).0 x.leaves), λ e. record { answers = e.0; leaves = (go verdict refl).1 e.1 })
    where
      go : (v : Verdict) → verdict ≡ v → Leaves v (OpenDone g old new (needed g)) old new ↔ (new ≡ written v (over (open_words g) old) old)
      go Pass e =
          let h = ready e in
          (open-only g old h.0 h.1 new, λ q. subst (λ n. OpenDone g old n (needed g)) (sym q) (open_done g old h.0 h.1))
      go (Refuse r) e = (λ q. q, λ q. q)

  pub opened-by-one : OneOutcome (OpenedBy verdict g old)
  opened-by-one = (
    (outcome_after verdict (needed g), written verdict (over (open_words g) old) old),
    record { is = (opened-is _ _).1 (refl, refl); only = λ y x. let z = (opened-is y.0 y.1).0 x in ap₂ (λ a s. (a, s)) z.0 z.1 },
  )

pub opened_one : (g : Given) (old : List ℕ) → OneOutcome (Opened g old)
opened_one g old = opened-by-one (open_verdict g (length old)) g old (open-ready g (length old))
