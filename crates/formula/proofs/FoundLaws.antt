-- What the scan and the survey find: every text has the reading that the scan finds, and the survey says whether it is one and how deep.
-- Assumes nothing.
use mathlib.Core.Path.{◌≡◌, refl, sym, ap, ◌∙◌, subst}
use mathlib.Core.Bool.{Bool, true, false}
use mathlib.Core.List.{List}
use Prim.Native.Nat.{ℕ, ◌≤◌, ◌<◌}
use native.Mathlib.Omega.{arith}
use borrow.Author.Tests.{lt-ltb, le-ltb}
use lib.Dec.{ltb}
use lib.ListN.{length, drop}
use Rattle.numbers.specs.One.{One}
use Rattle.numbers.specs.Words.{choose}
use Rattle.formula.specs.Formula.{Reading, reads, unreadable}
use Rattle.formula.specs.Grammar.{Derives}
use Rattle.formula.specs.internal.Scan.{bottom, lead, scan}
use Rattle.formula.specs.internal.Survey.{is_read, deepest, not_read, too_deep, survey_of, survey_at}
use Rattle.numbers.specs.Refusals.{Pass}
use Rattle.formula.proofs.CompleteLaws.{scan-complete, one-reading}
use Rattle.formula.proofs.SoundLaws.{scan-sound}

-- every text has the reading that the scan finds
pub scan-derives : (s : List ℕ) → Derives s (scan (lead bottom) s)
scan-derives s = go (scan (lead bottom) s) refl
  where
    go : (r : Reading) → scan (lead bottom) s ≡ r → Derives s r
    go (reads f) e = scan-sound f s e
    go unreadable e = λ f y. let z = scan-complete f s y in let w : unreadable ≡ reads f = sym e ∙ z in let v : ◌≡◌ {A = ℕ} 0 1 = cc in omega arith

-- and no other
pub reading-one : (s : List ℕ) → One (Derives s)
reading-one s = (scan (lead bottom) s, record { is = scan-derives s; only = λ r d. one-reading r (scan (lead bottom) s) s d (scan-derives s) })

-- a text that the scan does not read
pub unread : (s : List ℕ) → scan (lead bottom) s ≡ unreadable → Derives s unreadable
unread s e = subst (Derives s) e (scan-derives s)

-- what the survey says
module _ (s : List ℕ) (at : ℕ) (R : List ℕ) (e : R ≡ drop at s) (h : at ≤ length s) where
  at-is : survey_at s at ≡ survey_of R
  unfolding survey_at
  at-is = ap (λ (b : Bool). choose b not_read (survey_of (drop at s))) (le-ltb (length s) at h) ∙ ap survey_of (sym e)

  pub survey-long : 4096 < length R → not_read ≡ survey_at s at
  unfolding survey_of
  survey-long l = sym (at-is ∙ ap (λ (b : Bool). choose b not_read (choose (is_read (scan (lead bottom) R)) (choose (ltb 32 (deepest 0 0 R)) too_deep Pass) not_read)) (lt-ltb 4096 (length R) l))

  module _ (l : length R ≤ 4096) where
    short-is : survey_at s at ≡ choose (is_read (scan (lead bottom) R)) (choose (ltb 32 (deepest 0 0 R)) too_deep Pass) not_read
    unfolding survey_of
    short-is = at-is ∙ ap (λ (b : Bool). choose b not_read (choose (is_read (scan (lead bottom) R)) (choose (ltb 32 (deepest 0 0 R)) too_deep Pass) not_read)) (le-ltb 4096 (length R) l)

    pub survey-unread : is_read (scan (lead bottom) R) ≡ false → not_read ≡ survey_at s at
    survey-unread q = sym (short-is ∙ ap (λ (b : Bool). choose b (choose (ltb 32 (deepest 0 0 R)) too_deep Pass) not_read) q)

    pub survey-deep : is_read (scan (lead bottom) R) ≡ true → (d : ℕ) → d ≡ deepest 0 0 R → 32 < d → too_deep ≡ survey_at s at
    survey-deep q d z g =
        sym (short-is ∙ ap (λ (b : Bool). choose b (choose (ltb 32 (deepest 0 0 R)) too_deep Pass) not_read) q
        ∙ ap (λ (b : Bool). choose b too_deep Pass) (lt-ltb 32 (deepest 0 0 R) (subst (λ (x : ℕ). 32 < x) z g)))

    pub survey-fine : is_read (scan (lead bottom) R) ≡ true → (d : ℕ) → d ≡ deepest 0 0 R → d ≤ 32 → Pass ≡ survey_at s at
    survey-fine q d z g =
        sym (short-is ∙ ap (λ (b : Bool). choose b (choose (ltb 32 (deepest 0 0 R)) too_deep Pass) not_read) q
        ∙ ap (λ (b : Bool). choose b too_deep Pass) (le-ltb 32 (deepest 0 0 R) (subst (λ (x : ℕ). x ≤ 32) z g)))

pub survey-past : (s : List ℕ) (at : ℕ) → length s < at → not_read ≡ survey_at s at
unfolding survey_at
survey-past s at l = sym (ap (λ (b : Bool). choose b not_read (survey_of (drop at s))) (lt-ltb (length s) at l))
