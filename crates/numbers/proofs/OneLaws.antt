-- Laws of "exactly one".
--   one_of, one_same   a solution where two are equal; two solutions are equal
--   verdict-one        a call whose answer and words follow a verdict has one outcome, where what follows a pass has one solution
-- Assumes nothing.
use Prim.Native.Nat.{ℕ}
use mathlib.Core.Path.{◌≡◌, refl, sym, ◌∙◌, ap₂}
use mathlib.Core.Logic.{◌↔◌}
use mathlib.Core.List.{List}
use Rattle.numbers.specs.Refusals.{Outcome, outcome_after, Leaves, Verdict, Pass, Refuse}
use Rattle.numbers.specs.One.{One, OneOutcome}

pub one_of : {A : Type 0} (P : A → Type 0) (x : A) → P x → ((y z : A) → P y → P z → y ≡ z) → One P
one_of P x h same = (x, record { is = h; only = λ y k. same y x k h })

pub one_same : {A : Type 0} (P : A → Type 0) → One P → (y z : A) → P y → P z → y ≡ z
one_same P o y z h k = o.1.only y h ∙ sym (o.1.only z k)

leaves-one : (v : Verdict) (Met : List ℕ → Type 0) (old : List ℕ) → (v ≡ Pass → One Met) → One (λ new. Leaves v (Met new) old new)
leaves-one Pass Met old h = h refl
leaves-one (Refuse r) Met old h = (old, record { is = refl; only = λ new e. e })

pub verdict-one : (R : Outcome ℕ → List ℕ → Type 0) (v : Verdict) (x : ℕ) (Met : List ℕ → Type 0) (old : List ℕ)
    → ((a : Outcome ℕ) (new : List ℕ) → R a new ↔ ((a ≡ outcome_after v x) × Leaves v (Met new) old new)) → (v ≡ Pass → One Met) → OneOutcome R
verdict-one R v x Met old parts h =
    let o = leaves-one v Met old h in (
      (outcome_after v x, o.0),
      record {
        is = (parts (outcome_after v x) o.0).1 (refl, o.1.is);
        only = λ y k. let z = (parts y.0 y.1).0 k in ap₂ (λ a s. (a, s)) z.0 (o.1.only y.1 z.1);
      },
    )
