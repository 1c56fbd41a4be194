-- Exactly one.
--   TheOne P x      x is the one thing with the property P
--   One P           exactly one thing has the property P
--   OneOutcome R    exactly one answer with one content of the slice is in the relation R
-- Assumes nothing.
use Rattle.std.specs.Prelude.{ℕ, ◌≡◌, List}
use Rattle.numbers.specs.Refusals.{Outcome}

pub record TheOne {A : Type 0} (P : A → Type 0) (x : A) : Type 0 where
  pub is : P x
  pub only : (y : A) → P y → y ≡ x

abbrev pub One : {A : Type 0} → (A → Type 0) → Type 0
One {A} P = (x : A) × TheOne P x

abbrev pub OneOutcome : (Outcome ℕ → List ℕ → Type 0) → Type 0
OneOutcome R = One (λ (x : Outcome ℕ × List ℕ). R x.0 x.1)
