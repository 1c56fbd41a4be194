-- An outcome in the 64 bits that a call from C answers.
--   packed o        high half 0 and the answer, or the refusal's number and its detail
--   packed_number o  the same of a number that travels with its modulus: its value
--   Packs r P       r is packed from an outcome of which P holds
-- Assumes nothing.
use Rattle.std.specs.Prelude.{ℕ, ◌+◌, ◌*◌, ◌≡◌}
use Rattle.numbers.specs.Refusals.{Outcome, accepted, refused}
use Rattle.residues.specs.declared.Number.{Number}

unfoldable pub packed : Outcome ℕ → ℕ
packed (accepted a) = a
packed (refused n d) = n * 4294967296 + d

unfoldable pub packed_number : Outcome Number → ℕ
packed_number (accepted a) = a.value
packed_number (refused n d) = n * 4294967296 + d

pub record Packs (r : ℕ) (P : Outcome ℕ → Type 0) : Type 0 where
  pub outcome : Outcome ℕ
  pub packs : r ≡ packed outcome
  pub holds : P outcome
