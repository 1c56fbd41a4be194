-- What private contracts say of words and of answers.
--   AllBelow p s         every word of s is below p
--   Rising s             each word of s is larger than the one before it
--   Decides b A          b is true where A holds, and false where it doesn't
-- Assumes nothing.
use Rattle.std.specs.Prelude.{ℕ, suc, ◌<◌, ◌≡◌, Bool, true, false, List, length}
use Rattle.numbers.specs.Words.{word}

abbrev pub AllBelow : ℕ → List ℕ → Type 0
AllBelow p s = (k : ℕ) → k < length s → word s k < p

abbrev pub Rising : List ℕ → Type 0
Rising s = (i : ℕ) → suc i < length s → word s i < word s (suc i)

-- an answer to a question
pub record Decides (b : Bool) (A : Type 0) : Type 0 where
  pub yes : b ≡ true → A
  pub no : b ≡ false → A → ⊥
