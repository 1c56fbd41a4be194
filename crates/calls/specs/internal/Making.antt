-- What the functions that make the calls of a list leave.
--   put_answer a i s    the answer of call i, over the words there
--   CallsMade n ..     the first n calls are made
-- Assumes nothing.
use Rattle.std.specs.Prelude.{ℕ, ◌+◌, ◌*◌, ◌≡◌, List, length, set}
use Rattle.numbers.specs.Words.{over}
use Rattle.numbers.specs.Refusals.{Outcome, accepted, refused}
use Rattle.calls.specs.Calls.{Run}
use Rattle.calls.specs.Replay.{calls_to, answer_words}

-- the answer of call i, over the words there
abbrev pub put_answer : Outcome ℕ → ℕ → List ℕ → List ℕ
put_answer (accepted w) i s = set (set s (2 * i) 0) (2 * i + 1) w
put_answer (refused n d) i s = set (set s (2 * i) n) (2 * i + 1) d

-- the first n calls are made
pub record CallsMade (n : ℕ) (calls start last old new : List ℕ) : Type 0 where
  pub answers : List (Outcome ℕ)
  pub run : Run start (calls_to n calls) answers last
  pub words : new ≡ over (answer_words answers) old
  pub size : length (answer_words answers) ≡ 2 * n
  pub long : length new ≡ length old
  pub sheet : length last ≡ length start
