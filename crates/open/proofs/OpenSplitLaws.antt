-- Refusals 9 and 10, after checks that have passed.
--   split-none, split-some   the verdict, by whether there are powers: refusal 9, or what room there is
--   room-pass                there is room enough
-- Assumes nothing.
use Prim.Native.Nat.{ℕ, ◌≤◌}
use mathlib.Core.Path.{◌≡◌, ◌∙◌, ap}
use mathlib.Core.Option.{none, some}
use mathlib.Core.List.{List, [], ◌∷◌, ◌++◌}
use borrow.Author.Tests.{le-ltb}
use Rattle.numbers.specs.Refusals.{Check, check, judge, refusal, room_check, Pass, Refuse}
use Rattle.numbers.proofs.RefusalsLaws.{after-pass, take-check, skip-check, none-judged}
use Rattle.sheet.specs.Sheet.{Given}
use Rattle.open.specs.Open.{powers_of, is_none, needed, split_checks}

module _ (before : List Check) (pass : judge before ≡ Pass) (g : Given) (room : ℕ) where
  pub split-none : powers_of g ≡ none → judge (before ++ split_checks g room) ≡ Refuse (refusal 9 0)
  split-none e = after-pass before (split_checks g room) pass ∙ take-check (check 9 (is_none (powers_of g)) 0) _ (ap is_none e)

  pub split-some : (l : List ℕ) → powers_of g ≡ some l → judge (before ++ split_checks g room) ≡ judge (room_check room (needed g) ∷ [])
  split-some l e = after-pass before (split_checks g room) pass ∙ skip-check (check 9 (is_none (powers_of g)) 0) _ (ap is_none e)

pub room-pass : (room T : ℕ) → T ≤ room → judge (room_check room T ∷ []) ≡ Pass
room-pass room T l = skip-check (room_check room T) [] (le-ltb room T l) ∙ none-judged
