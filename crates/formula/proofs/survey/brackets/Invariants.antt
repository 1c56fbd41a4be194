-- `formula::survey::brackets` meets its contract: the rest of the text goes as deep as the text does.
-- Assumes nothing.
use mathlib.Core.Path.{◌≡◌}
use Prim.Native.Nat.{◌≤◌}
use lib.ListN.{drop}
use Rattle.formula.specs.internal.Survey.{deepest}
use Rattle.formula.proofs.survey.brackets.Given as goal

abbrev pub invariant-loop-b : goal.invariant-loop-b
invariant-loop-b l = (l.level ≤ l.b-index) × (deepest 0 0 l.text ≡ deepest l.level l.most (drop l.b-index l.text))
