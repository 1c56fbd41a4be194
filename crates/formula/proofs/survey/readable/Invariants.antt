-- `formula::survey::readable` meets its contract: the pass so far.
-- Assumes nothing.
use Rattle.formula.proofs.SurveyLaws.{Surveyed}
use Rattle.formula.proofs.survey.readable.Given as goal

abbrev pub invariant-loop-b : goal.invariant-loop-b
invariant-loop-b l = Surveyed l.text l.b-index l.g
