-- `calls::make_calls` meets its contract. The loop's invariant: the calls before i are made.
-- Assumes nothing.
use Rattle.calls.specs.internal.Making.{CallsMade}
use Rattle.calls.proofs.make_calls.Given as goal

abbrev pub invariant-loop-i : goal.invariant-loop-i
invariant-loop-i l = CallsMade l.i l.calls l.initial.sheet l.sheet l.initial.answers l.answers
