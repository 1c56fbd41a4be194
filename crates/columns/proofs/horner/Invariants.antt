-- `columns::horner` meets its contract. The loop's invariant: from j on the words are those of the scheme, before j the old ones.
-- Assumes nothing.
use Rattle.columns.proofs.ColumnLaws.{Sinking, horner_at}
use Rattle.columns.proofs.horner.Given as goal

abbrev pub invariant-loop-j : goal.invariant-loop-j
invariant-loop-j l = Sinking (horner_at l.p l.c l.initial.e) l.initial.e l.e l.j
