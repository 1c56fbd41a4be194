-- `open::writing::spread` meets its contract. The loop's invariant: the rows before j are written.
-- Assumes nothing.
use Rattle.numbers.specs.Words.{word}
use Rattle.numbers.proofs.WordsLaws.{Writing}
use Rattle.rows.specs.Rows.{table}
use Rattle.hensel.specs.Factors.{flat}
use Rattle.open.proofs.writing.spread.Given as goal

abbrev pub invariant-loop-j : goal.invariant-loop-j
invariant-loop-j l = Writing (table l.j l.n (flat (word l.column))) l.initial.out l.out
