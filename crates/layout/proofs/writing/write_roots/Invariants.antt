-- `layout::writing::write_roots` meets its contract. The loop's invariant: the roots before i are written, each with its power.
-- Assumes nothing.
use Rattle.numbers.proofs.WordsLaws.{Writing}
use Rattle.rows.specs.Rows.{table}
use Rattle.layout.specs.internal.Places.{root_table}
use Rattle.layout.proofs.writing.write_roots.Given as goal

abbrev pub invariant-loop-i : goal.invariant-loop-i
invariant-loop-i l = Writing (table l.i 2 (root_table l.roots l.powers)) l.initial.out l.out
