-- `open::writing::write_factors` meets its contract. The loop's invariant: the factors before i are written.
-- Assumes nothing.
use mathlib.Core.Path.{◌≡◌}
use Prim.Native.Nat.{◌*◌}
use lib.ListN.{length}
use Rattle.algebra.specs.Sums.{sum_to}
use Rattle.numbers.specs.Words.{word}
use Rattle.numbers.proofs.WordsLaws.{Writing}
use Rattle.rows.specs.Rows.{table}
use Rattle.open.specs.internal.Writing.{factor_table}
use Rattle.open.proofs.writing.write_factors.Given as goal

abbrev pub invariant-loop-root : goal.invariant-loop-root
invariant-loop-root l = (l.at ≡ sum_to (length l.yielded) (word l.powers) * l.n) × Writing (table (sum_to (length l.yielded) (word l.powers)) l.n (factor_table l.p l.roots l.powers)) l.initial.out l.out
