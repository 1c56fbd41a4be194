-- `modulo::Modulus::turn` meets its contract. The loop's invariant: from j on the words are those of the turn, before j the old ones.
-- Assumes nothing.
use mathlib.Core.Path.{◌≡◌}
use Prim.Native.Nat.{◌-◌, ◌%◌, ◌≤◌, ◌<◌}
use lib.ListN.{length}
use Rattle.numbers.specs.Words.{word}
use Rattle.columns.proofs.ColumnLaws.{Sinking}
use Rattle.modulo.specs.internal.Modulo.{turned_at}
use Rattle.modulo.proofs.Modulus.turn.Given as goal

abbrev pub invariant-loop-j : goal.invariant-loop-j
invariant-loop-j l = (1 ≤ l.j) × (l.q < l.self.p) × (l.q ≡ word l.initial.acc (length l.initial.acc - 1) % l.self.p) × Sinking (turned_at l.self.p l.self.f.now l.c l.b l.initial.acc) l.initial.acc l.acc l.j
