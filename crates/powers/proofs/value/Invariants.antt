-- `powers::value` meets its contract. The loop's invariant: the sum is what Horner's scheme has at j.
-- Assumes nothing.
use mathlib.Core.Path.{◌≡◌}
use Prim.Native.Nat.{◌<◌, ◌-◌}
use lib.ListN.{length}
use Rattle.numbers.specs.Words.{word}
use Rattle.columns.specs.internal.Column.{horner_word}
use Rattle.powers.proofs.value.Given as goal

abbrev pub invariant-loop-j : goal.invariant-loop-j
invariant-loop-j l = (l.sum ≡ horner_word l.p l.c (length l.e - l.j) (word l.e) l.j) × (l.sum < l.p)
