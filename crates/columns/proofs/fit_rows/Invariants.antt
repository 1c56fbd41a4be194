-- `columns::fit_rows` meets its contract. The loop's invariant: the rows before j are written.
-- Assumes nothing.
use mathlib.Core.List.{List}
use Prim.Native.Nat.{ℕ, ◌+◌, ◌*◌}
use Rattle.numbers.specs.Words.{word, up_to}
use Rattle.numbers.proofs.WordsLaws.{Writing}
use Rattle.rows.specs.Rows.{table}
use Rattle.columns.proofs.fit_rows.Given as goal

abbrev pub fitted : List ℕ → ℕ → ℕ → ℕ → ℕ
fitted f n j = up_to n (λ t. word f (j * n + t))

abbrev pub invariant-loop-j : goal.invariant-loop-j
invariant-loop-j l = Writing (table l.j l.w (fitted l.f l.n)) l.initial.out l.out
