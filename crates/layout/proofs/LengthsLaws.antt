-- Rows and their known lengths, as slices hold them.
--   row-known                        what is found of a row is what is asked of it
--   rows-known-not, rows-known-all   a row that is not known to its length, and none
-- Assumes nothing.
use Prim.Native.Nat.{ℕ, ◌+◌, ◌*◌, ◌≤◌, ◌<◌}
use native.Mathlib.Omega.{arith}
use mathlib.Core.Path.{◌≡◌, sym, ap, ◌∙◌}
use mathlib.Core.Bool.{true, false}
use mathlib.Core.List.{List}
use lib.ListN.{length}
use Rattle.numbers.specs.Words.{word}
use Rattle.numbers.proofs.TestsLaws.{all_to-false, at-all_to}
use Rattle.series.specs.Known.{known_to, rows_known}
use Rattle.series.proofs.KnownLaws.{known-ext}
use Rattle.layout.specs.Layout.{rows_at}
use Rattle.layout.proofs.RegionsLaws.{row_part, row_word, row-long}

pub row-known : (rows : List ℕ) (n j m : ℕ) → j * n + n ≤ length rows → known_to (length (row_part n j rows)) m (word (row_part n j rows)) ≡ known_to n m (rows_at rows 0 n j)
row-known rows n j m h =
    ap (λ N. known_to N m (word (row_part n j rows))) (row-long j n rows h)
    ∙ known-ext n m (word (row_part n j rows)) (rows_at rows 0 n j) (λ t l. row_word j n rows t l ∙ ap (word rows) (let z : j * n + t ≡ 0 + j * n + t = omega arith in z))

pub rows-known-not : (N n : ℕ) (lengths : ℕ → ℕ) (f : ℕ → ℕ → ℕ) (j : ℕ) → j < n → known_to N (lengths j) (f j) ≡ false → false ≡ rows_known N n lengths f
unfolding rows_known
rows-known-not N n lengths f j l e = sym (all_to-false n _ j l e)

pub rows-known-all : (N n : ℕ) (lengths : ℕ → ℕ) (f : ℕ → ℕ → ℕ) → ((j : ℕ) → j < n → known_to N (lengths j) (f j) ≡ true) → true ≡ rows_known N n lengths f
unfolding rows_known
rows-known-all N n lengths f h = sym (at-all_to n _ h)
