-- How the series are had from a sheet.
--   multiple_verdict s   what refusal 22 alone comes to
--   AllSimple s         every root has power 1
--   negated p s         minus the words of s
--   root_series s i      minus the row of factor i
--   root_words s         these, for all roots
-- Assumes nothing.
use Rattle.std.specs.Prelude.{ℕ, ◌-◌, ◌<◌, ◌%◌, ◌≡◌, List, [], ◌∷◌, length}
use Rattle.numbers.specs.Words.{word, tabulate}
use Rattle.numbers.specs.Refusals.{judge, Verdict}
use Rattle.rows.specs.Rows.{table}
use Rattle.layout.specs.Layout.{modulus, width, count, power, factor}
use Rattle.simple.specs.Simple.{multiple_check}

unfoldable pub multiple_verdict : List ℕ → Verdict
multiple_verdict s = judge (multiple_check s ∷ [])

abbrev pub AllSimple : List ℕ → Type 0
AllSimple s = (i : ℕ) → i < count s → power s i ≡ 1

abbrev pub negated : ℕ → List ℕ → List ℕ
negated p s = tabulate (length s) (λ i. (p - word s i) % p)

abbrev pub root_series : List ℕ → ℕ → ℕ → ℕ
root_series s i t = (modulus s - factor s i 0 t) % modulus s

unfoldable pub root_words : List ℕ → List ℕ
root_words s = table (count s) (width s) (root_series s)
