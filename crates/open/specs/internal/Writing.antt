-- The words of a fresh sheet, with one term, from what open is given and the powers found.
--   front_words ..                the header and the known lengths
--   degree_of powers              D, the sum of the powers
--   factor_table ..               the factors' rows, 0 from column 1 on: at X = 0 factor i is (Y − c_i)^(m_i)
--   fresh_content, fresh_words     what the sheet holds, and its words
--   FreshReady                   what writing them needs
--   room_verdict g old            refusal 10 where T words are more than there are
--   Finished ..                  the answer by this verdict, and the words at exit
-- Assumes nothing.
use Rattle.std.specs.Prelude.{ℕ, ◌≡◌, List, [], ◌∷◌, ◌++◌, length}
use Rattle.algebra.specs.Sums.{sum_to}
use Rattle.numbers.specs.Words.{word, least, over}
use Rattle.numbers.specs.Refusals.{judge, Outcome, outcome_after, written, room_check, Verdict}
use Rattle.layout.specs.Layout.{header_of}
use Rattle.sheet.specs.Sheet.{Given, given-polynomial}
use Rattle.open.specs.Open.{needed}
use Rattle.sheet.specs.internal.Content.{Content, sheet_words, built, start, stacked, cut, Ready}

abbrev pub front_words : (p D N r : ℕ) (lengths : List ℕ) → List ℕ
front_words p D N r lengths = header_of p D N 1 r (least N D (word lengths)) ++ lengths

abbrev pub degree_of : List ℕ → ℕ
degree_of powers = sum_to (length powers) (word powers)

abbrev pub factor_table : (p : ℕ) (roots powers : List ℕ) → ℕ → ℕ → ℕ
factor_table p roots powers = cut 1 (stacked (length roots) (word powers) (start p (word roots) (word powers)))

abbrev pub fresh_content : Given → List ℕ → Content
fresh_content g powers = built g.p g.D g.N 1 (length g.roots) (word g.lengths) (word g.roots) (word powers) (given-polynomial g) (start g.p (word g.roots) (word powers))

unfoldable pub fresh_words : Given → List ℕ → List ℕ
fresh_words g powers = sheet_words (fresh_content g powers)

abbrev pub FreshReady : Given → List ℕ → Type 0
FreshReady g powers = Ready g.p g.D g.N (length g.roots) (word g.lengths) (word g.roots) (word powers) (given-polynomial g)

abbrev pub room_verdict : Given → List ℕ → Verdict
room_verdict g old = judge (room_check (length old) (needed g) ∷ [])

pub record Finished (g : Given) (powers old : List ℕ) (answer : Outcome ℕ) (new : List ℕ) : Type 0 where
  pub answers : answer ≡ outcome_after (room_verdict g old) (needed g)
  pub leaves : new ≡ written (room_verdict g old) (over (fresh_words g powers) old) old
