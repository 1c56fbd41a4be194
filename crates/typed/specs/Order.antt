-- What typed input asks for: two lines, `MODULUS TERMS` and a polynomial.
--   Order                what is asked for: modulus, number of terms and text of a polynomial, or nothing
--   FirstLine p N        blanks, a number p of 1 to 9 digits, a blank, blanks, such a number N, blanks
--   unended s            s, but for one line feed at its very end
--   Asks input p N text  the input is such a line, a line feed (byte 10) and a rest; the text is the rest, `unended`
--   Orders input order   the input asks for this order, or for nothing
-- No line feed stands in a first line, so it ends at the first one. That every input asks for exactly one order is `one-order`.
-- Assumes nothing.
use Rattle.std.specs.Prelude.{ℕ, ◌-◌, ◌≤◌, ◌≡◌, List, [], ◌∷◌, ◌++◌, eqb, length, take}
use Rattle.numbers.specs.Words.{word, choose}
use Rattle.formula.specs.Grammar.{Blanks, Numeral, Only, ◌⨾◌}
use Rattle.typed.specs.Limits.{longest_input}

pub data Order : Type 0 where
  asks : (p N : ℕ) (text : List ℕ) → Order
  none : Order

abbrev pub FirstLine : (p N : ℕ) → List ℕ → Type 0
FirstLine p N = Blanks ⨾ Numeral p ⨾ Only (32 ∷ []) ⨾ Blanks ⨾ Numeral N ⨾ Blanks

abbrev pub unended : List ℕ → List ℕ
unended s = choose (eqb (word s (length s - 1)) 10) (take (length s - 1) s) s

pub record Asks (input : List ℕ) (p N : ℕ) (text : List ℕ) : Type 0 where
  pub few : length input ≤ longest_input
  pub line : List ℕ
  pub rest : List ℕ
  pub lines : input ≡ line ++ (10 ∷ rest)
  pub first : FirstLine p N line
  pub second : text ≡ unended rest

abbrev pub Orders : List ℕ → Order → Type 0
Orders input (asks p N text) = Asks input p N text
Orders input none = (p N : ℕ) (text : List ℕ) → Asks input p N text → ⊥
