-- Reading the first line from left to right: how the program finds what an input asks for. No public contract cites these; `order_is` says that
-- the order found is the one that the input asks for.
--   after_blanks s      s without the blanks that it begins with
--   Figures, figures_of, figures   a number as far as it was read: its value, its digits, nine at most, and what follows
--   number_in s         so the number that s has after blanks
--   begins b s         s begins with the byte b
--   order_end, order_rest, order_from   the order of an input from its second number's end on, from this number on, and from the first number on
--   order_of s          the order of the input s
--   told from v at      what is answered of a number of value v that was read from one place to another: nothing where it has no digit
--   BlanksAt, NumberIs, NumberAt, LineIs   what the program answers, in terms of places
-- Assumes nothing.
use Rattle.std.specs.Prelude.{ℕ, suc, ◌+◌, ◌-◌, ◌*◌, ◌≤◌, ◌≡◌, Bool, false, ◌||◌, List, [], ◌∷◌, Option, Some, None, eqb, leb, ltb, length, drop}
use Rattle.numbers.specs.Words.{choose, outside}
use Rattle.formula.specs.Limits.{most_digits}
use Rattle.typed.specs.Order.{Order, asks, none, unended}
use Rattle.typed.specs.declared.line.Number.{Number}
use Rattle.typed.specs.declared.line.Line.{Line}

unfoldable pub after_blanks : List ℕ → List ℕ
after_blanks [] = []
after_blanks (b ∷ s) = choose (eqb b 32) (after_blanks s) (b ∷ s)

pub record Figures : Type 0 where
  pub value : ℕ
  pub count : ℕ
  pub rest : List ℕ

abbrev pub figures_of : (value count : ℕ) (rest : List ℕ) → Figures
figures_of v k s = record { value = v; count = k; rest = s }

-- s follows k digits that stand for v
unfoldable pub figures : (v k : ℕ) → List ℕ → Figures
figures v k [] = figures_of v k []
figures v k (b ∷ s) = choose (outside 48 57 b || leb most_digits k) (figures_of v k (b ∷ s)) (figures (v * 10 + (b - 48)) (suc k) s)

abbrev pub number_in : List ℕ → Figures
number_in s = figures 0 0 (after_blanks s)

abbrev pub begins : ℕ → List ℕ → Bool
begins b [] = false
begins b (x ∷ s) = eqb x b

abbrev pub order_end : (p N : ℕ) → List ℕ → Order
order_end p N s = choose (begins 10 s) (asks p N (unended (drop 1 s))) none

abbrev pub order_rest : (p : ℕ) → Figures → Order
order_rest p f = choose (eqb f.count 0) none (order_end p f.value (after_blanks f.rest))

abbrev pub order_from : Figures → Order
order_from f = choose (eqb f.count 0) none (choose (begins 32 f.rest) (order_rest f.value (number_in (drop 1 f.rest))) none)

unfoldable pub order_of : List ℕ → Order
order_of s = order_from (number_in s)

pub record BlanksAt (s : List ℕ) (from at : ℕ) : Type 0 where
  pub fits : at ≤ length s
  pub rest-is : drop at s ≡ after_blanks (drop from s)

-- what was read from one place to another
abbrev pub told : (from value at : ℕ) → Option Number
told from v at = choose (ltb from at) (Some (record { value = v; at = at })) None

pub record NumberIs (f : Figures) (s : List ℕ) (r : Number) : Type 0 where
  pub some : f.count ≡ 0 → ⊥
  pub value-is : r.value ≡ f.value
  pub rest-is : drop r.at s ≡ f.rest
  pub fits : r.at ≤ length s

abbrev pub NumberAt : Figures → List ℕ → Option Number → Type 0
NumberAt f s None = f.count ≡ 0
NumberAt f s (Some r) = NumberIs f s r

abbrev pub LineIs : Order → List ℕ → Option Line → Type 0
LineIs o s (Some l) = (l.text ≤ length s) × (o ≡ asks l.modulus l.terms (unended (drop l.text s)))
LineIs o s None = o ≡ none
