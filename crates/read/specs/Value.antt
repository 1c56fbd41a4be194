-- The value of a formula: a polynomial in Y over series modulo p, and which parts of a formula are too high.
--   Poly             a degree bound, and the coefficient of Y^j X^t for each j and t: 0 where j is above the bound
--   single i k v     v at Y^i X^k, 0 elsewhere
--   constant, the_x, the_y                      a number, X and Y
--   plus_of, minus_of, times_of, power_of         the operations, coefficient by coefficient with % p
--   signed, leading  the operation of a sign between terms, and of what stands before a sum
--   element_value, power_value, term_value, sum_value     the value of an element, a power, a term, a sum
--   zero_row, top_row  a row of zeros; the largest row that is none
--   degree N f       the largest j for which row j of f is not 0 modulo X^N, or 0: the Y-degree
--   high N f         the Y-degree of f modulo X^N is above 32
--   powers_high ..    so is some power of f from 1 to n
--   element_high, power_high, term_high, sum_high    some part has a value of Y-degree above 32: an element, a written power or a lower power from 1 up
--                    of its element, or a left run of products or sums
-- Columns from N up are never looked at: column t of a sum or product is made of columns up to t, so this is the value modulo X^N.
-- Assumes nothing.
use Rattle.std.specs.Prelude.{ℕ, zero, suc, ◌+◌, ◌-◌, ◌%◌, max, Bool, false, ◌||◌, ltb, eqb}
use Rattle.numbers.specs.Limits.{largest_degree}
use Rattle.numbers.specs.Words.{choose, all_to}
use Rattle.rows.specs.Rows.{mul}
use Rattle.formula.specs.Formula.{Sign, plus, minus, Lead, none, sign, Element, number, letter_x, letter_y, bracket, Power, plain, raised, Term, one, times, Sum, first, more}

pub record Poly : Type 0 where
  pub bound : ℕ
  pub row : ℕ → ℕ → ℕ

-- v at Y^i X^k, 0 elsewhere
abbrev pub single : (i k v : ℕ) → ℕ → ℕ → ℕ
single i k v j t = choose (eqb j i) (choose (eqb t k) v 0) 0

abbrev pub constant : (p v : ℕ) → Poly
constant p v = record { bound = 0; row = single 0 0 (v % p) }

abbrev pub the_x : ℕ → Poly
the_x p = record { bound = 0; row = single 0 1 (1 % p) }

abbrev pub the_y : ℕ → Poly
the_y p = record { bound = 1; row = single 1 0 (1 % p) }

abbrev pub plus_of : ℕ → Poly → Poly → Poly
plus_of p f g = record { bound = max f.bound g.bound; row = λ j t. (f.row j t + g.row j t) % p }

abbrev pub minus_of : ℕ → Poly → Poly → Poly
minus_of p f g = record { bound = max f.bound g.bound; row = λ j t. (f.row j t + (p - g.row j t)) % p }

abbrev pub times_of : ℕ → Poly → Poly → Poly
times_of p f g = record { bound = f.bound + g.bound; row = mul p f.row g.row }

unfoldable pub power_of : ℕ → Poly → ℕ → Poly
power_of p f zero = constant p 1
power_of p f (suc n) = times_of p (power_of p f n) f

abbrev pub signed : ℕ → Sign → Poly → Poly → Poly
signed p plus f g = plus_of p f g
signed p minus f g = minus_of p f g

abbrev pub leading : ℕ → Lead → Poly → Poly
leading p none g = g
leading p (sign plus) g = g
leading p (sign minus) g = minus_of p (constant p 0) g

unfoldable mutual
  pub element_value : ℕ → Element → Poly
  element_value p (number v) = constant p v
  element_value p letter_x = the_x p
  element_value p letter_y = the_y p
  element_value p (bracket s) = sum_value p s

  pub power_value : ℕ → Power → Poly
  power_value p (plain e) = element_value p e
  power_value p (raised e n) = power_of p (element_value p e) n

  pub term_value : ℕ → Term → Poly
  term_value p (one q) = power_value p q
  term_value p (times t q) = times_of p (term_value p t) (power_value p q)

  pub sum_value : ℕ → Sum → Poly
  sum_value p (first l t) = leading p l (term_value p t)
  sum_value p (more s σ t) = signed p σ (sum_value p s) (term_value p t)

abbrev pub zero_row : ℕ → (ℕ → ℕ) → Bool
zero_row N a = all_to N (λ t. eqb (a t) 0)

-- the largest j up to the bound whose row is not 0
unfoldable pub top_row : ℕ → (ℕ → ℕ → ℕ) → ℕ → ℕ
top_row N a zero = 0
top_row N a (suc j) = choose (zero_row N (a (suc j))) (top_row N a j) (suc j)

abbrev pub degree : ℕ → Poly → ℕ
degree N f = top_row N f.row f.bound

abbrev pub high : ℕ → Poly → Bool
high N f = ltb largest_degree (degree N f)

-- some power of f from 1 to n is too high
unfoldable pub powers_high : (p N : ℕ) → Poly → ℕ → Bool
powers_high p N f zero = false
powers_high p N f (suc n) = powers_high p N f n || high N (power_of p f (suc n))

unfoldable mutual
  pub element_high : (p N : ℕ) → Element → Bool
  element_high p N (number v) = high N (constant p v)
  element_high p N letter_x = high N (the_x p)
  element_high p N letter_y = high N (the_y p)
  element_high p N (bracket s) = sum_high p N s

  pub power_high : (p N : ℕ) → Power → Bool
  power_high p N (plain e) = element_high p N e
  power_high p N (raised e n) = element_high p N e || powers_high p N (element_value p e) n

  pub term_high : (p N : ℕ) → Term → Bool
  term_high p N (one q) = power_high p N q
  term_high p N (times t q) = (term_high p N t || power_high p N q) || high N (term_value p (times t q))

  pub sum_high : (p N : ℕ) → Sum → Bool
  sum_high p N (first l t) = term_high p N t || high N (sum_value p (first l t))
  sum_high p N (more s σ t) = (sum_high p N s || term_high p N t) || high N (sum_value p (more s σ t))
