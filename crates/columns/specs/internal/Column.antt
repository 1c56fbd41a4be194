-- Columns of rows, and one digit of a column, E = q · A + (Y − c) · B. No public contract cites these.
--   horner_word p c n b t     Horner's scheme at c: what the n words of b from t on come to
--   horner_words p c e        the whole scheme: word 0 is the value at c, the others are the quotient by Y − c
--   less_multiple p q a e     e − q · a
--   digit_of p c w e          the digit q of e: w times its value, w the inverse of A(c)
--   digit_words p c w a e     this digit, and then the words of B; a is the quotient of A by Y − c
--   line_times p c e          q + (Y − c) · r, for e = q, r_0, r_1, ..
--   first_only x t            x, 0, 0, ..
--   middle_sum a b j t        the coefficient of Y^j X^t of a · b without the products with column 0
--   times a b                the product of polynomials before it is reduced
--   ColumnStored N t e old new       the rows of N words in new are those in old, with e as column t of the first rows
--   ColumnsSet N h w rows g old new  the rows of N words in new are those in old, with g's columns h to w − 1 in the first rows
-- Assumes nothing.
use Rattle.std.specs.Prelude.{ℕ, zero, suc, ◌+◌, ◌-◌, ◌*◌, ◌%◌, ◌≤◌, ◌<◌, ◌≡◌, ◌⊎◌, List, ◌∷◌, length, drop}
use Rattle.algebra.specs.Sums.{sum_to}
use Rattle.numbers.specs.Words.{word, tabulate, over}
use Rattle.rows.specs.internal.Passes.{pass_sum}

unfoldable pub horner_word : (p c n : ℕ) (b : ℕ → ℕ) → ℕ → ℕ
horner_word p c zero b t = 0
horner_word p c (suc n) b t = (b t + c * horner_word p c n b (suc t)) % p

unfoldable pub horner_words : (p c : ℕ) (e : List ℕ) → List ℕ
horner_words p c e = tabulate (length e) (λ t. horner_word p c (length e - t) (word e) t)

unfoldable pub less_multiple : (p q : ℕ) (a e : List ℕ) → List ℕ
less_multiple p q a e = over (tabulate (length a) (λ j. (word e j + (p - q * word a j % p)) % p)) e

abbrev pub digit_of : (p c w : ℕ) (e : List ℕ) → ℕ
digit_of p c w e = word (horner_words p c e) 0 * w % p

unfoldable pub digit_words : (p c w : ℕ) (a e : List ℕ) → List ℕ
digit_words p c w a e = digit_of p c w e ∷ less_multiple p (digit_of p c w e) a (drop 1 (horner_words p c e))

unfoldable pub line_times : (p c : ℕ) (e : List ℕ) → List ℕ
line_times p c e = tabulate (length e) (λ j. (word e j + (p - c) * word e (j + 1)) % p)

abbrev pub first_only : ℕ → ℕ → ℕ
first_only x zero = x
first_only x (suc t) = 0

abbrev pub middle_sum : (a b : ℕ → ℕ → ℕ) (j t : ℕ) → ℕ
middle_sum a b j t = pass_sum a b j 1 (t - 1)

-- the polynomial with coefficients a · b, before it is reduced
abbrev pub times : (a b : ℕ → ℕ) → ℕ → ℕ
times a b j = sum_to (suc j) (λ i. a i * b (j - i))

pub record ColumnStored (N t : ℕ) (e old new : List ℕ) : Type 0 where
  pub long : length new ≡ length old
  pub here : (j : ℕ) → j < length e → word new (j * N + t) ≡ word e j
  pub others : (j : ℕ) → j < length e → (s : ℕ) → s < N → (s ≡ t → ⊥) → word new (j * N + s) ≡ word old (j * N + s)
  pub rest : (i : ℕ) → length e * N ≤ i → word new i ≡ word old i

-- columns h to w − 1 of the first rows in new are g's; the other columns, and what comes after these rows, are old's
pub record ColumnsSet (N h w rows : ℕ) (g : ℕ → ℕ → ℕ) (old new : List ℕ) : Type 0 where
  pub long : length new ≡ length old
  pub set : (j : ℕ) → j < rows → (t : ℕ) → h ≤ t → t < w → word new (j * N + t) ≡ g j t
  pub others : (j : ℕ) → j < rows → (t : ℕ) → t < N → (t < h) ⊎ (w ≤ t) → word new (j * N + t) ≡ word old (j * N + t)
  pub past : (z : ℕ) → rows * N ≤ z → word new z ≡ word old z
