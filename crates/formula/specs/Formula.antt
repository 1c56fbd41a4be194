-- Formulas: what typed text stands for. A formula is a sum.
--   Sign       plus or minus
--   Lead       what stands before a sum's first term: nothing or one sign
--   Element    a number, a letter or a bracketed sum
--   Power      an element, or an element to a written power
--   Term       a product of powers: `times t q` has the left run t
--   Sum        a sum of terms: `more s σ t` has the left run s
--   Reading    the formula of a text, or none
--   element_depth, power_depth, term_depth, sum_depth   how deep the brackets stand within each other
-- Assumes nothing.
use Rattle.std.specs.Prelude.{ℕ, suc, max}

pub data Sign : Type 0 where
  plus : Sign
  minus : Sign

pub data Lead : Type 0 where
  none : Lead
  sign : Sign → Lead

mutual
  pub data Element : Type 0 where
    number : ℕ → Element
    letter_x : Element
    letter_y : Element
    bracket : Sum → Element

  pub data Power : Type 0 where
    plain : Element → Power
    raised : Element → ℕ → Power

  pub data Term : Type 0 where
    one : Power → Term
    times : Term → Power → Term

  pub data Sum : Type 0 where
    first : Lead → Term → Sum
    more : Sum → Sign → Term → Sum

pub data Reading : Type 0 where
  reads : Sum → Reading
  unreadable : Reading

unfoldable mutual
  pub element_depth : Element → ℕ
  element_depth (number v) = 0
  element_depth letter_x = 0
  element_depth letter_y = 0
  element_depth (bracket s) = suc (sum_depth s)

  pub power_depth : Power → ℕ
  power_depth (plain e) = element_depth e
  power_depth (raised e n) = element_depth e

  pub term_depth : Term → ℕ
  term_depth (one q) = power_depth q
  term_depth (times t q) = max (term_depth t) (power_depth q)

  pub sum_depth : Sum → ℕ
  sum_depth (first l t) = term_depth t
  sum_depth (more s σ t) = max (sum_depth s) (term_depth t)
