-- What the functions that read a sheet know of its places. No public contract cites these.
--   HeaderIs s h   h is what the header of s says, but for the offsets
--   OffsetsAre s o o are the offsets that it says
--   Placed s       the bounds that keep every place of a sheet within the slice, and every number on the way there small
--   roots_offset, polynomial_offset, factors_offset, rest_offset, end_offset   header words 5 to 9
--   root_table roots powers     row i is root i, then power i
-- Assumes nothing.
use Rattle.std.specs.Prelude.{ℕ, ◌≤◌, zero, suc, ◌≡◌, List, length}
use Rattle.algebra.specs.Sums.{sum_to}
use Rattle.numbers.specs.Limits.{largest_degree, largest_width}
use Rattle.layout.specs.declared.Header.{Header}
use Rattle.layout.specs.declared.Offsets.{Offsets}
use Rattle.layout.specs.Layout.{modulus, degree, width, terms, count, reach, power, end}
use Rattle.numbers.specs.Words.{word}

abbrev pub roots_offset : List ℕ → ℕ
roots_offset s = word s 5

abbrev pub polynomial_offset : List ℕ → ℕ
polynomial_offset s = word s 6

abbrev pub factors_offset : List ℕ → ℕ
factors_offset s = word s 7

abbrev pub rest_offset : List ℕ → ℕ
rest_offset s = word s 8

abbrev pub end_offset : List ℕ → ℕ
end_offset s = word s 9

-- root i, then power i: row i of the roots
abbrev pub root_table : (roots powers : List ℕ) → ℕ → ℕ → ℕ
root_table roots powers i zero = word roots i
root_table roots powers i (suc t) = word powers i

pub record HeaderIs (s : List ℕ) (h : Header) : Type 0 where
  pub p-is : h.p ≡ modulus s
  pub degree-is : h.degree ≡ degree s
  pub width_is : h.width ≡ width s
  pub terms-is : h.terms ≡ terms s
  pub count-is : h.count ≡ count s
  pub reach-is : h.reach ≡ reach s

pub record OffsetsAre (s : List ℕ) (o : Offsets) : Type 0 where
  pub roots-is : o.roots ≡ roots_offset s
  pub polynomial-is : o.polynomial ≡ polynomial_offset s
  pub factors-is : o.factors ≡ factors_offset s
  pub rest-is : o.rest ≡ rest_offset s
  pub end_is : o.end ≡ end_offset s

pub record Placed (s : List ℕ) : Type 0 where
  pub degree-high : degree s ≤ largest_degree
  pub width-high : width s ≤ largest_width
  pub count-high : count s ≤ largest_degree
  pub powers-sum : sum_to (count s) (power s) ≡ degree s
  pub long : end s ≤ length s
