-- What the functions that put text into a buffer know and leave.
--   Entries ..     the entries of m rows of n words, from word `from` on, are below a modulus that has signed numbers
--   Listable s     what a sheet must have so that its listing has room
--   Puts ..        a text was put into a buffer from a place on
-- Assumes nothing.
use Rattle.std.specs.Prelude.{ℕ, ◌+◌, ◌≤◌, ◌<◌, ◌≡◌, List, ◌++◌, length, take, drop}
use Rattle.numbers.specs.Limits.{largest_modulus}
use Rattle.layout.specs.Layout.{rows_at, modulus, degree, width, count, factors_from}
use Rattle.layout.specs.internal.Places.{Placed}
use Rattle.job.specs.Limits.{most_degree, most_width}

-- The entries of m rows of n words, from word `from` of s on, are below p, which is no larger than a modulus is.
pub record Entries (p : ℕ) (s : List ℕ) (from n m : ℕ) : Type 0 where
  pub small : p ≤ largest_modulus
  pub reduced : (j : ℕ) → j < m → (t : ℕ) → t < n → rows_at s from n j t < p

-- What a sheet must have so that its listing has room: `listable` says that every sound sheet within a job's limits has it.
pub record Listable (s : List ℕ) : Type 0 where
  pub placed : Placed s
  pub degree-high : degree s ≤ most_degree
  pub width_low : 1 ≤ width s
  pub width-high : width s ≤ most_width
  pub count-high : count s ≤ most_degree
  pub entries : Entries (modulus s) s (factors_from (degree s) (width s) (count s)) (width s) (degree s)

-- A text of at most `room` bytes was put into the buffer `old` from place `at` on, and nothing else was changed; the answer is the place after it.
pub record Puts (room : ℕ) (text : List ℕ) (at : ℕ) (old : List ℕ) (answer : ℕ) (new : List ℕ) : Type 0 where
  pub answers : answer ≡ at + length text
  pub leaves : new ≡ take at old ++ (text ++ drop (at + length text) old)
  pub long : length new ≡ length old
  pub fits : at + length text ≤ length old
  pub within : length text ≤ room
