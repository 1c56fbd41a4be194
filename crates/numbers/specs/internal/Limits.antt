-- Limits of the loops, by name.
--   modulus_bound     2^24: every loop is proved for all moduli below it, so that a sum of all products that a call can meet fits 64 bits
--   table_bound       its root: the table has the primes below it
--   low_bound         and the first part of the table those below this, which are enough for moduli of two bytes
-- Assumes nothing.
use Rattle.std.specs.Prelude.{ℕ}

abbrev pub modulus_bound : ℕ
modulus_bound = 16777216

abbrev pub table_bound : ℕ
table_bound = 4096

abbrev pub low_bound : ℕ
low_bound = 256
