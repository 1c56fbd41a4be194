-- `numbers::kernel::first_high` meets its contract: the second part of the table passes its test, which is computed here.
-- Assumes nothing.
use mathlib.Core.Path.{refl, ◌∙◌, ap}
use native.Mathlib.Omega.{arith}
use Rattle.numbers.specs.Words.{first_where, all_where}
use Rattle.numbers.specs.internal.Limits.{table_bound, low_bound}
use Rattle.numbers.specs.internal.Primes.{first_among, in_table}
use Rattle.numbers.proofs.PrimesLaws.{same, table_is}
use Rattle.numbers.proofs.kernel.first_high.Goals as goal

pub first_among-requires : goal.first_among-requires
unfolding in_table
first_among-requires c = refl

pub returns : goal.returns
unfolding same all_where first_where
returns c = c.first_among.ensures ∙ ap (first_among _) (table_is low_bound table_bound _ (omega arith) (omega arith) refl)
