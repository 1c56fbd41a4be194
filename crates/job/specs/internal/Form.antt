-- What the functions that read a job file know.
--   FormIs b f            f is the form of the file b; its sizes are small
--   roots_room, rows_room   the most roots of a job, and the most words of its rows: 13 · 64
--   most_fields            the most fields of a right file: the head, the roots and the rows
--   longest_job            the most bytes of a right file: 2 + 4 · most_fields
--   bytes_bound n          256^n, which a number of n bytes does not reach
-- Assumes nothing.
use Rattle.std.specs.Prelude.{ℕ, zero, suc, ◌*◌, ◌≤◌, ◌≡◌, List}
use Rattle.job.specs.declared.Form.{Form}
use Rattle.job.specs.Job.{fields_from, field_size}

pub record FormIs (b : List ℕ) (f : Form) : Type 0 where
  pub first-is : f.first ≡ fields_from b
  pub size_is : f.size ≡ field_size b
  pub first-high : f.first ≤ 2
  pub size_low : 2 ≤ f.size
  pub size-high : f.size ≤ 4

abbrev pub roots_room : ℕ
roots_room = 12

abbrev pub rows_room : ℕ
rows_room = 832

abbrev pub most_fields : ℕ
most_fields = 850

abbrev pub longest_job : ℕ
longest_job = 3402

unfoldable pub bytes_bound : ℕ → ℕ
bytes_bound zero = 1
bytes_bound (suc n) = 256 * bytes_bound n
