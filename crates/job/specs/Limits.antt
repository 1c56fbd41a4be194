-- The limits of a job, each by name.
--   most_degree, most_width   the largest D, and so the most roots, and the largest N
--   head_fields              the fields of the head: p, D, N, r and two offsets
--   job_room                 the bytes that the program reads of a file: more than a right one has
-- Assumes nothing.
use Rattle.std.specs.Prelude.{ℕ}

abbrev pub most_degree : ℕ
most_degree = 12

abbrev pub most_width : ℕ
most_width = 64

abbrev pub head_fields : ℕ
head_fields = 6

abbrev pub job_room : ℕ
job_room = 4096
