-- The room that a job's limits give a sheet and a text, each by name. A number has at most 10 digits.
--   sheet_room               the most words of a job's sheet, 11 + 12 + 2 · 12 + 25 · 64
--   refusal_room, head_room   the most bytes of the line of a refusal, and of line 1 of a listing: 10 + 2 · 10, 29 + 4 · 10
--   root_room, row_room       of a factor's first line, 13 + 2 · 10, and of the line of a row, 15 + 11 · 64
--   factors_room             of the lines of all factors, 12 · root_room + 12 · row_room
-- Assumes nothing.
use Rattle.std.specs.Prelude.{ℕ}

abbrev pub sheet_room : ℕ
sheet_room = 1647

abbrev pub refusal_room : ℕ
refusal_room = 30

abbrev pub head_room : ℕ
head_room = 69

abbrev pub root_room : ℕ
root_room = 33

abbrev pub row_room : ℕ
row_room = 719

abbrev pub factors_room : ℕ
factors_room = 9024
