-- The room for the text of a job.
--   text_room   the most bytes of a text: 9 KiB, of which 9,093 would be filled if every number had ten digits
-- Assumes nothing.
use Rattle.std.specs.Prelude.{ℕ}

abbrev pub text_room : ℕ
text_room = 9216
