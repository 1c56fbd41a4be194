-- What writing the text of a job leaves.
--   Wrote        the text of what is given stands at the buffer's beginning
--   WroteSheet   the text of a sheet does
--   rooted_verdict   what the checks of opening a job's sheet come to
--   OpenedJob    the sheet of what is given was opened, with the roots listed, or found where none are
--   WroteGiven   by the verdict in a sheet that has room for every job
-- Assumes nothing.
use Rattle.std.specs.Prelude.{ℕ, List, length}
use Rattle.numbers.specs.Refusals.{judge, Outcome, Verdict}
use Rattle.sheet.specs.Sheet.{Given}
use Rattle.open.specs.Open.{OpenedBy}
use Rattle.text.specs.internal.Rooms.{sheet_room}
use Rattle.text.specs.Limits.{text_room}
use Rattle.text.specs.internal.Putting.{Puts}
use Rattle.text.specs.declared.Profile.{Profile}
use Rattle.listing.specs.Listing.{rooted, rooted_checks, Shows, TextOf}

-- the text of what is given stands at the buffer's beginning
pub record Wrote (profile : Profile) (v : Verdict) (g : Given) (old : List ℕ) (answer : ℕ) (new : List ℕ) : Type 0 where
  pub text : List ℕ
  pub is : TextOf profile v g text
  pub puts : Puts text_room text 0 old answer new

pub record WroteSheet (profile : Profile) (s old : List ℕ) (answer : ℕ) (new : List ℕ) : Type 0 where
  pub text : List ℕ
  pub is : Shows profile s text
  pub puts : Puts text_room text 0 old answer new

unfoldable pub rooted_verdict : Given → ℕ → Verdict
rooted_verdict g room = judge (rooted_checks g room)

abbrev pub OpenedJob : (g : Given) (old : List ℕ) (answer : Outcome ℕ) (new : List ℕ) → Type 0
OpenedJob g old = OpenedBy (rooted_verdict g (length old)) (rooted g) old

-- by the verdict in a sheet that has room for every job
abbrev pub WroteGiven : Profile → (g : Given) (old : List ℕ) (answer : ℕ) (new : List ℕ) → Type 0
WroteGiven profile g old answer new = Wrote profile (rooted_verdict g sheet_room) (rooted g) old answer new
