-- What listing a job answers and leaves, by a profile: its factors, or its roots as series.
--   job_given b             what the job file b gives: its rows are all known to N
--   rooted g               this, with all roots where none are listed
--   rooted_checks g room    open's checks, or where no roots are listed find's
--   list_verdict b          all the checks of a job, in their order: its own, and then these
--   RootsShown s text      of a sheet: the line of refusal 22, or the listing of its roots
--   Shows profile s text   of a sheet: its listing, or that of its roots
--   TextOf profile v g text   under the verdict v, the line of the refusal, or what the sheet shows that holds what is given, with N terms
--   IsListing profile job text   the text that the job comes to
--   room_verdict text old   refusal 10 where the text has no room
--   Listed ..              lent `old`, listing answers `answer` and leaves `new`; with 9,216 bytes there is always room
-- (`one-listing` shows that each job comes to exactly one text.)
-- Assumes nothing.
use Rattle.std.specs.Prelude.{ℕ, ◌+◌, ◌*◌, ◌≤◌, ◌≡◌, List, [], ◌∷◌, ◌++◌, ltb, eqb, length}
use Rattle.numbers.specs.Words.{choose, over}
use Rattle.numbers.specs.Refusals.{Check, check, judge, Outcome, outcome_after, written, Row, Verdict, Pass, Refuse}
use Rattle.sheet.specs.Sheet.{Given, whole_of, Holds}
use Rattle.open.specs.Open.{needed, open_checks}
use Rattle.open.specs.Find.{with_roots, find_checks}
use Rattle.simple.specs.Simple.{SeriesRoots, multiple_check}
use Rattle.job.specs.Limits.{head_fields}
use Rattle.job.specs.Job.{fields, job_modulus, job_degree, job_width, job_count, job_checks}
use Rattle.text.specs.Limits.{text_room}
use Rattle.text.specs.Text.{listing_text, roots_text, refused_text}
use Rattle.text.specs.declared.Profile.{Profile}
use Rattle.text.specs.declared.Profile.TheVariants.{Factors, Roots}

unfoldable pub job_given : List ℕ → Given
job_given b = whole_of (job_modulus b) (job_degree b) (job_width b)
    (fields b (head_fields + job_count b) ((job_degree b + 1) * job_width b))
    (fields b head_fields (job_count b))

abbrev pub rooted : Given → Given
rooted g = choose (eqb (length g.roots) 0) (with_roots g) g

abbrev pub rooted_checks : Given → ℕ → List Check
rooted_checks g room = choose (eqb (length g.roots) 0) (find_checks g room) (open_checks g room)

-- there is room enough here, so that the last row, 10, is never given
unfoldable pub list_verdict : List ℕ → Verdict
list_verdict b = judge (job_checks b ++ rooted_checks (job_given b) (needed (rooted (job_given b))))

pub record RootsShown (s text : List ℕ) : Type 0 where
  pub refused : (r : Row) → judge (multiple_check s ∷ []) ≡ Refuse r → text ≡ refused_text r.number r.detail
  pub listed : judge (multiple_check s ∷ []) ≡ Pass → (h : List ℕ) → SeriesRoots s h → text ≡ roots_text s h

abbrev pub Shows : Profile → (s text : List ℕ) → Type 0
Shows Factors s text = text ≡ listing_text s
Shows Roots s text = RootsShown s text

pub record TextOf (profile : Profile) (v : Verdict) (g : Given) (text : List ℕ) : Type 0 where
  pub refused : (r : Row) → v ≡ Refuse r → text ≡ refused_text r.number r.detail
  pub listed : v ≡ Pass → (s : List ℕ) → Holds g g.N s → Shows profile s text

abbrev pub IsListing : Profile → (job text : List ℕ) → Type 0
IsListing profile job text = TextOf profile (list_verdict job) (rooted (job_given job)) text

abbrev pub room_verdict : (text old : List ℕ) → Verdict
room_verdict text old = judge (check 10 (ltb (length old) (length text)) (length text) ∷ [])

pub record Listed (profile : Profile) (job old : List ℕ) (answer : Outcome ℕ) (new : List ℕ) : Type 0 where
  pub text : List ℕ
  pub is : IsListing profile job text
  pub short : length text ≤ text_room
  pub answers : answer ≡ outcome_after (room_verdict text old) (length text)
  pub leaves : new ≡ written (room_verdict text old) (over text old) old
