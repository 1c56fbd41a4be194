-- From the calls that listing makes to the text that the job comes to.
--   rooted-either              what holds of find and of open holds of the way that a job is opened
--   rooted-ready, rooted-sizes, rooted_none, rooted-some   so what it leaves, and which way it is
--   list-refused, list-opens   the verdict of a job: its own checks', or else that of opening its sheet
--   list-room, rooted-room     a sheet of `sheet_room` words is room enough for every job
--   opened-holds      opening leaves a sheet that holds what the job gives
--   roots-refused, roots-shown   the text of a sheet's roots
--   text-refused, text-listed  the text under a verdict
--   wrote-refused, wrote-listed, given-shows   after opening: the refusal, or else extend to N
--   wrote_as, wrote-factors    the text of a sheet, by the profile
--   series-few, series-fits, series-ready, wrote-series   the series of a sheet's roots, in an array, and their text
--   made-fits, made-first      the first words of an array, where a function made them; loaded-first, loaded-long where they are a job's
--   wrote-early, wrote-job     the text of a job, by its own checks or by those of opening
--   put_first, put-fits        a text that stands at the front of a buffer
--   handed-fits, handed-never  a text handed over is within its room, and where there is room it is handed over
--   listed-fits, listed-never  so a listing; `text_room` bytes are always enough
--   shows-one, shown-same      a sound sheet shows exactly one text, and two that hold the same show the same
--   one-text                   under each verdict there is exactly one text
--   one-listing, listed-only   each job comes to exactly one text; so listing it has one outcome only
--   listing-cut                the first bytes of a file that is too long come to its text
-- Assumes nothing.
use Prim.Native.Nat.{ℕ, zero, suc, ◌+◌, ◌-◌, ◌*◌, ◌%◌, ◌≤◌, ◌<◌}
use native.Mathlib.Nat.{mul-le-mul, add-mul}
use native.Mathlib.Omega.{arith}
use mathlib.Core.Path.{◌≡◌, refl, sym, ap, ap₂, subst, ◌∙◌}
use mathlib.Core.Bool.{Bool, true, false}
use mathlib.Core.List.{List, [], ◌∷◌, ◌++◌}
use lib.Dec.{ltb, eqb}
use lib.ListN.{length, take, drop, length-append}
use lib.Seq.{get_or-take, length-take-le, take_at}
use borrow.Author.Tests.{le-ltb, lt-ltb, ltb-false, ne_eqb}
use Rattle.algebra.specs.Sums.{sum_to}
use Rattle.algebra.proofs.SumsLaws.{sum_to-ext, sum_to-count}
use Rattle.numbers.specs.Words.{word, choose, tabulate, over}
use Rattle.numbers.specs.Refusals.{check, judge, refusal, Outcome, accepted, refused, outcome_after, written, Leaves, Row, Verdict, Pass, Refuse}
use Rattle.numbers.specs.One.{TheOne, One}
use Rattle.numbers.proofs.OneLaws.{one_same}
use Rattle.numbers.proofs.RefusalsLaws.{after-pass, after-refuse, pass-parts, take-check, skip-check, none-judged, answer-refused, unlike, accepted-pass}
use Rattle.numbers.proofs.WordsLaws.{tabulate-ext, length-tabulate}
use Rattle.rows.specs.Rows.{table}
use Rattle.rows.proofs.RowsLaws.{table-ext}
use Rattle.layout.specs.Layout.{rows_at, modulus, degree, width, terms, count, root, power, factor, roots_from, factors_from, end}
use Rattle.sheet.specs.Sheet.{Sound, Given, given_of, whole_of, given-reach, Holds}
use Rattle.layout.proofs.PlacesLaws.{upto-power}
use Rattle.layout.proofs.RegionsLaws.{in_rows}
use Rattle.sheet.proofs.ReadingLaws.{sound-placed}
use Rattle.sheet.proofs.SheetsLaws.{sound-terms}
use Rattle.sheet.proofs.HoldsLaws.{whole-reach}
use Rattle.sheet.proofs.UniqueLaws.{holds-unique}
use Rattle.simple.specs.Simple.{SeriesRoots}
use Rattle.simple.specs.internal.Factors.{multiple_verdict, AllSimple, root_series, root_words}
use Rattle.simple.proofs.SimpleLaws.{multiple-same, multiple-pass, rows-low, roots-one, roots-reduced}
use Rattle.extend.specs.Extend.{Extended}
use Rattle.extend.proofs.ExtendTotalLaws.{extended-holds}
use Rattle.open.specs.Open.{needed, polynomial_checks, top_checks, split_checks, open_checks, open_verdict, OpenDone, OpenedBy, Opened}
use Rattle.open.specs.Find.{with_roots, find_checks, find_verdict, Found}
use Rattle.open.proofs.OpenChecksLaws.{rows_pass}
use Rattle.open.proofs.OpeningLaws.{GivenReady, open-ready, sheet-exists}
use Rattle.open.proofs.FindLaws.{find-split, find-ready, roots-most}
use Rattle.job.specs.Limits.{most_degree, most_width, head_fields}
use Rattle.job.specs.Job.{place, field, fields, job_modulus, job_degree, job_width, job_count, job_checks}
use Rattle.job.specs.declared.Form.{Form}
use Rattle.job.specs.internal.Form.{FormIs, most_fields, longest_job}
use Rattle.job.proofs.JobLaws.{place_mono, job-pass}
use Rattle.job.proofs.LengthLaws.{too-long-not, cut-same}
use Rattle.text.specs.Limits.{text_room}
use Rattle.text.specs.internal.Rooms.{sheet_room, refusal_room}
use Rattle.text.specs.Text.{join_to, row_line, row_lines, root_line, head_line, factor_text, listing_text, roots_text, refused_text}
use Rattle.text.specs.declared.Profile.{Profile}
use Rattle.text.specs.declared.Profile.TheVariants.{Factors, Roots}
use Rattle.text.specs.internal.Putting.{Entries, Listable, Puts}
use Rattle.text.proofs.TextLaws.{puts-as}
use Rattle.listing.specs.Listing.{job_given, rooted, rooted_checks, list_verdict, RootsShown, Shows, TextOf, IsListing, room_verdict, Listed}
use Rattle.listing.specs.internal.Writing.{rooted_verdict, OpenedJob, Wrote, WroteSheet, WroteGiven}

-- every sound sheet within a job's limits has its room
pub listable : (s : List ℕ) → Sound s → degree s ≤ most_degree → width s ≤ most_width → Listable s
listable s sound d n = record {
  placed = sound-placed s sound;
  degree-high = d;
  width_low = omega (arith, sound.terms-low, sound-terms s sound);
  width-high = n;
  count-high = omega (arith, sum_to-count (count s) (power s) sound.factors.powers, sound.factors.degree);
  entries = record { small = sound.small; reduced = rows-low s sound };
}

-- roots listed, or found: what holds of both ways to open holds of a job's
rooted-either : (g : Given) (P : Given → (ℕ → Verdict) → Type 0) → P (with_roots g) (find_verdict g) → P g (open_verdict g) → P (rooted g) (rooted_verdict g)
unfolding rooted_verdict find_verdict open_verdict
rooted-either g P found listed = go (eqb (length g.roots) 0)
  where
    go : (b : Bool) → P (choose b (with_roots g) g) (λ room. judge (choose b (find_checks g room) (open_checks g room)))
    go true = found
    go false = listed

pub rooted-ready : (g : Given) (room : ℕ) → rooted_verdict g room ≡ Pass → GivenReady (rooted g) × (needed (rooted g) ≤ room)
rooted-ready g = rooted-either g (λ x v. (room : ℕ) → v room ≡ Pass → GivenReady x × (needed x ≤ room)) (find-ready g) (open-ready g)

pub rooted-sizes : (g : Given) → ((rooted g).D ≡ g.D) × ((rooted g).N ≡ g.N) × (given-reach (rooted g) ≡ given-reach g)
rooted-sizes g = rooted-either g (λ x v. (x.D ≡ g.D) × (x.N ≡ g.N) × (given-reach x ≡ given-reach g)) (refl, refl, refl) (refl, refl, refl)

empty-found : (p D N : ℕ) (rows roots old : List ℕ) (a : Outcome ℕ) (new : List ℕ) → length roots < 1 → Found (whole_of p D N rows []) old a new → OpenedJob (whole_of p D N rows roots) old a new
unfolding rooted_verdict find_verdict
empty-found p D N rows [] old a new l o = o
empty-found p D N rows (c ∷ roots) old a new l o = absurd (let z : ⊥ = omega arith in z)

listed-opened : (g : Given) (old : List ℕ) (a : Outcome ℕ) (new : List ℕ) → 1 ≤ length g.roots → Opened g old a new → OpenedJob g old a new
unfolding rooted_verdict open_verdict
listed-opened g old a new l o = rw (ne_eqb (length g.roots) 0 (λ z. let y : ⊥ = omega arith in y)) o

module _ (p D N : ℕ) (rows lengths roots old : List ℕ) (a : Outcome ℕ) (new : List ℕ) (whole : lengths ≡ tabulate D (λ _. N)) where
  pub rooted_none : length roots < 1 → Found (given_of p D N rows lengths []) old a new → OpenedJob (whole_of p D N rows roots) old a new
  rooted_none l o = empty-found p D N rows roots old a new l (subst (λ x. Found (given_of p D N rows x []) old a new) whole o)

  pub rooted-some : 1 ≤ length roots → Opened (given_of p D N rows lengths roots) old a new → OpenedJob (whole_of p D N rows roots) old a new
  rooted-some l o = listed-opened (whole_of p D N rows roots) old a new l (subst (λ x. Opened (given_of p D N rows x roots) old a new) whole o)

-- the verdict of a job: its own checks', or else that of opening its sheet
pub list-refused : (b : List ℕ) (r : Row) → judge (job_checks b) ≡ Refuse r → list_verdict b ≡ Refuse r
unfolding list_verdict
list-refused b r e = after-refuse (job_checks b) (rooted_checks (job_given b) (needed (rooted (job_given b)))) r e

pub list-opens : (b : List ℕ) → judge (job_checks b) ≡ Pass → list_verdict b ≡ rooted_verdict (job_given b) (needed (rooted (job_given b)))
unfolding list_verdict rooted_verdict
list-opens b e = after-pass (job_checks b) (rooted_checks (job_given b) (needed (rooted (job_given b)))) e

pass-open : (b : List ℕ) → list_verdict b ≡ Pass → rooted_verdict (job_given b) (needed (rooted (job_given b))) ≡ Pass
unfolding list_verdict rooted_verdict
pass-open b e = (pass-parts (job_checks b) (rooted_checks (job_given b) (needed (rooted (job_given b)))) e).1

-- the verdict is the same wherever there is room
open-room : (g : Given) (room : ℕ) → needed g ≤ room → open_verdict g room ≡ open_verdict g (needed g)
unfolding open_verdict
open-room g room h = rw (le-ltb room (needed g) h, le-ltb (needed g) (needed g) (omega arith))

find-room : (g : Given) (room : ℕ) → needed (with_roots g) ≤ room → find_verdict g room ≡ find_verdict g (needed (with_roots g))
unfolding find_verdict
find-room g room h = rw (le-ltb room (needed (with_roots g)) h, le-ltb (needed (with_roots g)) (needed (with_roots g)) (omega arith))

-- a sheet has room enough within a job's limits
list-room : (g : Given) → g.D ≤ most_degree → g.N ≤ most_width → length g.roots ≤ most_degree → needed g ≤ sheet_room
unfolding needed
list-room g d n r =
    let a : 2 * g.D + 1 ≤ 25 = omega arith in
    let q : (2 * g.D + 1) * g.N ≤ 25 * most_width = mul-le-mul a n in
    omega arith

-- rows that are refused are refused wherever they stand; of others there are no more roots than the degree
pub find-same : (g : Given) (room : ℕ) → g.D ≤ most_degree → g.N ≤ most_width → room ≡ sheet_room → find_verdict g room ≡ find_verdict g (needed (with_roots g))
find-same g room d n q = go (judge (polynomial_checks g ++ top_checks g)) refl
  where
    go : (v : Verdict) → judge (polynomial_checks g ++ top_checks g) ≡ v → find_verdict g room ≡ find_verdict g (needed (with_roots g))
    go Pass e = find-room g room (let z = roots-most g (rows_pass g e) in omega (arith, list-room (with_roots g) d n (omega arith)))
    go (Refuse r) e =
        let G = with_roots g in
        find-split g room ∙ after-refuse (polynomial_checks g ++ top_checks g) (split_checks G room) r e
        ∙ sym (find-split g (needed G) ∙ after-refuse (polynomial_checks g ++ top_checks g) (split_checks G (needed G)) r e)

rooted-room : (g : Given) (room : ℕ) → g.D ≤ most_degree → g.N ≤ most_width → length g.roots ≤ most_degree → room ≡ sheet_room → rooted_verdict g room ≡ rooted_verdict g (needed (rooted g))
rooted-room g room d n r q = rooted-either g (λ x v. v room ≡ v (needed x)) (find-same g room d n q) (open-room g room (omega (arith, list-room g d n r)))

-- an accepted call that opens leaves a sheet that holds what it was given
opened-holds : (v : Verdict) (g : Given) (old new : List ℕ) (a : Outcome ℕ) → OpenedBy v g old a new → v ≡ Pass → Holds g 1 new
opened-holds v g old new a o e = (subst (λ (v : Verdict). Leaves v (OpenDone g old new (needed g)) old new) e o.leaves).holds

-- texts of sheets with the same words
join-ext : (n : ℕ) (f g : ℕ → List ℕ) → ((i : ℕ) → i < n → f i ≡ g i) → join_to n f ≡ join_to n g
unfolding join_to
join-ext zero f g h = refl
join-ext (suc n) f g h = ap₂ ◌++◌ (join-ext n f g (λ i l. h i (omega arith))) (h n (omega arith))

-- two sheets that hold the same, with the same terms, have one listing
module _ (g : Given) (k : ℕ) (s u : List ℕ) (hs : Holds g k s) (hu : Holds g k u) where
  agree : (i : ℕ) → i < end s → word s i ≡ word u i
  agree i l =
      sym (get_or-take (end s) s i 0 l) ∙ ap (λ (x : List ℕ). word x i) (holds-unique g k s u hs hu) ∙ get_or-take (end s) u i 0 l

  same-p : modulus s ≡ modulus u
  same-p = agree 0 (omega arith)

  same-D : degree s ≡ degree u
  same-D = agree 1 (omega arith)

  same-N : width s ≡ width u
  same-N = agree 2 (omega arith)

  same-r : count s ≡ count u
  same-r = agree 4 (omega arith)

  same-root : (i : ℕ) → i < count s → root s i ≡ root u i
  same-root i l = agree (roots_from (degree s) + 2 * i) (omega arith) ∙ ap (λ (D : ℕ). word u (roots_from D + 2 * i)) same-D

  same_power : (i : ℕ) → i < count s → power s i ≡ power u i
  same_power i l = agree (roots_from (degree s) + 2 * i + 1) (omega arith) ∙ ap (λ (D : ℕ). word u (roots_from D + 2 * i + 1)) same-D

  factor-place : (i j t : ℕ) → i < count s → j < power s i → t < width s → factors_from (degree s) (width s) (count s) + (sum_to i (power s) + j) * width s + t < end s
  factor-place i j t l m n =
      let below : sum_to i (power s) + j < degree s = omega (arith, upto-power s (sound-placed s hs.sound) i l) in
      let a = in_rows (degree s) (width s) (sum_to i (power s) + j) t below n in
      let e = add-mul (degree s + 1) (degree s) (width s) in
      let d : (2 * degree s + 1) * width s ≡ (degree s + 1 + degree s) * width s = ap (λ (x : ℕ). x * width s) (let z : 2 * degree s + 1 ≡ degree s + 1 + degree s = omega arith in z) in
      omega arith

  same-factor : (i j t : ℕ) → i < count s → j < power s i → t < width s → factor s i j t ≡ factor u i j t
  same-factor i j t l m n =
      let before : sum_to i (power s) ≡ sum_to i (power u) = sum_to-ext i (λ x y. same_power x (omega arith)) in
      agree (factors_from (degree s) (width s) (count s) + (sum_to i (power s) + j) * width s + t) (factor-place i j t l m n)
      ∙ ap (λ (D : ℕ). word u (factors_from D (width s) (count s) + (sum_to i (power s) + j) * width s + t)) same-D
      ∙ ap (λ (N : ℕ). word u (factors_from (degree u) N (count s) + (sum_to i (power s) + j) * N + t)) same-N
      ∙ ap (λ (r : ℕ). word u (factors_from (degree u) (width u) r + (sum_to i (power s) + j) * width u + t)) same-r
      ∙ ap (λ (b : ℕ). word u (factors_from (degree u) (width u) (count u) + (b + j) * width u + t)) before

  same_lines : (i : ℕ) → i < count s → factor_text s i ≡ factor_text u i
  unfolding factor_text row_lines
  same_lines i l =
      ap₂ ◌++◌ (ap₂ root_line (same-root i l) (same_power i l))
      (join-ext (power s i) _ _ (λ j m. ap₂ (λ (p : ℕ) (row : List ℕ). row_line Factors p j row) same-p (tabulate-ext (width s) (factor s i j) (factor u i j) (λ t n. same-factor i j t l m n)
      ∙ ap (λ (N : ℕ). tabulate N (factor u i j)) same-N))
      ∙ ap (λ (m : ℕ). join_to m (λ j. row_line Factors (modulus u) j (tabulate (width u) (factor u i j)))) (same_power i l))

  same_head : head_line (modulus s) (terms s) (degree s) (count s) ≡ head_line (modulus u) (terms u) (degree u) (count u)
  same_head = ap₂ (λ (p t : ℕ). head_line p t (degree s) (count s)) same-p (agree 3 (omega arith)) ∙ ap₂ (head_line (modulus u) (terms u)) same-D same-r

  listing-same : listing_text s ≡ listing_text u
  unfolding listing_text
  listing-same = ap₂ ◌++◌ same_head (join-ext (count s) (factor_text s) (factor_text u) same_lines ∙ ap (λ (r : ℕ). join_to r (factor_text u)) same-r)

  -- and one text of their roots
  verdict-same : multiple_verdict s ≡ multiple_verdict u
  verdict-same = multiple-same s u same-r same-root same_power

  roots-same : AllSimple s → roots_text s (root_words s) ≡ roots_text u (root_words u)
  unfolding roots_text
  roots-same simple =
      let words : root_words s ≡ root_words u = unfold root_words in
      table-ext (count s) (width s) _ _ (λ i t l n. ap₂ (λ (p x : ℕ). (p - x) % p) same-p (same-factor i 0 t l (omega (arith, simple i l)) n))
      ∙ ap₂ (λ (r N : ℕ). table r N (root_series u)) same-r same-N in
      let lines : (p N r : ℕ) → List ℕ → List ℕ = λ p N r h. row_lines Roots p N r (rows_at h 0 N) in
      ap₂ ◌++◌ same_head (ap₂ (λ (p N : ℕ). lines p N (count s) (root_words s)) same-p same-N ∙ ap₂ (lines (modulus u) (width u)) same-r words)

never : {A : Type 0} (v : Verdict) (r : Row) → v ≡ Refuse r → v ≡ Pass → A
never v r e q = absurd (let z : ◌≡◌ {A = ℕ} 0 1 = cc in omega arith)

same-refusal : (v : Verdict) (r q : Row) → v ≡ Refuse r → v ≡ Refuse q → r ≡ q
same-refusal v r q e f = cc

-- what a sheet shows, computed
abbrev roots_by : Verdict → List ℕ → List ℕ
roots_by Pass s = roots_text s (root_words s)
roots_by (Refuse r) s = refused_text r.number r.detail

abbrev shown_text : Profile → List ℕ → List ℕ
shown_text Factors s = listing_text s
shown_text Roots s = roots_by (multiple_verdict s) s

pub roots-refused : (s : List ℕ) (r : Row) → multiple_verdict s ≡ Refuse r → RootsShown s (refused_text r.number r.detail)
unfolding multiple_verdict
roots-refused s r e = record {
  refused = λ q f. ap (λ (x : Row). refused_text x.number x.detail) (same-refusal _ r q e f);
  listed = λ f h x. never _ r e f;
}

pub roots-shown : (s h : List ℕ) → Sound s → multiple_verdict s ≡ Pass → SeriesRoots s h → RootsShown s (roots_text s h)
unfolding multiple_verdict
roots-shown s h sound e is = record {
  refused = λ q f. never _ q f e;
  listed = λ f k x. let one = roots-one s sound (multiple-pass s sound e) in ap (roots_text s) (one.only h is ∙ sym (one.only k x));
}

-- a sound sheet shows exactly one text
shows-one : (profile : Profile) (s : List ℕ) → Sound s → TheOne (Shows profile s) (shown_text profile s)
shows-one Factors s sound = record { is = refl; only = λ y e. e }
shows-one Roots s sound = go (multiple_verdict s) refl
  where
    go : (v : Verdict) → multiple_verdict s ≡ v → TheOne (RootsShown s) (roots_by v s)
    go Pass e =
        let one = roots-one s sound (multiple-pass s sound e) in
        record { is = roots-shown s (root_words s) sound e one.is; only = λ y x. x.listed (unfold multiple_verdict in e) (root_words s) one.is }
    go (Refuse r) e = record { is = roots-refused s r e; only = λ y x. x.refused r (unfold multiple_verdict in e) }

-- sheets that hold the same show the same
shown-same : (profile : Profile) (g : Given) (k : ℕ) (s u : List ℕ) → Holds g k s → Holds g k u → shown_text profile s ≡ shown_text profile u
shown-same Factors g k s u hs hu = listing-same g k s u hs hu
shown-same Roots g k s u hs hu = go (multiple_verdict s) refl
  where
    go : (v : Verdict) → multiple_verdict s ≡ v → roots_by (multiple_verdict s) s ≡ roots_by (multiple_verdict u) u
    go Pass e =
        rw (sym (verdict-same g k s u hs hu), e) (roots-same g k s u hs hu (multiple-pass s hs.sound e))
    go (Refuse r) e = rw (sym (verdict-same g k s u hs hu), e) refl

-- the text under a verdict
pub text-refused : (profile : Profile) (v : Verdict) (g : Given) (r : Row) → v ≡ Refuse r → TextOf profile v g (refused_text r.number r.detail)
text-refused profile v g r e = record {
  refused = λ q f. ap (λ (x : Row). refused_text x.number x.detail) (same-refusal v r q e f);
  listed = λ f s h. never v r e f;
}

pub text-listed : (profile : Profile) (v : Verdict) (g : Given) (s text : List ℕ) → v ≡ Pass → Holds g g.N s → Shows profile s text → TextOf profile v g text
text-listed profile v g s text e h x = record {
  refused = λ q f. never v q f e;
  listed = λ f u k. subst (Shows profile u) (sym ((shows-one profile s h.sound).only text x ∙ shown-same profile g g.N s u h k)) (shows-one profile u k.sound).is;
}

-- a job's rows are all known to N
job-reach : (b : List ℕ) → given-reach (rooted (job_given b)) ≡ (rooted (job_given b)).N
unfolding job_given
job-reach b =
    let z = rooted-sizes (job_given b) in
    z.2 ∙ whole-reach (job_modulus b) (job_degree b) (job_width b) (job_given b).rows (job_given b).roots ∙ sym z.1

-- under each verdict there is exactly one text
pub one-text : (profile : Profile) (v : Verdict) (g : Given) → given-reach g ≡ g.N → (v ≡ Pass → GivenReady g) → One (TextOf profile v g)
one-text profile v g whole ready = go v refl
  where
    go : (w : Verdict) → v ≡ w → One (TextOf profile v g)
    go Pass e =
        let one = sheet-exists g (ready e) g.N (ready e).width_low (omega arith) in
        let shows = shows-one profile one.words one.holds.sound in
        (shown_text profile one.words, record { is = text-listed profile v g one.words _ e one.holds shows.is; only = λ other x. shows.only other (x.listed e one.words one.holds) })
    go (Refuse r) e = (refused_text r.number r.detail, record { is = text-refused profile v g r e; only = λ other x. x.refused r e })

-- so each job comes to exactly one text
pub one-listing : (profile : Profile) (job : List ℕ) → One (IsListing profile job)
one-listing profile job = one-text profile (list_verdict job) (rooted (job_given job)) (job-reach job) (λ e. (rooted-ready (job_given job) (needed (rooted (job_given job))) (pass-open job e)).0)

-- so the call has one outcome only
pub listed-only : (profile : Profile) (job old : List ℕ) (a a' : Outcome ℕ) (new new' : List ℕ) → Listed profile job old a new → Listed profile job old a' new' → (a ≡ a') × (new ≡ new')
listed-only profile job old a a' new new' x x' =
    let e : x.text ≡ x'.text = one_same (IsListing profile job) (one-listing profile job) x.text x'.text x.is x'.is in (
      x.answers ∙ ap (λ (t : List ℕ). outcome_after (room_verdict t old) (length t)) e ∙ sym x'.answers,
      x.leaves ∙ ap (λ (t : List ℕ). written (room_verdict t old) (over t old) old) e ∙ sym x'.leaves,
    )

-- the first bytes of a file that is too long come to its text
pub listing-cut : (profile : Profile) (job text : List ℕ) (n : ℕ) → longest_job < n → n ≤ length job → IsListing profile (take n job) text → IsListing profile job text
listing-cut profile job text n h l x = go (judge (job_checks job)) refl
  where
    go : (v : Verdict) → judge (job_checks job) ≡ v → IsListing profile job text
    go Pass e = too-long-not job (omega arith) e
    go (Refuse r) e =
        let is : text ≡ refused_text r.number r.detail = x.refused r (list-refused (take n job) r (cut-same job n h l ∙ e)) in
        subst (λ (t : List ℕ). IsListing profile job t) (sym is) (text-refused profile (list_verdict job) (rooted (job_given job)) r (list-refused job r e))

-- handing a text over: no room, and room
pub no_room : (text old : List ℕ) → length old < length text → room_verdict text old ≡ Refuse (refusal 10 (length text))
no_room text old h = take-check (check 10 (ltb (length old) (length text)) (length text)) [] (lt-ltb (length old) (length text) h)

pub has_room : (text old : List ℕ) → length text ≤ length old → room_verdict text old ≡ Pass
has_room text old h = skip-check (check 10 (ltb (length old) (length text)) (length text)) [] (le-ltb (length old) (length text) h) ∙ none-judged

pub put-over : {n a : ℕ} {text old new : List ℕ} → Puts n text 0 old a new → new ≡ over text old
put-over {n} {a} {text} {old} {new} f = f.leaves ∙ ap (λ (k : ℕ). text ++ drop k old) (let z : 0 + length text ≡ length text = omega arith in z)

pub handed-none : (text old : List ℕ) → length old < length text
    → record {
      answer : ◌≡◌ {A = Outcome ℕ} (refused 10 (length text)) (outcome_after (room_verdict text old) (length text));
      bytes : old ≡ written (room_verdict text old) (over text old) old;
    }
handed-none text old h =
    let r = answer-refused {v = room_verdict text old} (refusal 10 (length text)) (length text) (over text old) old (no_room text old h) in
    record { answer = r.answer; bytes = r.words }

pub handed-all : (text old : List ℕ) {n a : ℕ} {new : List ℕ} → length text ≤ length old → Puts n text 0 old a new
    → record {
      answer : ◌≡◌ {A = Outcome ℕ} (accepted (length text)) (outcome_after (room_verdict text old) (length text));
      bytes : new ≡ written (room_verdict text old) (over text old) old;
    }
handed-all text old h f = rw (has_room text old h) (record { answer = refl; bytes = put-over f })

-- the verdict on a job's words, in a sheet with room for every job, is the job's
pub list-verdict : (b : List ℕ) (room : ℕ) → judge (job_checks b) ≡ Pass → room ≡ sheet_room → list_verdict b ≡ rooted_verdict (job_given b) room
unfolding job_given
list-verdict b room e q =
    let l = job-pass b e in
    list-opens b e ∙ sym (rooted-room (job_given b) room l.degree-high l.width-high (omega (arith, l.count-high, length-tabulate (job_count b) (λ i. field b (head_fields + i)))) q)

-- after opening: the refusal, or else extend to N
module _ (profile : Profile) (v : Verdict) (g : Given) (whole : given-reach g ≡ g.N) (ready : v ≡ Pass → GivenReady g) (old mid : List ℕ) (a : Outcome ℕ) (o : OpenedBy v g old a mid) where
  refused-text : (n d : ℕ) → a ≡ refused n d → TextOf profile v g (refused_text n d)
  refused-text n d is = go v refl (sym is ∙ o.answers)
    where
      go : (w : Verdict) → v ≡ w → ◌≡◌ {A = Outcome ℕ} (refused n d) (outcome_after w (needed g)) → TextOf profile v g (refused_text n d)
      go Pass q e = unlike (needed g) n d e
      go (Refuse r) q e =
          let m : r.number ≡ n = cc in
          let l : r.detail ≡ d = cc in
          subst (λ (x : List ℕ). TextOf profile v g x) (ap₂ refused_text m l) (text-refused profile v g r q)

  pub wrote-refused : (n d : ℕ) {at : ℕ} {out new : List ℕ} → a ≡ refused n d → Puts refusal_room (refused_text n d) 0 out at new → Wrote profile v g out at new
  wrote-refused n d is f =
      record { text = refused_text n d; is = refused-text n d is; puts = puts-as text_room (refused_text n d) f refl (omega arith) }

  passed : (T : ℕ) → a ≡ accepted T → v ≡ Pass
  passed T is = (accepted-pass v (needed g) T (sym is ∙ o.answers)).0

  holds-all : (T w : ℕ) (b : Outcome ℕ) (new : List ℕ) → a ≡ accepted T → w ≡ g.N → Extended mid w b new → Holds g g.N new
  holds-all T w b new is e x =
      let q = passed T is in
      let h = opened-holds v g old mid a o q in
      subst (λ (n : ℕ). Holds g n new) e (extended-holds g 1 w mid h (omega (arith, (ready q).width_low)) (omega arith) b new x)

  pub given-shows : (T w : ℕ) (b : Outcome ℕ) (new : List ℕ) → a ≡ accepted T → w ≡ g.N → g.D ≤ most_degree → g.N ≤ most_width → Extended mid w b new
      → Sound new × (degree new ≤ most_degree) × (width new ≤ most_width)
  given-shows T w b new is e d n x = let h = holds-all T w b new is e x in (h.sound, omega (arith, h.same-degree), omega (arith, h.same_width))

  pub wrote-listed : (T w : ℕ) (b : Outcome ℕ) (new : List ℕ) {at : ℕ} {out text : List ℕ} → a ≡ accepted T → w ≡ g.N → Extended mid w b new
      → WroteSheet profile new out at text → Wrote profile v g out at text
  wrote-listed T w b new is e x f =
      record { text = f.text; is = text-listed profile v g new f.text (passed T is) (holds-all T w b new is e x) f.is; puts = f.puts }

-- the first m words of an array, made by a function that was lent them
module _ (m : ℕ) (f : ℕ → ℕ) (zeros new : List ℕ) (fits : m ≤ length zeros) (is : new ≡ tabulate (length (take m zeros)) f) where
  made : new ≡ tabulate m f
  made = is ∙ ap (λ (k : ℕ). tabulate k f) (length-take-le m zeros fits)

  made-long : length new ≡ m
  made-long = ap length made ∙ length-tabulate m f

  pub made-fits : m ≤ length (new ++ drop m zeros)
  made-fits = omega (arith, length-append new (drop m zeros), made-long)

  pub made-first : take m (new ++ drop m zeros) ≡ tabulate m f
  made-first = take_at new (drop m zeros) m made-long ∙ made

-- so the words of a job, where they were loaded
pub loaded-first : (b : List ℕ) (from o m k : ℕ) (zeros new : List ℕ) → m ≤ length zeros → from ≡ o → m ≡ k → new ≡ fields b from (length (take m zeros))
    → take m (new ++ drop m zeros) ≡ fields b o k
loaded-first b from o m k zeros new h e f is = made-first m (λ i. field b (from + i)) zeros new h is ∙ ap₂ (λ (x y : ℕ). fields b x y) e f

pub loaded-long : (b : List ℕ) (from m : ℕ) (zeros new : List ℕ) → m ≤ length zeros → new ≡ fields b from (length (take m zeros)) → m ≤ length (new ++ drop m zeros)
loaded-long b from m zeros new h is = made-fits m (λ i. field b (from + i)) zeros new h is

pub load_fits : (b : List ℕ) (f : Form) (from m end : ℕ) (zeros : List ℕ) → FormIs b f → m ≤ length zeros → from + m ≤ end → end ≤ most_fields → place b end ≤ length b
    → FormIs b f × (from + length (take m zeros) ≤ most_fields) × (place b (from + length (take m zeros)) ≤ length b)
load_fits b f from m end zeros is h e few long =
    let n = length-take-le m zeros h in
    (is, omega arith, omega (arith, place_mono b (from + length (take m zeros)) end (omega arith)))

-- a profile by another name
pub wrote_as : {x y : Profile} {s old new : List ℕ} {at : ℕ} → x ≡ y → WroteSheet y s old at new → WroteSheet x s old at new
wrote_as {x} {y} {s} {old} {new} {at} e f = subst (λ (z : Profile). WroteSheet z s old at new) (sym e) f

pub wrote-factors : {s old new : List ℕ} {at : ℕ} → Puts text_room (listing_text s) 0 old at new → WroteSheet Factors s old at new
wrote-factors {s} f = record { text = listing_text s; is = refl; puts = f }

-- the series of a sheet's roots, where they were written to the first n words of an array
pub series-few : (s : List ℕ) → Sound s → degree s ≤ most_degree → width s ≤ most_width → count s * width s ≤ most_degree * most_width
series-few s sound d n = mul-le-mul {n₂ = most_degree} {m₂ = most_width} (omega (arith, sum_to-count (count s) (power s) sound.factors.powers, sound.factors.degree)) n

module _ (s h zeros : List ℕ) (n : ℕ) (sound : Sound s) (e : multiple_verdict s ≡ Pass) (is : SeriesRoots s h) (size : n ≡ count s * width s) where
  pub series-fits : n ≤ length (h ++ drop n zeros)
  series-fits = omega (arith, length-append h (drop n zeros), is.long)

  pub series-first : take n (h ++ drop n zeros) ≡ h
  series-first = take_at h (drop n zeros) n (is.long ∙ sym size)

  pub series-ready : (x : List ℕ) → x ≡ take n (h ++ drop n zeros) → degree s ≤ most_degree → width s ≤ most_width
      → Listable s × Entries (modulus s) x 0 (width s) (count s) × (count s * width s ≤ length x)
  series-ready x ex d w =
      let simple = multiple-pass s sound e in
      let same : x ≡ root_words s = ex ∙ series-first ∙ (roots-one s sound simple).only h is in (
        listable s sound d w,
        record { small = sound.small; reduced = subst (λ y. (i : ℕ) → i < count s → (t : ℕ) → t < width s → rows_at y 0 (width s) i t < modulus s) (sym same) (roots-reduced s sound simple) },
        omega (arith, ap length (ex ∙ series-first), is.long),
      )

  pub wrote-series : (x : List ℕ) → x ≡ take n (h ++ drop n zeros) → {at : ℕ} {out new : List ℕ} → Puts text_room (roots_text s x) 0 out at new → WroteSheet Roots s out at new
  wrote-series x ex f = record { text = roots_text s x; is = roots-shown s x sound e (subst (SeriesRoots s) (sym (ex ∙ series-first)) is); puts = f }

-- what a job gives, word by word
module _ (b : List ℕ) (p D N : ℕ) (rows roots : List ℕ) (ep : p ≡ job_modulus b) (ed : D ≡ job_degree b) (en : N ≡ job_width b)
    (erows : rows ≡ fields b (head_fields + job_count b) ((job_degree b + 1) * job_width b)) (eroots : roots ≡ fields b head_fields (job_count b)) where
  given-same : whole_of p D N rows roots ≡ job_given b
  unfolding job_given
  given-same =
      let A = fields b (head_fields + job_count b) ((job_degree b + 1) * job_width b) in
      ap (λ (x : ℕ). whole_of x D N rows roots) ep ∙ ap (λ (x : ℕ). whole_of (job_modulus b) x N rows roots) ed ∙ ap (λ (x : ℕ). whole_of (job_modulus b) (job_degree b) x rows roots) en
      ∙ ap (λ (x : List ℕ). whole_of (job_modulus b) (job_degree b) (job_width b) x roots) erows ∙ ap (λ (x : List ℕ). whole_of (job_modulus b) (job_degree b) (job_width b) A x) eroots

  -- after a job's own checks, the text is that of the verdict on what it gives
  pub wrote-job : {out new : List ℕ} {at : ℕ} → (profile : Profile) → judge (job_checks b) ≡ Pass → WroteGiven profile (whole_of p D N rows roots) out at new → Wrote profile (list_verdict b) (rooted (job_given b)) out at new
  wrote-job {out} {new} {at} profile e w =
      let s = subst (λ (x : Given). WroteGiven profile x out at new) given-same w in
      subst (λ (v : Verdict). Wrote profile v (rooted (job_given b)) out at new) (sym (list-verdict b sheet_room e refl)) s

-- the text of a job that its own checks refuse
pub wrote-early : (profile : Profile) (b : List ℕ) (r : Row) {out new : List ℕ} {at : ℕ} → judge (job_checks b) ≡ Refuse r → Puts refusal_room (refused_text r.number r.detail) 0 out at new
    → Wrote profile (list_verdict b) (rooted (job_given b)) out at new
wrote-early profile b r e f = record {
  text = refused_text r.number r.detail;
  is = text-refused profile (list_verdict b) (rooted (job_given b)) r (list-refused b r e);
  puts = puts-as text_room (refused_text r.number r.detail) f refl (omega arith);
}

-- a text that stands at the front of a buffer
module _ {long : ℕ} {text zeros bytes : List ℕ} (f : Puts text_room text 0 zeros long bytes) where
  put-long : long ≡ length text
  put-long = f.answers ∙ (let z : 0 + length text ≡ length text = omega arith in z)

  pub put_first : take long bytes ≡ text
  put_first = ap (take long) (put-over f) ∙ take_at text (drop (length text) zeros) long (sym put-long)

  pub put-fits : (long ≤ length bytes) × (length (take long bytes) ≤ text_room)
  put-fits = (omega (arith, f.fits, f.long, put-long), omega (arith, ap length put_first, f.within))

-- a text written is handed over as far as it goes
module _ (profile : Profile) (job zeros bytes : List ℕ) (long : ℕ) (w : Wrote profile (list_verdict job) (rooted (job_given job)) zeros long bytes) where
  pub listed-all : (text old new : List ℕ) (a : Outcome ℕ) → text ≡ take long bytes → a ≡ outcome_after (room_verdict text old) (length text)
      → new ≡ written (room_verdict text old) (over text old) old → Listed profile job old a new
  listed-all text old new a is e f = record {
    text = text;
    is = subst (λ (x : List ℕ). IsListing profile job x) (sym (is ∙ put_first w.puts)) w.is;
    short = omega (arith, ap length is, (put-fits w.puts).1);
    answers = e;
    leaves = f;
  }

-- a text handed over is no longer than the room for it, and where there is room it is handed over
module _ (text old : List ℕ) (a : Outcome ℕ) (h : a ≡ outcome_after (room_verdict text old) (length text)) where
  pub handed-fits : (n : ℕ) → a ≡ accepted n → n ≤ length old
  handed-fits n is = go (ltb (length old) (length text)) refl
    where
      go : (b : Bool) → ltb (length old) (length text) ≡ b → n ≤ length old
      go true e = unlike n 10 (length text) (sym (h ∙ ap (λ (v : Verdict). outcome_after v (length text)) (take-check (check 10 (ltb (length old) (length text)) (length text)) [] e)) ∙ is)
      go false e =
          let l = ltb-false (length old) (length text) e in
          let q : ◌≡◌ {A = Outcome ℕ} (accepted n) (accepted (length text)) = sym is ∙ h ∙ ap (λ (v : Verdict). outcome_after v (length text)) (has_room text old l) in
          let z : n ≡ length text = cc in
          omega arith

  pub handed-never : {A : Type 0} (n d : ℕ) → a ≡ refused n d → length text ≤ length old → A
  handed-never n d is room = unlike (length text) n d (sym is ∙ h ∙ ap (λ (v : Verdict). outcome_after v (length text)) (has_room text old room))

-- so an accepted listing, and the room of every text is always room enough
module _ (profile : Profile) (job old new : List ℕ) (a : Outcome ℕ) (h : Listed profile job old a new) where
  pub listed-fits : (n : ℕ) → a ≡ accepted n → n ≤ length old
  listed-fits n is = handed-fits h.text old a h.answers n is

  pub listed-never : {A : Type 0} (n d : ℕ) → a ≡ refused n d → text_room ≤ length old → A
  listed-never n d is room = handed-never h.text old a h.answers n d is (omega (arith, h.short))

  pub listed-as : (n : ℕ) → a ≡ accepted n → Listed profile job old (accepted n) new
  listed-as n is = subst (λ (x : Outcome ℕ). Listed profile job old x new) is h
