-- Opening without a list of roots is opening with the list of all of them.
--   all_listed      a list of roots whose powers give f at X = 0 is that of all roots
--   roots-most      f at X = 0 has no more roots than its degree
--   roots-list      where the list of all roots has powers, it passes check 8
--   none_found, found-ready, found-finished   what was found, for refusal 9 and for finishing
--   find-split      the checks are those of the rows, and then 9 and 10 of open with all roots
--   find-list, find-ready, find-open   what they leave: open's checks pass with that list
--   nine-none       refusal 9 is given exactly where no powers of all roots are found
--   nine            that is where f at X = 0 is no product of powers of Y minus a number
--   found-opened    an accepted find is an accepted open with the list of all roots
--   opened-found    and an accepted open an accepted find: whoever lists the roots gets the same words
--   found-one       for every input find's contract allows exactly one answer and one content of the slice
-- Assumes nothing.
use Prim.Native.Nat.{ℕ, ◌+◌, ◌*◌, ◌≤◌, ◌<◌}
use native.Mathlib.Omega.{arith}
use mathlib.Core.Path.{◌≡◌, refl, sym, ◌∙◌, ap, subst}
use mathlib.Core.Logic.{◌↔◌}
use mathlib.Core.Bool.{Bool, true, false}
use mathlib.Core.Option.{Option, none, some}
use mathlib.Core.List.{List, [], ◌∷◌, ◌++◌}
use lib.Dec.{ltb}
use lib.ListN.{length, take}
use lib.Seq.{length-take-le, get_or-take}
use Rattle.algebra.specs.Prime.{Prime}
use Rattle.algebra.proofs.SumsLaws.{sum_to-some}
use Rattle.numbers.specs.Words.{word, tabulate}
use Rattle.numbers.specs.internal.Facts.{AllBelow, Rising}
use Rattle.numbers.specs.Refusals.{Check, judge, refusal, Outcome, accepted, room_check, Pass, Refuse}
use Rattle.numbers.specs.One.{OneOutcome}
use Rattle.numbers.proofs.WordsLaws.{length-tabulate, word-tabulate}
use Rattle.numbers.proofs.RefusalsLaws.{accepted-pass, take-check, skip-check, none-judged}
use Rattle.powers.specs.internal.Powers.{GivesPowers, Unsplit}
use Rattle.powers.proofs.FindingLaws.{gives_same}
use Rattle.rootfinding.specs.Roots.{all_roots}
use Rattle.rootfinding.specs.internal.Finding.{RootsAre}
use Rattle.rootfinding.proofs.RootsLaws.{roots-rise, roots-below, roots_few, roots-complete, unsplit-all}
use Rattle.sheet.specs.Sheet.{Given, given_of}
use Rattle.open.specs.Open.{powers_of, needed, open_verdict, polynomial_checks, top_checks, list_checks, split_checks, OpenedBy, Opened}
use Rattle.open.specs.Find.{first_column, with_roots, find_verdict, Found, IsProduct}
use Rattle.open.specs.internal.Writing.{FreshReady, room_verdict, Finished}
use Rattle.open.proofs.OpenChecksLaws.{RowsPass, rows_pass, rows-passes, other-roots, ListPass, list-passes, open-rows-split}
use Rattle.open.proofs.OpenLaws.{GivenSplits, powers-are, powers-none}
use Rattle.open.proofs.OpenSplitLaws.{split-none, split-some}
use Rattle.open.proofs.OpeningLaws.{GivenReady, SplitPassed, Passed, list-ready, split-passed, open-passed}
use Rattle.open.proofs.OpenDoneLaws.{finish-ready, opened-finished}
use Rattle.open.proofs.OpenTotalLaws.{opened-by-one}
use Rattle.open.proofs.FirstColumnLaws.{column-long, column-at, column-below, column-monic}
use Rattle.open.proofs.PowersFoundLaws.{product-gives, gives-splits, splits-gives}

-- the checks: those of the rows, and then 9 and 10 of open with all roots
pub find-split : (g : Given) (room : ℕ) → find_verdict g room ≡ judge ((polynomial_checks g ++ top_checks g) ++ split_checks (with_roots g) room)
unfolding find_verdict
find-split g room = refl

-- a list of roots whose powers give f at X = 0 is that of all roots
pub all_listed : (g : Given) → Prime g.p → ((j : ℕ) → j ≤ g.D → word (first_column g) j < g.p) → Rising g.roots → AllBelow g.p g.roots
    → (m : ℕ → ℕ) → GivenSplits g m → with_roots g ≡ g
all_listed g prime below up low m S =
    ap (given_of g.p g.D g.N g.rows g.lengths)
    (roots-complete prime (first_column g) g.roots m (splits-gives g prime (first_column g) (column-long g) (column-at g) below up low m S) up low)

-- rows that passed checks 1 to 7
module _ (g : Given) (h : RowsPass g) where
  abbrev e : List ℕ
  e = first_column g

  abbrev G : Given
  G = with_roots g

  prime : Prime g.p
  prime = h.polynomial.modulus.prime

  pub roots-most : length (all_roots g.p e) ≤ g.D
  roots-most =
      let c = column-monic g h in
      let few = roots_few prime e (let s = c.some in omega arith) c.top g.p (omega arith) in
      omega (arith, column-long g)

  roots-list : (m : ℕ → ℕ) → GivesPowers g.p (all_roots g.p e) e m → ListPass G
  roots-list m P = record {
    rows = other-roots g h (all_roots g.p e) (roots-below prime e);
    count_low = sum_to-some (length (all_roots g.p e)) m (omega (arith, P.sum, (column-monic g h).some));
    count-high = roots-most;
    up = roots-rise prime e;
  }

  column-gives : (l : List ℕ) (m : ℕ → ℕ) → IsProduct g l m → GivesPowers g.p l e m
  column-gives = product-gives g prime e (column-long g) (column-at g) (column-below g h)

  -- powers of all roots, over F_p and by number
  some-gives : (l : List ℕ) → powers_of G ≡ some l → GivesPowers g.p (all_roots g.p e) e (word l)
  some-gives l q = splits-gives G prime e (column-long g) (column-at g) (column-below g h) (roots-rise prime e) (roots-below prime e) (word l) ((powers-are G prime (roots-rise prime e) (roots-below prime e) l).0 q).1

  gives-some : (l : List ℕ) → length l ≡ length (all_roots g.p e) → GivesPowers g.p (all_roots g.p e) e (word l) → powers_of G ≡ some l
  gives-some l n P = (powers-are G prime (roots-rise prime e) (roots-below prime e) l).1 (n, gives-splits G prime e (column-long g) (column-at g) (column-below g h) (roots-rise prime e) (roots-below prime e) (word l) P)

  pub none_found : Unsplit g.p e ↔ (powers_of G ≡ none)
  none_found = (
    λ u. (powers-none G prime (roots-rise prime e) (roots-below prime e)).1 (λ l _ S. u (all_roots g.p e) (word l) (splits-gives G prime e (column-long g) (column-at g) (column-below g h) (roots-rise prime e) (roots-below prime e) (word l) S)),
    λ q. (unsplit-all prime e).1 (λ m P. let l = tabulate (length (all_roots g.p e)) m in
        (powers-none G prime (roots-rise prime e) (roots-below prime e)).0 q l (length-tabulate _ m)
        (gives-splits G prime e (column-long g) (column-at g) (column-below g h) (roots-rise prime e) (roots-below prime e) (word l) (gives_same (λ i u. sym (word-tabulate _ m i u)) P))),
  )

  -- what was found: the listed words are all roots, and their powers
  module _ (n : ℕ) (roots powers : List ℕ) (f : RootsAre g.p e n roots powers) (fits : n ≤ length powers) where
    found-given : given_of g.p g.D g.N g.rows g.lengths (take n roots) ≡ G
    found-given = ap (given_of g.p g.D g.N g.rows g.lengths) f.all

    found-powers : powers_of G ≡ some (take n powers)
    found-powers =
        let count : n ≡ length (all_roots g.p e) = sym (length-take-le n roots f.fits) ∙ ap length f.all in
        gives-some (take n powers) (length-take-le n powers fits ∙ count) (gives_same (λ i u. sym (get_or-take n powers i 0 (omega arith))) f.gives)

    listed : ListPass G
    listed = roots-list (word powers) f.gives

    pub found-ready : let x = given_of g.p g.D g.N g.rows g.lengths (take n roots) in
        FreshReady x (take n powers) × (length g.rows ≡ (g.D + 1) * g.N) × (length g.lengths ≡ g.D) × (length (take n powers) ≡ length (take n roots))
    found-ready =
        subst (λ x. FreshReady x (take n powers) × (length x.rows ≡ (x.D + 1) * x.N) × (length x.lengths ≡ x.D) × (length (take n powers) ≡ length x.roots)) (sym found-given)
        (finish-ready G listed (take n powers) found-powers)

    pub found-finished : judge (polynomial_checks g ++ top_checks g) ≡ Pass → (old : List ℕ) (a : Outcome ℕ) (new : List ℕ)
        → Finished (given_of g.p g.D g.N g.rows g.lengths (take n roots)) (take n powers) old a new → Found g old a new
    found-finished pass old a new F =
        opened-finished (find_verdict g (length old)) G listed (take n powers) found-powers old
        (find-split g (length old) ∙ split-some (polynomial_checks g ++ top_checks g) pass G (length old) (take n powers) found-powers) a new
        (subst (λ x. Finished x (take n powers) old a new) found-given F)

-- refusal 10 is not 9
not-nine : (room T : ℕ) → judge (room_check room T ∷ []) ≡ Refuse (refusal 9 0) → ⊥
not-nine room T = go (ltb room T) refl
  where
    go : (b : Bool) → ltb room T ≡ b → judge (room_check room T ∷ []) ≡ Refuse (refusal 9 0) → ⊥
    go true t v = let z : Refuse (refusal 10 T) ≡ Refuse (refusal 9 0) = sym (take-check (room_check room T) [] t) ∙ v in let y : refusal 10 T ≡ refusal 9 0 = cc in omega (arith, ap (λ r. r.number) y)
    go false t v = let z : Pass ≡ Refuse (refusal 9 0) = sym (skip-check (room_check room T) [] t ∙ none-judged) ∙ v in let y : ◌≡◌ {A = ℕ} 0 1 = cc in omega arith

-- what they let pass
module _ (g : Given) (room : ℕ) where
  abbrev before : List Check
  before = polynomial_checks g ++ top_checks g

  module _ (pass : find_verdict g room ≡ Pass) where
    parts : SplitPassed before (with_roots g) room
    parts = split-passed before (with_roots g) room (sym (find-split g room) ∙ pass)

    rows : RowsPass g
    rows = rows_pass g parts.passed

    find-list : ListPass (with_roots g)
    find-list = roots-list g rows (word parts.found) (some-gives g rows parts.found parts.found-is)

    pub find-ready : GivenReady (with_roots g) × (needed (with_roots g) ≤ room)
    find-ready = (list-ready (with_roots g) find-list parts.found parts.found-is, parts.fits)

    find-open : open_verdict (with_roots g) room ≡ find_verdict g room
    find-open =
        open-rows-split (with_roots g) room
        ∙ split-some (polynomial_checks (with_roots g) ++ list_checks (with_roots g)) (list-passes (with_roots g) find-list) (with_roots g) room parts.found parts.found-is
        ∙ sym (find-split g room ∙ split-some before parts.passed (with_roots g) room parts.found parts.found-is)

  -- 9, where there are no powers, which is where there is no product
  pub nine-none : judge before ≡ Pass → (find_verdict g room ≡ Refuse (refusal 9 0)) ↔ (powers_of (with_roots g) ≡ none)
  nine-none pass = (λ v. go v (powers_of (with_roots g)) refl, λ q. find-split g room ∙ split-none before pass (with_roots g) room q)
    where
      go : find_verdict g room ≡ Refuse (refusal 9 0) → (o : Option (List ℕ)) → powers_of (with_roots g) ≡ o → powers_of (with_roots g) ≡ none
      go v none q = q
      go v (some k) q = absurd (not-nine room (needed (with_roots g)) (sym (split-some before pass (with_roots g) room k q) ∙ sym (find-split g room) ∙ v))

  pub nine : judge before ≡ Pass → (find_verdict g room ≡ Refuse (refusal 9 0)) ↔ ((l : List ℕ) (m : ℕ → ℕ) → ¬ IsProduct g l m)
  nine pass = (
    λ v l m P. (none_found g h).1 ((nine-none pass).0 v) l m (column-gives g h l m P),
    λ never. (nine-none pass).1 ((powers-none (with_roots g) (prime g h) (roots-rise (prime g h) e') (roots-below (prime g h) e')).1
        (λ l _ S. never (all_roots g.p e') (word l) (record { reduced = S.reduced; powers = S.powers; degree = S.degree; splits = S.splits }))),
  )
    where
      h : RowsPass g
      h = rows_pass g pass

      e' : List ℕ
      e' = first_column g

-- an accepted find is an accepted open with the list of all roots
pub found-opened : (g : Given) (old : List ℕ) (T : ℕ) (new : List ℕ) → Found g old (accepted T) new → Opened (with_roots g) old (accepted T) new
found-opened g old T new o =
    let pass = (accepted-pass (find_verdict g (length old)) (needed (with_roots g)) T o.answers).0 in
    subst (λ v. OpenedBy v (with_roots g) old (accepted T) new) (sym (find-open g (length old) pass)) o

-- and an accepted open an accepted find
module _ (p D N : ℕ) (rows lengths roots old : List ℕ) (T : ℕ) (new : List ℕ) (o : Opened (given_of p D N rows lengths roots) old (accepted T) new) where
  abbrev g : Given
  g = given_of p D N rows lengths roots

  abbrev f : Given
  f = given_of p D N rows lengths []

  passed : Passed g (length old)
  passed = open-passed g (length old) (accepted-pass (open_verdict g (length old)) (needed g) T o.answers).0

  rootless : RowsPass f
  rootless = other-roots g passed.list.rows [] (λ i l. absurd (let z : ⊥ = omega arith in z))

  same : with_roots f ≡ g
  same =
      let h = passed.list in
      let low = h.rows.polynomial.roots-below in
      all_listed g (prime f rootless) (column-below g h.rows) h.up low (word passed.found) ((powers-are g (prime f rootless) h.up low passed.found).0 passed.found-is).1

  verdicts : find_verdict f (length old) ≡ open_verdict g (length old)
  verdicts =
      find-split f (length old)
      ∙ split-some (polynomial_checks f ++ top_checks f) (rows-passes f rootless) (with_roots f) (length old) passed.found (ap powers_of same ∙ passed.found-is)
      ∙ ap (λ x. room_verdict x old) same
      ∙ sym (open-rows-split g (length old) ∙ split-some (polynomial_checks g ++ list_checks g) (list-passes g passed.list) g (length old) passed.found passed.found-is)

  pub opened-found : Found f old (accepted T) new
  opened-found = subst (λ v. OpenedBy v (with_roots f) old (accepted T) new) (sym verdicts) (subst (λ x. OpenedBy (open_verdict g (length old)) x old (accepted T) new) (sym same) o)

pub found-one : (g : Given) (old : List ℕ) → OneOutcome (Found g old)
found-one g old = opened-by-one (find_verdict g (length old)) (with_roots g) old (find-ready g (length old))
