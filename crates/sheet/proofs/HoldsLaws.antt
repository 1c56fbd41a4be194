-- What a sheet holds, of two slices.
--   holds_rows      what a sheet holds is read before the factors, but for the terms; in place of its rows it may hold others ..
--   holds_by        .. or the same
--   whole-reach     where all is known to N there can be N terms
--   holds-reach     a sheet reaches as far as what it holds is known
--   holds-ext       slices with the same first T words hold the same
--   holds-factors   the factors that a sheet holds, in the terms of what open was given
-- Assumes nothing.
use Prim.Native.Nat.{ℕ, ◌+◌, ◌*◌, ◌≤◌, ◌<◌}
use native.Mathlib.Omega.{arith}
use mathlib.Core.Path.{◌≡◌, refl, sym, ◌∙◌, ap, ap₂, subst}
use mathlib.Core.Logic.{◌≢◌}
use mathlib.Core.List.{List}
use lib.ListN.{length}
use Rattle.numbers.specs.Words.{word, tabulate, least}
use Rattle.numbers.proofs.WordsLaws.{word-tabulate, least-le, least-from, least-ext}
use Rattle.hensel.specs.Factors.{IsFactors}
use Rattle.hensel.proofs.FactorsLaws.{factors-ext}
use Rattle.layout.specs.Layout.{rows_at, modulus, degree, width, terms_at, terms, count, reach, known, lengths_from, roots_from, polynomial_from, factors_from, root, power, end, polynomial, factor, entry_at}
use Rattle.sheet.specs.Sheet.{Sound, Given, given_of, whole_of, given-reach, given-polynomial, Holds}
use Rattle.layout.proofs.RegionsLaws.{in_rows, entry_read}
use Rattle.sheet.proofs.SheetsLaws.{sound-terms, sound-ext}

pub whole-reach : (p D N : ℕ) (rows roots : List ℕ) → given-reach (whole_of p D N rows roots) ≡ N
whole-reach p D N rows roots =
    let L = word (tabulate D (λ _. N)) in
    let a = least-le N L D in
    let b = least-from N L N D (omega arith) (λ j l. rw (word-tabulate D (λ _. N) j l) (omega arith)) in
    omega arith

pub holds-reach : (g : Given) (k : ℕ) (s : List ℕ) → Holds g k s → reach s ≡ given-reach g
holds-reach g k s h =
    h.sound.reached ∙ least-ext (width s) (degree s) (known s) (word g.lengths) h.same-lengths ∙ ap₂ (λ N D. least N D (word g.lengths)) h.same_width h.same-degree

-- what a sheet holds is read before the factors, but for the terms; in place of its rows it may hold others
pub holds_rows : (g : Given) (rows : List ℕ) (k w : ℕ) (u s : List ℕ) → Holds g k u → Sound s → terms s ≡ w → ((i : ℕ) → i < polynomial_from (degree u) (count u) → i ≢ terms_at → word s i ≡ word u i)
    → ((j : ℕ) → j ≤ degree u → (t : ℕ) → t < width u → word s (entry_at u j t) ≡ rows_at rows 0 g.N j t) → Holds (given_of g.p g.D g.N rows g.lengths g.roots) w s
holds_rows g rows k w u s h sound e same polynomial =
    let eD : degree s ≡ degree u = same 1 (omega arith) (omega arith) in
    let eN : width s ≡ width u = same 2 (omega arith) (omega arith) in
    let er : count s ≡ count u = same 4 (omega arith) (omega arith) in
    record {
      sound = sound;
      same-modulus = same 0 (omega arith) (omega arith) ∙ h.same-modulus;
      same-degree = eD ∙ h.same-degree;
      same_width = eN ∙ h.same_width;
      same-lengths = λ j l. same (lengths_from + j) (omega arith) (omega arith) ∙ h.same-lengths j (omega arith);
      same_count = er ∙ h.same_count;
      same-roots = λ i l. ap (λ d. word s (roots_from d + 2 * i)) eD ∙ same (roots_from (degree u) + 2 * i) (omega arith) (omega arith) ∙ h.same-roots i (omega arith);
      same-polynomial = λ j l t v. entry_read u s eD eN er j t ∙ polynomial j (omega arith) t (omega arith);
      same-terms = e;
    }

pub holds_by : (g : Given) (k w : ℕ) (u s : List ℕ) → Holds g k u → Sound s → terms s ≡ w → ((i : ℕ) → i < factors_from (degree u) (width u) (count u) → i ≢ terms_at → word s i ≡ word u i) → Holds g w s
holds_by g k w u s h sound e same =
    holds_rows g g.rows k w u s h sound e (λ i l ne. same i (omega arith) ne)
    (λ j l t v. same (entry_at u j t) (omega (arith, in_rows (degree u + 1) (width u) j t (omega arith) (omega arith))) (omega arith) ∙ h.same-polynomial j l t v)

pub holds-ext : (g : Given) (k : ℕ) (u s : List ℕ) → Holds g k u → end u ≤ length s → ((i : ℕ) → i < end u → word s i ≡ word u i) → Holds g k s
holds-ext g k u s h fits same = holds_by g k k u s h (sound-ext u h.sound s same fits) (same 3 (omega arith) ∙ h.same-terms) (λ i l ne. same i (omega arith))

pub holds-factors : (g : Given) (k : ℕ) (s : List ℕ) → Holds g k s
    → IsFactors g.p g.D k (length g.roots) (given-polynomial g) (word g.roots) (power s) (factor s)
holds-factors g k s h =
    let S = h.sound in
    let within : terms s ≤ width s = sound-terms s S in
    subst (λ p. IsFactors p g.D k (length g.roots) (given-polynomial g) (word g.roots) (power s) (factor s)) h.same-modulus
    (subst (λ D. IsFactors (modulus s) D k (length g.roots) (given-polynomial g) (word g.roots) (power s) (factor s)) h.same-degree
    (subst (λ k. IsFactors (modulus s) (degree s) k (length g.roots) (given-polynomial g) (word g.roots) (power s) (factor s)) h.same-terms
    (subst (λ r. IsFactors (modulus s) (degree s) (terms s) r (given-polynomial g) (word g.roots) (power s) (factor s)) h.same_count
    (factors-ext (modulus s) (degree s) (terms s) (count s) (polynomial s) (given-polynomial g) (root s) (word g.roots) (power s) (power s) (factor s) (factor s) S.terms-low
    (λ j l t v. sym (h.same-polynomial j l t (omega arith))) (λ i l. sym (h.same-roots i l)) (λ i l. refl) (λ i l j v t u. refl) S.factors))))
