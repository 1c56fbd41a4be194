-- A sound sheet is one whose first T words are those of a sheet that holds good content.
--   Good c          the conditions of a sound sheet, of what it holds
--   good-terms, sound-terms   there are no more terms than columns
--   good-move       content that agrees with good content is good
--   sound-good      what a sound sheet holds is good ..
--   sound-words     .. and its first T words are the words of what it holds
--   words-content   a slice that begins with the words of c holds c
--   words-sound     and it is sound where c is good: soundness depends on the first T words alone
--   sound-ext       so a slice with the same first T words as a sound sheet is sound
-- Assumes nothing.
use Prim.Native.Nat.{ℕ, ◌+◌, ◌*◌, ◌≤◌, ◌<◌}
use native.Mathlib.Omega.{arith}
use mathlib.Core.Path.{◌≡◌, sym, ◌∙◌, ap, ap₂, subst}
use mathlib.Core.List.{List}
use lib.ListN.{length, take}
use lib.Seq.{ext_get_or, get_or-take, length-take-le}
use Rattle.algebra.specs.Sums.{sum_to}
use Rattle.algebra.proofs.SumsLaws.{sum_to-ext}
use Rattle.algebra.specs.Prime.{Prime}
use Rattle.numbers.specs.Words.{word, least}
use Rattle.numbers.proofs.WordsLaws.{least-le, least-ext}
use Rattle.numbers.specs.Limits.{largest_modulus, largest_degree, largest_width}
use Rattle.series.specs.Known.{KnownTo}
use Rattle.rows.specs.Rows.{unit}
use Rattle.hensel.specs.Factors.{IsFactors}
use Rattle.layout.specs.Layout.{header_of, degree, width, terms, count, lengths_from, roots_from, polynomial_from, factors_from, end}
use Rattle.sheet.specs.Sheet.{Sound}
use Rattle.hensel.proofs.FactorsLaws.{factors-ext}
use Rattle.layout.proofs.RegionsLaws.{in_rows, by-region}
use Rattle.hensel.proofs.BlocksLaws.{in_block}
use Rattle.sheet.specs.internal.Content.{Content, content_of, size, header_words, sheet_words}
use Rattle.sheet.proofs.ContentLaws.{word-header, word-known, word-root, word-power, word-polynomial, word-factors, length-sheet, SameContent, same_size}

-- the rows of factor i
abbrev pub factor_of : Content → ℕ → ℕ → ℕ → ℕ
factor_of c i j t = c.factors (sum_to i c.power + j) t

pub record Good (c : Content) : Type 0 where
  pub prime : Prime c.p
  pub small : c.p ≤ largest_modulus
  pub degree-low : 1 ≤ c.D
  pub degree-high : c.D ≤ largest_degree
  pub width-high : c.N ≤ largest_width
  pub terms-low : 1 ≤ c.k
  pub terms-high : c.k ≤ c.m
  pub lengths : (j : ℕ) → j < c.D → KnownTo c.N (c.known j) (c.f j)
  pub reached : c.m ≡ least c.N c.D c.known
  pub reduced : (j : ℕ) → j ≤ c.D → (t : ℕ) → t < c.N → c.f j t < c.p
  pub top : (t : ℕ) → t < c.N → c.f c.D t ≡ unit t
  pub factors : IsFactors c.p c.D c.k c.r c.f c.root c.power (factor_of c)
  pub factors-reduced : (j : ℕ) → j < c.D → (t : ℕ) → t < c.k → c.factors j t < c.p
  pub factors-rest : (j : ℕ) → j < c.D → (t : ℕ) → c.k ≤ t → t < c.N → c.factors j t ≡ 0

-- there are no more terms than columns
pub good-terms : (c : Content) → Good c → c.k ≤ c.N
good-terms c h = let a = h.terms-high in let b = h.reached in omega (arith, least-le c.N c.known c.D)

-- the rows of a factor lie among the D rows
pub factor-row : (c : Content) → Good c → (i j : ℕ) → i < c.r → j < c.power i → sum_to i c.power + j < c.D
factor-row c h i j l g = omega (arith, in_block c.r c.power i j l g, h.factors.degree)

module _ (c c' : Content) (e : SameContent c c') (h : Good c) where
  same-factor : (i : ℕ) → i < c.r → (j : ℕ) → j < c.power i → (t : ℕ) → t < c.N → factor_of c i j t ≡ factor_of c' i j t
  same-factor i l j g t v =
      e.factors (sum_to i c.power + j) t (factor-row c h i j l g) v ∙ ap (λ x. c'.factors (x + j) t) (sum_to-ext i (λ m u. e.powers m (omega arith)))

  pub good-move : Good c'
  good-move =
      let ep = e.modulus in let eD = e.degree in let eN = e.width in let ek = e.terms in let er = e.count in
      let kN = good-terms c h in
      record {
        prime = subst Prime ep h.prime;
        small = let a = h.small in omega arith;
        degree-low = let a = h.degree-low in omega arith;
        degree-high = let a = h.degree-high in omega arith;
        width-high = let a = h.width-high in omega arith;
        terms-low = let a = h.terms-low in omega arith;
        terms-high = let a = h.terms-high in let b = e.reach in omega arith;
        reduced = λ j l t g.
            let a = h.reduced j (omega arith) t (omega arith) in let b = e.polynomial j t (omega arith) (omega arith) in omega arith;
        top = λ t g. ap (λ D. c'.f D t) (sym eD) ∙ sym (e.polynomial c.D t (omega arith) (omega arith)) ∙ h.top t (omega arith);
        lengths = λ j l.
            let a = h.lengths j (omega arith) in
            let b = e.lengths j (omega arith) in
            record {
              low = let z = a.low in omega arith;
              high = let z = a.high in omega arith;
              rest = λ t u v. sym (e.polynomial j t (omega arith) (omega arith)) ∙ a.rest t (omega arith) (omega arith);
            };
        reached = sym e.reach ∙ h.reached ∙ least-ext c.N c.D c.known c'.known e.lengths ∙ ap₂ (λ N D. least N D c'.known) eN eD;
        factors = rw (← ep, ← eD, ← ek, ← er) (factors-ext c.p c.D c.k c.r c.f c'.f c.root c'.root c.power c'.power (factor_of c) (factor_of c') h.terms-low
            (λ j l t g. sym (e.polynomial j t l (omega arith))) (λ i l. sym (e.roots i l)) (λ i l. sym (e.powers i l)) (λ i l j g t v. sym (same-factor i l j g t (omega arith))) h.factors);
        factors-reduced = λ j l t g.
            let a = h.factors-reduced j (omega arith) t (omega arith) in let b = e.factors j t (omega arith) (omega arith) in omega arith;
        factors-rest = λ j l t g v. sym (e.factors j t (omega arith) (omega arith)) ∙ h.factors-rest j (omega arith) t (omega arith) (omega arith);
      }

header-same : {p p' D D' N N' k k' r r' m m' : ℕ} → p ≡ p' → D ≡ D' → N ≡ N' → k ≡ k' → r ≡ r' → m ≡ m' → header_of p D N k r m ≡ header_of p' D' N' k' r' m'
header-same {p} {p'} {D} {D'} {N} {N'} {k} {k'} {r} {r'} {m} {m'} e f g h i j =
    ap (λ x. header_of x D N k r m) e ∙ ap (λ x. header_of p' x N k r m) f ∙ ap (λ x. header_of p' D' x k r m) g ∙ ap (λ x. header_of p' D' N' x r m) h
    ∙ ap (λ x. header_of p' D' N' k' x m) i ∙ ap (λ x. header_of p' D' N' k' r' x) j

module _ (s : List ℕ) where
  pub sound-good : Sound s → Good (content_of s)
  sound-good h = record {
    prime = h.prime;
    small = h.small;
    degree-low = h.degree-low;
    degree-high = h.degree-high;
    width-high = h.width-high;
    terms-low = h.terms-low;
    terms-high = h.terms-high;
    reduced = h.polynomial-reduced;
    top = h.polynomial-monic;
    lengths = h.lengths;
    reached = h.reached;
    factors = h.factors;
    factors-reduced = h.factors-reduced;
    factors-rest = h.factors-rest;
  }

  pub sound-terms : Sound s → terms s ≤ width s
  sound-terms h = good-terms (content_of s) (sound-good h)

  pub sound-words : Sound s → (i : ℕ) → i < end s → word s i ≡ word (sheet_words (content_of s)) i
  sound-words h =
      let c = content_of s in
      by-region (λ i. word s i ≡ word (sheet_words c) i) (degree s) (width s) (count s) (let a = h.terms-low in let b = sound-terms h in omega arith)
      (λ i l. h.header i l ∙ sym (word-header c i l)) (λ j l. sym (word-known c j l)) (λ i l. sym (word-root c i l)) (λ i l. sym (word-power c i l))
      (λ j l t g. sym (word-polynomial c j t l g)) (λ j l t g. sym (word-factors c j t l g))

  module _ (c : Content) (agree : (i : ℕ) → i < size c → word s i ≡ word (sheet_words c) i) where
    at-header : (i : ℕ) → i < lengths_from → word s i ≡ word (header_words c) i
    at-header i l = agree i (omega arith) ∙ word-header c i l

    pub words-content : SameContent c (content_of s)
    words-content =
        let eD : degree s ≡ c.D = at-header 1 (omega arith) in
        let eN : width s ≡ c.N = at-header 2 (omega arith) in
        let er : count s ≡ c.r = at-header 4 (omega arith) in
        record {
          modulus = sym (at-header 0 (omega arith));
          degree = sym eD;
          width = sym eN;
          terms = sym (at-header 3 (omega arith));
          count = sym er;
          reach = sym (at-header 10 (omega arith));
          lengths = λ j l. sym (agree (lengths_from + j) (omega arith) ∙ word-known c j l);
          roots = λ i l. sym (ap (λ d. word s (roots_from d + 2 * i)) eD ∙ agree (roots_from c.D + 2 * i) (omega arith) ∙ word-root c i l);
          powers = λ i l. sym (ap (λ d. word s (roots_from d + 2 * i + 1)) eD ∙ agree (roots_from c.D + 2 * i + 1) (omega arith) ∙ word-power c i l);
          polynomial = λ j t l g. sym (ap₂ (λ r n. word s (polynomial_from (degree s) r + j * n + t)) er eN ∙ ap (λ d. word s (polynomial_from d c.r + j * c.N + t)) eD
              ∙ agree _ (omega (arith, in_rows (c.D + 1) c.N j t (omega arith) g)) ∙ word-polynomial c j t l g);
          factors = λ j t l g. sym (ap₂ (λ r n. word s (factors_from (degree s) n r + j * n + t)) er eN ∙ ap (λ d. word s (factors_from d c.N c.r + j * c.N + t)) eD
              ∙ agree _ (omega (arith, in_rows c.D c.N j t l g)) ∙ word-factors c j t l g);
        }

    pub words-end : end s ≡ size c
    words-end = sym (same_size c (content_of s) words-content)

    pub words-sound : Good c → size c ≤ length s → Sound s
    words-sound h fits =
        let e = words-content in
        let g = good-move c (content_of s) e h in
        let eD = e.degree in let eN = e.width in let er = e.count in
        let z = words-end in
        record {
          prime = g.prime;
          small = g.small;
          degree-low = g.degree-low;
          degree-high = g.degree-high;
          width-high = g.width-high;
          terms-low = g.terms-low;
          terms-high = g.terms-high;
          header = λ i l. at-header i l ∙ ap (λ x. word x i) (header-same e.modulus eD eN e.terms er e.reach);
          long = omega arith;
          polynomial-reduced = g.reduced;
          polynomial-monic = g.top;
          lengths = g.lengths;
          reached = g.reached;
          factors = g.factors;
          factors-reduced = g.factors-reduced;
          factors-rest = g.factors-rest;
        }

-- the first T words, as a list
pub sound-take : (s : List ℕ) → Sound s → take (end s) s ≡ sheet_words (content_of s)
sound-take s h =
    let a : length (take (end s) s) ≡ end s = length-take-le (end s) s h.long in
    ext_get_or 0 (take (end s) s) (sheet_words (content_of s)) (a ∙ sym (length-sheet (content_of s)))
    (λ i l. let l' : i < end s = omega arith in get_or-take (end s) s i 0 l' ∙ sound-words s h i l')

-- two slices with the same first T words
module _ (u : List ℕ) (h : Sound u) (s : List ℕ) (agree : (i : ℕ) → i < end u → word s i ≡ word u i) where
  agree-words : (i : ℕ) → i < end u → word s i ≡ word (sheet_words (content_of u)) i
  agree-words i l = agree i l ∙ sound-words u h i l

  pub end-ext : end s ≡ end u
  end-ext = words-end s (content_of u) agree-words

  pub sound-ext : end u ≤ length s → Sound s
  sound-ext = words-sound s (content_of u) agree-words (sound-good u h)
